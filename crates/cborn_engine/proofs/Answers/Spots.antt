-- The flaws of what a text notates: each is at a spot, and spots rise, so that the first flaw of all is that of the first node that means nothing.
use Rattle.std.specs.Prelude.{◌≡◌, ◌<◌, ◌∷◌, ◌++◌}
use Rattle.cborn_engine.proofs.Common.{arith, ℕ, inl, inr, List, [], sym, subst, Chunk, Tree, Items, Pairs, Tagged, Trees, no_item, more, Entries, no_entry, entry, place, trees, Within, WithinAll, WithinEntries, IsRepeated, HasRepeat, HasBadChunk, FlawAt, Flaw, InvalidReason, IsIn, at_member, AreApart}
use Rattle.cborn_edn.specs.Starts.{starts_of_chunks, unless_bytes, spots, spots_all, spots_entries, IsRising}

-- ---- flaws are at spots

in_left : (p : ℕ) (xs ys : List ℕ) → IsIn p xs → IsIn p (xs ++ ys)
in_left p [] ys i = absurd i
in_left p (x ∷ xs) ys (inl e) = inl e
in_left p (x ∷ xs) ys (inr i) = inr (in_left p xs ys i)

in_right : (p : ℕ) (xs ys : List ℕ) → IsIn p ys → IsIn p (xs ++ ys)
in_right p [] ys i = i
in_right p (x ∷ xs) ys i = inr (in_right p xs ys i)

own_spot : (t : Tree) → IsIn (place t) (spots t)
own_spot t = grind (arith, inl)

later_spot : (k v : Tree) (es : Entries) (p : ℕ) → IsIn p (spots_entries es) → IsIn p (spots_entries (entry k v es))
later_spot k v es p i = in_right p (spots k) (spots v ++ spots_entries es) (in_right p (spots v) (spots_entries es) i)

repeated_spot : (k : Tree) (es : Entries) (p : ℕ) → IsRepeated k es p → IsIn p (spots_entries es)
repeated_spot k no_entry p h = absurd h
repeated_spot k (entry l v es) p (inl h) = in_left p (spots l) (spots v ++ spots_entries es) (subst (λ z. IsIn z (spots l)) (sym h.0) (own_spot l))
repeated_spot k (entry l v es) p (inr h) = later_spot l v es p (repeated_spot k es p h)

repeat_spot : (es : Entries) (p : ℕ) → HasRepeat es p → IsIn p (spots_entries es)
repeat_spot no_entry p h = absurd h
repeat_spot (entry k v es) p (inl h) = later_spot k v es p (repeated_spot k es p h)
repeat_spot (entry k v es) p (inr h) = later_spot k v es p (repeat_spot es p h)

bad_chunk_spot : (cs : List Chunk) (p : ℕ) → HasBadChunk cs p → IsIn p (starts_of_chunks cs)
bad_chunk_spot [] p h = absurd h
bad_chunk_spot (c ∷ cs) p (inl h) = inl h.0
bad_chunk_spot (c ∷ cs) p (inr h) = inr (bad_chunk_spot cs p h)

flaw_at_spot : (t : Tree) (p : ℕ) (r : InvalidReason) → FlawAt t p r → IsIn p (spots t)
flaw_at_spot t p r h1 = grind (arith, bad_chunk_spot, inl, inr, repeat_spot)

module _ (q : Tree) (p : ℕ) (r : InvalidReason) (h : FlawAt q p r) where
  own_flaw : (t : Tree) → q ≡ t → FlawAt t p r
  own_flaw t e = subst (λ (z : Tree). FlawAt z p r) e h

  own : (t : Tree) → q ≡ t → IsIn p (spots t)
  own t e = flaw_at_spot t p r (own_flaw t e)

  -- a byte string has no flaw
  under_tag : (t : Tree) → Within q t → IsIn p (spots t) → IsIn p (unless_bytes t (spots t))
  under_tag t h1 h2 = grind (arith, own_flaw)

  mutual
    spot_in : (t : Tree) → Within q t → IsIn p (spots t)
    spot_in (Items s z ts) (inl e) = own (Items s z ts) e
    spot_in (Items s z ts) (inr i) = inr (spot_among ts i)
    spot_in (Pairs s z es) (inl e) = own (Pairs s z es) e
    spot_in (Pairs s z es) (inr i) = inr (spot_in_pairs es i)
    spot_in (Tagged s w n t) (inl e) = own (Tagged s w n t) e
    spot_in (Tagged s w n t) (inr i) = inr (under_tag t i (spot_in t i))
    spot_in x e = own x e

    spot_among : (ts : Trees) → WithinAll q ts → IsIn p (spots_all ts)
    spot_among no_item i = absurd i
    spot_among (more t ts) (inl i) = in_left p (spots t) (spots_all ts) (spot_in t i)
    spot_among (more t ts) (inr i) = in_right p (spots t) (spots_all ts) (spot_among ts i)

    spot_in_pairs : (es : Entries) → WithinEntries q es → IsIn p (spots_entries es)
    spot_in_pairs no_entry i = absurd i
    spot_in_pairs (entry k v es) (inl i) = in_left p (spots k) (spots v ++ spots_entries es) (spot_in k i)
    spot_in_pairs (entry k v es) (inr (inl i)) = in_right p (spots k) (spots v ++ spots_entries es) (in_left p (spots v) (spots_entries es) (spot_in v i))
    spot_in_pairs (entry k v es) (inr (inr i)) = later_spot k v es p (spot_in_pairs es i)

pub flaw_spot : (t : Tree) (p : ℕ) (r : InvalidReason) → Flaw t p r → IsIn p (spots t)
flaw_spot t p r (q, i, h) = spot_in q p r h t i

-- ---- spots rise

before : (p q : ℕ) (xs ys : List ℕ) → IsRising (xs ++ ys) → IsIn p xs → IsIn q ys → p < q
before p q [] ys h i j = absurd i
before p q (x ∷ xs) ys h (inl e) j = subst (λ z. z < q) (sym e) (at_member (λ z. x < z) q (xs ++ ys) (in_right q xs ys j) h.0)
before p q (x ∷ xs) ys h (inr i) j = before p q xs ys h.1 i j

after_rising : (xs ys : List ℕ) → IsRising (xs ++ ys) → IsRising ys
after_rising [] ys h = h
after_rising (x ∷ xs) ys h = after_rising xs ys h.1

pub rising_apart : (ts : List Tree) → IsRising (spots_all (trees ts)) → AreApart ts
rising_apart [] h = tt
rising_apart (t ∷ ts) h = (λ p q r s f g. before p q (spots t) (spots_all (trees ts)) h (flaw_spot t p r f) (spot_among g.0 q s g.2 (trees ts) g.1), rising_apart ts (after_rising (spots t) (spots_all (trees ts)) h))
