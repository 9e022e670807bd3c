-- What holds items has a notation: a text that isn't UTF-8 is a flaw.
use Rattle.std.specs.Prelude.{◌≡◌, ◌∷◌}
use Rattle.cborn_engine.proofs.Common.{ℕ, inl, inr, List, [], false, refl, sym, ◌∙◌, IsUtf8, is_utf8, is_utf8-from_IsUtf8, Chunk, Value, values_of, trees, Tree, Text, TextChunks, Items, Pairs, Tagged, Trees, no_item, more, Entries, no_entry, entry, Within, WithinAll, WithinEntries, HasBadChunk, FlawAt, IsBadText, IsBadAmong, IsBadInPairs, IsBadChunk, AreShowable, Wellformed, IsUnshown, Holds, sound_all, all_mean, same_showable, Kind}
use Rattle.cborn_judge.specs.declared.faults.InvalidReason.TheVariants.{NotUtf8}
use Rattle.cborn_engine.proofs.Held.SameNodes.{same_nodes}

no_utf8 : (b : List ℕ) → is_utf8 b ≡ false → IsUtf8 b → ⊥
no_utf8 b e u = let t = is_utf8-from_IsUtf8 b u in cc

chunk_flawed : (cs : List Chunk) (p : ℕ) → IsBadChunk cs p → HasBadChunk cs p
chunk_flawed [] p h = absurd h
chunk_flawed (c ∷ cs) p (inl h) = inl (h.0, no_utf8 c.bytes h.1)
chunk_flawed (c ∷ cs) p (inr h) = inr (chunk_flawed cs p h)

module _ (p : ℕ) where
  mutual
    flawed_in : (t : Tree) → IsBadText t p → (q : Tree) × Within q t × FlawAt q p NotUtf8
    flawed_in (Text s w b) h = (Text s w b, refl, (h.0, refl, no_utf8 b h.1))
    flawed_in (TextChunks s cs) h = (TextChunks s cs, refl, (refl, chunk_flawed cs p h))
    flawed_in (Items s z ts) h = let g = flawed_among ts h in (g.0, inr g.1, g.2)
    flawed_in (Pairs s z es) h = let g = flawed_in_pairs es h in (g.0, inr g.1, g.2)
    flawed_in (Tagged s w n t) h = let g = flawed_in t h in (g.0, inr g.1, g.2)
    flawed_in _ h = absurd h

    flawed_among : (ts : Trees) → IsBadAmong ts p → (q : Tree) × WithinAll q ts × FlawAt q p NotUtf8
    flawed_among no_item h = absurd h
    flawed_among (more t ts) (inl h) = let g = flawed_in t h in (g.0, inl g.1, g.2)
    flawed_among (more t ts) (inr h) = let g = flawed_among ts h in (g.0, inr g.1, g.2)

    flawed_in_pairs : (es : Entries) → IsBadInPairs es p → (q : Tree) × WithinEntries q es × FlawAt q p NotUtf8
    flawed_in_pairs no_entry h = absurd h
    flawed_in_pairs (entry k v es) (inl h) = let g = flawed_in k h in (g.0, inl g.1, g.2)
    flawed_in_pairs (entry k v es) (inr (inl h)) = let g = flawed_in v h in (g.0, inr (inl g.1), g.2)
    flawed_in_pairs (entry k v es) (inr (inr h)) = let g = flawed_in_pairs es h in (g.0, inr (inr g.1), g.2)

-- where no text is bad, there is a notation
pub good_shows : (limit most : ℕ) (x : List ℕ) (nodes : Trees) (p : ℕ) → Wellformed most nodes x → AreShowable nodes → IsUnshown limit x p → ⊥
good_shows limit most x nodes p read good u =
    same_showable nodes (trees u.nodes) (same_nodes nodes (trees u.nodes) read.fit u.read.fit (read.spells ∙ sym u.read.spells)) read.fit good p u.lowest.is

module _ (limit : ℕ) (x : List ℕ) (items : List Value) (h : Holds Kind.Wire limit x items) where
  showable : AreShowable (trees h.nodes)
  showable p b = let f = flawed_among p (trees h.nodes) b in sound_all (trees h.nodes) (values_of items) (all_mean h.nodes items h.meant) f.0 f.1 p NotUtf8 f.2

  -- bytes that hold items have a notation
  pub held_shows : (p : ℕ) → IsUnshown limit x p → ⊥
  held_shows p = good_shows limit limit x (trees h.nodes) p h.spelled showable
