-- A node that means an item has no defect exactly if it spells the item's encoding.
use Rattle.std.specs.Prelude.{◌≡◌, ◌≢◌, ◌⊎◌, ◌∷◌}
use Rattle.cborn_judge.proofs.Common.{arith, ℕ, inl, inr, List, [], length, refl, sym, subst, Ordering, Less, Within, WithinAll, WithinEntries, IsLong, SizeDefect, NotAbove, Descends, HasDescent, DefectAt, Defect, SequenceDefect, DefectReason, LongHead, EndlessLength, LooseBignum, KeyOrder, Value, Values, Couples, no_values, value, no_pairs, pair, IsProper, AreProper, Width, least, Det, DetValues, keys, IsKeyOrder, Rising, Size, Tree, Uint, Nint, Bytes, Text, ByteChunks, TextChunks, Items, Pairs, Tagged, Simple, Trees, no_item, more, Entries, no_entry, entry, count, count_entries, place, Fixed, Endless, spelled, spelled_all, Fits, FitsAll, FitsEntries, Means, AllMean, EntriesMean, spelled_pairs, SizeIsTidy, IsTidy, AllTidy, EntriesTidy, one_of_same, same_itself, counted}
use Rattle.cborn_judge.proofs.Meaning.Judging.{inner_means, within_itself}
use Rattle.cborn_judge.proofs.Encoded.Tidying.{tidy_det, det_tidy, all_det, all_tidy, tidy_proper}

same_or_not : (v w : Width) → (v ≡ w) ⊎ (v ≢ w)
same_or_not v w = grind arith

less_or_not : (o : Ordering) → (o ≡ Less) ⊎ (o ≢ Less)
less_or_not o = grind arith

not_long : (w : Width) (n : ℕ) → (IsLong w n → ⊥) → w ≡ least n
not_long w n h = elim (same_or_not w (least n)) [ inl e ↦ e | inr e ↦ absurd (h e) ]

module _ (order : List ℕ → List ℕ → Ordering) (laws : IsKeyOrder order) where
  -- ---- a tidy node has no defect

  -- what the proofs know of a node
  abbrev Known : Tree → Type 0
  Known t = Fits t × IsTidy order t

  mutual
    within_known : (q t : Tree) → Known t → Within q t → Known q
    within_known q (Items p s ts) k (inl i) = subst Known (sym i) k
    within_known q (Items p s ts) k (inr i) = within_all q ts k.0.1 k.1.1 i
    within_known q (Pairs p s es) k (inl i) = subst Known (sym i) k
    within_known q (Pairs p s es) k (inr i) = within_entries q es k.0.1 k.1.1 i
    within_known q (Tagged p w n t) k (inl i) = subst Known (sym i) k
    within_known q (Tagged p w n t) k (inr i) = within_known q t (k.0.1, k.1.1) i
    within_known q _ k i = subst Known (sym i) k

    within_all : (q : Tree) (ts : Trees) → FitsAll ts → AllTidy order ts → WithinAll q ts → Known q
    within_all q no_item f y i = absurd i
    within_all q (more t ts) f y (inl i) = within_known q t (f.0, y.0) i
    within_all q (more t ts) f y (inr i) = within_all q ts f.1 y.1 i

    within_entries : (q : Tree) (es : Entries) → FitsEntries es → EntriesTidy order es → WithinEntries q es → Known q
    within_entries q no_entry f y i = absurd i
    within_entries q (entry a b es) f y (inl i) = within_known q a (f.0, y.0) i
    within_entries q (entry a b es) f y (inr (inl i)) = within_known q b (f.1, y.1) i
    within_entries q (entry a b es) f y (inr (inr i)) = within_entries q es f.2 y.2 i

  -- the encoding of what a tidy node means is what it spells
  spells_it : (t : Tree) (v : Value) (x : List ℕ) → Known t → Means t v → Det order v x → x ≡ spelled t
  spells_it t v x k m d =
      let p : IsProper v = tidy_proper order t v k.0 k.1 m in
      one_of_same order laws v v x (spelled t) p p (same_itself v) d (tidy_det order t v k.0 m k.1)

  not_descending : (k l : Tree) → Known k → Known l → order (spelled k) (spelled l) ≡ Less → NotAbove order k l → ⊥
  not_descending k l h1 h2 h3 h4 = grind (arith, spells_it)

  rises_along : (k : Tree) (es : Entries) (p : ℕ) → Known k → FitsEntries es → EntriesTidy order es → Rising order (spelled k ∷ keys (spelled_pairs es)) → Descends order k es p → ⊥
  rises_along k no_entry p h f y r d = d
  rises_along k (entry l u es) p h f y r (inl d) = not_descending k l h (f.0, y.0) r.0 d.1
  rises_along k (entry l u es) p h f y r (inr d) = rises_along l es p (f.0, y.0) f.2 y.2 r.1 d

  no_descent : (es : Entries) (p : ℕ) → FitsEntries es → EntriesTidy order es → Rising order (keys (spelled_pairs es)) → HasDescent order es p → ⊥
  no_descent es p h1 h2 h3 h4 = grind (arith, rises_along)

  fixed_size : (s : Size) (n : ℕ) (r : DefectReason) → SizeIsTidy s n → SizeDefect s n r → ⊥
  fixed_size (Fixed w) n r h d = d.1 h
  fixed_size Endless n r h d = h

  tidy_node : (t : Tree) (p : ℕ) (r : DefectReason) → Known t → DefectAt order t p r → ⊥
  tidy_node t p r h1 h2 = grind (arith, fixed_size, no_descent)

  -- ---- a node without a defect is tidy

  abbrev IsClean : Tree → Type 0
  IsClean t = (q : Tree) → Within q t → (p : ℕ) (r : DefectReason) → DefectAt order q p r → ⊥

  abbrev AreClean : Trees → Type 0
  AreClean ts = (q : Tree) → WithinAll q ts → (p : ℕ) (r : DefectReason) → DefectAt order q p r → ⊥

  abbrev EntriesClean : Entries → Type 0
  EntriesClean es = (q : Tree) → WithinEntries q es → (p : ℕ) (r : DefectReason) → DefectAt order q p r → ⊥

  size_tidy : (s : Size) (n : ℕ) → ((r : DefectReason) → SizeDefect s n r → ⊥) → SizeIsTidy s n
  size_tidy (Fixed w) n h = not_long w n (λ l. h LongHead (refl, l))
  size_tidy Endless n h = h EndlessLength refl

  above : (k l : Tree) (a b : Value) → Fits k → Fits l → Means k a → Means l b → IsTidy order k → IsTidy order l → (NotAbove order k l → ⊥) → order (spelled k) (spelled l) ≡ Less
  above k l a b f g m n t u h =
      elim (less_or_not (order (spelled k) (spelled l))) [
        | inl e ↦ e
        | inr e ↦ absurd (h (a, b, spelled k, spelled l, m, n, tidy_det order k a f m t, tidy_det order l b g n u, e))
      ]

  rising_after : (k : Tree) (a : Value) (es : Entries) (ps : Couples) → Fits k → Means k a → IsTidy order k → FitsEntries es → EntriesMean es ps → EntriesTidy order es → ((p : ℕ) → Descends order k es p → ⊥) → Rising order (spelled k ∷ keys (spelled_pairs es))
  rising_after k a no_entry ps f m t g n u h = tt
  rising_after k a (entry l v es) no_pairs f m t g n u h = absurd n
  rising_after k a (entry l v es) (pair b c ps) f m t g n u h =
      (above k l a b f g.0 m n.0 t u.0 (λ d. h (place l) (inl (refl, d))), rising_after l b es ps g.0 n.0 u.0 g.2 n.2 u.2 (λ p d. h p (inr d)))

  rising_keys : (es : Entries) (ps : Couples) → FitsEntries es → EntriesMean es ps → EntriesTidy order es → ((p : ℕ) → HasDescent order es p → ⊥) → Rising order (keys (spelled_pairs es))
  rising_keys no_entry ps g n u h = tt
  rising_keys (entry k v es) no_pairs g n u h = absurd n
  rising_keys (entry k v es) (pair a b ps) g n u h = rising_after k a es ps g.0 n.0 u.0 g.2 n.2 u.2 h

  -- the content of a tag means something, a bignum's too
  content_means : (p : ℕ) (w : Width) (n : ℕ) (t : Tree) (v : Value) → Means (Tagged p w n t) v → (u : Value) × Means t u
  content_means p w n t v m = inner_means t (Tagged p w n t) v m (inr (within_itself t))

  mutual
    clean_tidy : (t : Tree) (v : Value) → Fits t → Means t v → IsClean t → IsTidy order t
    clean_tidy (Uint p w n) v f m h = not_long w n (λ l. h (Uint p w n) refl p LongHead (refl, refl, l))
    clean_tidy (Nint p w n) v f m h = not_long w n (λ l. h (Nint p w n) refl p LongHead (refl, refl, l))
    clean_tidy (Bytes p w b) v f m h = not_long w (length b) (λ l. h (Bytes p w b) refl p LongHead (refl, refl, l))
    clean_tidy (Text p w b) v f m h = not_long w (length b) (λ l. h (Text p w b) refl p LongHead (refl, refl, l))
    clean_tidy (ByteChunks p cs) v f m h = h (ByteChunks p cs) refl p EndlessLength (inl (refl, refl))
    clean_tidy (TextChunks p cs) v f m h = h (TextChunks p cs) refl p EndlessLength (inl (refl, refl))
    clean_tidy (Items p s ts) v f m h =
        (size_tidy s (count ts) (λ r d. h (Items p s ts) (inl refl) p r (refl, d)), clean_all ts m.0 f.1 m.1 (λ q i. h q (inr i)))
    clean_tidy (Pairs p s es) v f m h =
        let t = clean_entries es m.0 f.1 m.1 (λ q i. h q (inr i)) in
        (size_tidy s (count_entries es) (λ r d. h (Pairs p s es) (inl refl) p r (inl (refl, d))), t, rising_keys es m.0 f.1 m.1 t (λ p' d. h (Pairs p s es) (inl refl) p' KeyOrder (inr (refl, d))))
    clean_tidy (Tagged p w n t) v f m h = (
      not_long w n (λ l. h (Tagged p w n t) (inl refl) p LongHead (refl, inl (refl, l))),
      (let u = content_means p w n t v m in clean_tidy t u.0 f.1 u.1 (λ q i. h q (inr i))),
      λ b tag is l. h (Tagged p w n t) (inl refl) p LooseBignum (refl, inr (refl, tag, b, is, l)),
    )
    clean_tidy (Simple p n) v f m h = tt

    clean_all : (ts : Trees) (vs : Values) → FitsAll ts → AllMean ts vs → AreClean ts → AllTidy order ts
    clean_all no_item vs f m h = tt
    clean_all (more t ts) no_values f m h = absurd m
    clean_all (more t ts) (value v vs) f m h = (clean_tidy t v f.0 m.0 (λ q i. h q (inl i)), clean_all ts vs f.1 m.1 (λ q i. h q (inr i)))

    clean_entries : (es : Entries) (ps : Couples) → FitsEntries es → EntriesMean es ps → EntriesClean es → EntriesTidy order es
    clean_entries no_entry ps f m h = tt
    clean_entries (entry k v es) no_pairs f m h = absurd m
    clean_entries (entry k v es) (pair a b ps) f m h =
        (clean_tidy k a f.0 m.0 (λ q i. h q (inl i)), clean_tidy v b f.1 m.1 (λ q i. h q (inr (inl i))), clean_entries es ps f.2 m.2 (λ q i. h q (inr (inr i))))

  -- ---- the check

  pub check_sound : (t : Tree) (v : Value) → Fits t → Means t v → ((p : ℕ) (r : DefectReason) → Defect order t p r → ⊥) → Det order v (spelled t)
  check_sound t v f m h = tidy_det order t v f m (clean_tidy t v f m (λ q i p r d. h p r (v, m, q, i, d)))

  pub check_whole : (t : Tree) (v : Value) → Fits t → IsProper v → Means t v → Det order v (spelled t) → (p : ℕ) (r : DefectReason) → Defect order t p r → ⊥
  check_whole t v f g m d p r (u, n, q, i, h) = tidy_node q p r (within_known q t (f, (det_tidy order t v [] (spelled t) [] f g d refl).2) i) h

  -- and of a sequence
  pub check_sequence_sound : (ts : Trees) (vs : Values) → FitsAll ts → AllMean ts vs → ((p : ℕ) (r : DefectReason) → SequenceDefect order ts p r → ⊥) → DetValues order vs (spelled_all ts)
  check_sequence_sound ts vs f m h = all_det order ts vs f m (clean_all ts vs f m (λ q i p r d. h p r (vs, m, q, i, d)))

  pub check_sequence_whole : (ts : Trees) (vs : Values) → FitsAll ts → AreProper vs → AllMean ts vs → DetValues order vs (spelled_all ts) → (p : ℕ) (r : DefectReason) → SequenceDefect order ts p r → ⊥
  check_sequence_whole ts vs f g m d p r (ws, n, q, i, h) =
      tidy_node q p r (within_all q ts f (all_tidy order ts vs (spelled_all ts) [] [] (counted ts vs m) f g d refl).2 i) h
