-- The rows of a map and the pairs of its nodes: which keys are the same, which isn't above the one before it, and what the map is encoded as.
use Rattle.std.specs.Prelude.{◌≡◌, ◌≢◌, ◌∷◌, ◌++◌, ◌↔◌}
use Rattle.cborn_judge.proofs.Common.{ℕ, inl, inr, List, [], length, refl, sym, ap, ◌∙◌, subst, arith, None, Ordering, Less, AllZip, IsPermutation-refl, least, IsLeastHead, Means, EntriesMean, IsKeyOrder, Rising, paired, Tree, Pairs, entries, place, IsProper, HasProperPairs, Value, Couples, dict, no_pairs, pair, pair_count, Size, DefectReason, InvalidReason, Det, DetPairs, keys, joined, IsRepeated, HasRepeat, Descends, HasDescent, DescentAt, RepeatFlaw, Row, row_entries, IsSameKey, HasSameKeys, RowRepeat, AreFilled, filled_keys, Falls, HasFall, RowDescent, AreArranged, IsEncodedAs, Coded, AreRows, count_entries-entries, same_of_one, one_of_same, holds_below, counted_pairs, some_bytes}
use Rattle.cborn_model.specs.Partial.{last_key}
use Rattle.cborn_judge.proofs.FirstDefect.{above_by_code}
use Rattle.cborn_judge.proofs.Meaning.Judging.{new_keys}
use Rattle.cborn_judge.proofs.Meaning.Meanings.{means_once}
use Rattle.cborn_det.proofs.Rising.{never_itself}
use Rattle.cborn_judge.specs.Flaws.{MeanSame}
use Rattle.cborn_judge.proofs.Loops.{same, both_ways}
use Rattle.cborn_judge.proofs.SameKeys.{nothing_repeated}

-- ---- keys and values in turn

pub sound_paired : (ts : List Tree) (vs : List Value) → last_key ts ≡ None → AllZip Means ts vs → (ps : Couples) × EntriesMean (entries (paired ts)) ps
sound_paired [] vs l h = (no_pairs, tt)
sound_paired (k ∷ []) vs l h = cc
sound_paired (k ∷ v ∷ ts) [] l h = absurd h
sound_paired (k ∷ v ∷ ts) (a ∷ []) l h = absurd h.1
sound_paired (k ∷ v ∷ ts) (a ∷ b ∷ vs) l h = let r = sound_paired ts vs l h.1.1 in (pair a b r.0, (h.0, h.1.0, r.1))

pub paired_sound : (ts : List Tree) (ps : Couples) → last_key ts ≡ None → EntriesMean (entries (paired ts)) ps → (vs : List Value) × AllZip Means ts vs
paired_sound [] ps l h = ([], tt)
paired_sound (k ∷ []) ps l h = cc
paired_sound (k ∷ v ∷ ts) no_pairs l h = absurd h
paired_sound (k ∷ v ∷ ts) (pair a b ps) l h = let r = paired_sound ts ps l h.2 in (a ∷ b ∷ r.0, (h.0, (h.1, r.1)))

-- ---- keys that have an encoding

pub keys-filled : (rs : List Row) → AreFilled rs → filled_keys rs ≡ keys (row_entries rs)
keys-filled [] h = refl
keys-filled ((p, [], v) ∷ rs) h = absurd (h.0.0 refl)
keys-filled ((p, b ∷ bs, v) ∷ rs) h = ap (λ l. (b ∷ bs) ∷ l) (keys-filled rs h.1)

module _ (order : List ℕ → List ℕ → Ordering) where
  -- the row of a key and its value
  abbrev pub IsRow : Tree × Tree → Row → Type 0
  IsRow n r = (r.0 ≡ place n.0) × Coded order n.0 r.1 × Coded order n.1 r.2

  pub paired_rows : (ts : List Tree) (rs : List Row) → last_key ts ≡ None → AreRows order ts rs → AllZip IsRow (paired ts) rs
  paired_rows [] [] l h = tt
  paired_rows (k ∷ []) rs l h = cc
  paired_rows (k ∷ v ∷ ts) (r ∷ rs) l h = ((h.0, h.1, h.2), paired_rows ts rs l h.3)
  paired_rows _ _ l h = absurd h

  not_empty : (v : Value) (x : List ℕ) → Det order v x → x ≢ []
  not_empty v x d e = omega (arith, some_bytes order v x d, ap length e)

  -- ---- what a node means that means something

  meant : (t : Tree) (v : Value) (x : List ℕ) → Coded order t x → Means t v → IsProper v × Det order v x
  meant t v x h1 h2 = grind (arith, means_once)

  -- each node means something
  pub record AreWritten (rs : List Row) (ps : Couples) : Type 0 where
    pub filled : AreFilled rs
    pub proper : HasProperPairs ps
    pub written : DetPairs order ps (row_entries rs)

  pub written : (ns : List (Tree × Tree)) (rs : List Row) (ps : Couples) → AllZip IsRow ns rs → EntriesMean (entries ns) ps → AreWritten rs ps
  written [] [] no_pairs h m = record { filled = tt; proper = tt; written = tt }
  written (n ∷ ns) (r ∷ rs) (pair a b ps) h m =
      let k = meant n.0 a r.1 h.0.1 m.0 in
      let v = meant n.1 b r.2 h.0.2 m.1 in
      let w = written ns rs ps h.1 m.2 in
      record {
        filled = ((not_empty a r.1 k.1, not_empty b r.2 v.1), w.filled);
        proper = (k.0, v.0, w.proper);
        written = (k.1, v.1, w.written);
      }
  written _ _ _ h m = absurd (search (h, m))

  -- of rows whose keys rise
  pub as_they_stand : (rs : List Row) → AreFilled rs → Rising order (filled_keys rs) → AreArranged order rs (joined (row_entries rs))
  as_they_stand rs f h = (row_entries rs, IsPermutation-refl (row_entries rs), subst (Rising order) (keys-filled rs f) h, refl)

  pub map_encoded : (p : ℕ) (s : Size) (ns : List (Tree × Tree)) (rs : List Row) (ps : Couples) (h x : List ℕ) → AllZip IsRow ns rs → EntriesMean (entries ns) ps → ((q : ℕ) → HasRepeat (entries ns) q → ⊥) → IsLeastHead 5 (length ns) h → AreArranged order rs x
      → IsEncodedAs order (Pairs p s (entries ns)) (h ++ x)
  map_encoded p s ns rs ps h x z m n l a =
      let w = written ns rs ps z m in
      let new = new_keys (entries ns) ps m n in
      let count : length ns ≡ pair_count ps = sym (count_entries-entries ns) ∙ sym (counted_pairs (entries ns) ps m) in
      let head : IsLeastHead 5 (pair_count ps) h = subst (λ k. IsLeastHead 5 k h) count l in
      (dict ps, (ps, m, new, refl), (w.proper, new, holds_below (least (pair_count ps)) (pair_count ps) head.0), (h, row_entries rs, a.0, head, w.written, a.1, a.2, ap (λ y. h ++ y) a.3))

  module _ (laws : IsKeyOrder order) where
    -- ---- which keys are the same

    same_key : (k n : Tree) (x y : List ℕ) → IsEncodedAs order k x → Coded order n y → (y ≡ x) ↔ MeanSame k n
    same_key k n x y (a, m, g, d) (inl (c, o, u, e)) = grind (arith, means_once, one_of_same, same_of_one)
    same_key k n x y (a, m, g, d) (inr (z, none)) = ((λ q. absurd (not_empty a x d (sym q ∙ z))), (λ s. absurd (none s.1 s.3)))

    -- a key that means the same as k
    repeated_rows : (k : Tree) (x : List ℕ) (ns : List (Tree × Tree)) (rs : List Row) (p : ℕ) → IsEncodedAs order k x → AllZip IsRow ns rs → IsSameKey x rs p ↔ IsRepeated k (entries ns) p
    repeated_rows k x [] [] p e h = same
    repeated_rows k x (n ∷ ns) (r ∷ rs) p e h =
        let s = same_key k n.0 x r.1 e h.0.1 in
        both_ways ((λ q. (q.0 ∙ h.0.0, s.0 q.1)), (λ q. (q.0 ∙ sym h.0.0, s.1 q.1))) (repeated_rows k x ns rs p e h.1)
    repeated_rows k x _ _ p e h = absurd h

    repeat_rows : (ns : List (Tree × Tree)) (rs : List Row) (p : ℕ) → AllZip IsRow ns rs → HasSameKeys rs p ↔ HasRepeat (entries ns) p
    repeat_rows [] [] p h = same
    repeat_rows (n ∷ ns) (r ∷ rs) p h = both_ways (by h.0.1) (repeat_rows ns rs p h.1)
      where
        by : Coded order n.0 r.1 → ((r.1 ≢ []) × IsSameKey r.1 rs p) ↔ IsRepeated n.0 (entries ns) p
        by (inl c) = let s = repeated_rows n.0 r.1 ns rs p c h.1 in ((λ q. s.0 q.1), (λ q. (not_empty c.0 r.1 c.3, s.1 q)))
        by (inr c) = ((λ q. absurd (q.0 c.0)), (λ q. absurd (nothing_repeated n.0 (entries ns) p c.1 q)))
    repeat_rows _ _ p h = absurd h

    -- keys are the same exactly if their encodings are equal
    pub repeats : (ns : List (Tree × Tree)) (rs : List Row) → AllZip IsRow ns rs → (p : ℕ) (r : InvalidReason) → RowRepeat rs p r ↔ RepeatFlaw (entries ns) p r
    repeats ns rs h p r = let s = repeat_rows ns rs p h in ((λ q. (q.0, s.0 q.1)), (λ q. (q.0, s.1 q.1)))

    rising_skip : (k l : List ℕ) (ks : List (List ℕ)) → Rising order (k ∷ l ∷ ks) → Rising order (k ∷ ks)
    rising_skip k l [] h = tt
    rising_skip k l (m ∷ ks) h = (laws.along k l m h.0 h.1.0, h.1.1)

    rising_apart : (k : List ℕ) (rs : List Row) (p : ℕ) → k ≢ [] → Rising order (k ∷ filled_keys rs) → IsSameKey k rs p → ⊥
    rising_apart k [] p n h q = q
    rising_apart k ((o, [], v) ∷ rs) p n h (inl q) = n (sym q.1)
    rising_apart k ((o, [], v) ∷ rs) p n h (inr q) = rising_apart k rs p n h q
    rising_apart k ((o, b ∷ bs, v) ∷ rs) p n h (inl q) = never_itself order laws k (subst (λ l. order k l ≡ Less) q.1 h.0)
    rising_apart k ((o, b ∷ bs, v) ∷ rs) p n h (inr q) = rising_apart k rs p n (rising_skip k (b ∷ bs) (filled_keys rs) h) q

    -- keys that rise are the same as none of the others
    pub rising_new : (rs : List Row) (p : ℕ) → Rising order (filled_keys rs) → HasSameKeys rs p → ⊥
    rising_new [] p h q = q
    rising_new ((o, [], v) ∷ rs) p h (inl q) = q.0 refl
    rising_new ((o, [], v) ∷ rs) p h (inr q) = rising_new rs p h q
    rising_new ((o, b ∷ bs, v) ∷ rs) p h (inl q) = rising_apart (b ∷ bs) rs p q.0 h q.1
    rising_new ((o, b ∷ bs, v) ∷ rs) p h (inr q) = rising_new rs p (rest (filled_keys rs) h) q
      where
        rest : (ks : List (List ℕ)) → Rising order ((b ∷ bs) ∷ ks) → Rising order ks
        rest [] h = tt
        rest (k ∷ ks) h = h.1

    -- ---- which key isn't above the one before it

    encoded : (t : Tree) (x : List ℕ) → x ≢ [] → Coded order t x → IsEncodedAs order t x
    encoded t x h1 h2 = grind arith

    falls : (m : Tree × Tree) (c : List ℕ) (ns : List (Tree × Tree)) (rs : List Row) (p : ℕ) → IsEncodedAs order m.0 c → AllZip IsRow ns rs → AreFilled rs → Falls order c rs p ↔ Descends order m.0 (entries ns) p
    falls m c [] [] p d h f = same
    falls m c (n ∷ ns) (r ∷ rs) p d h f =
        let e = encoded n.0 r.1 f.0.0 h.0.1 in
        let a = above_by_code order laws m n c r.1 d e in
        both_ways ((λ q. (q.0 ∙ h.0.0, a.1 q.1)), (λ q. (q.0 ∙ sym h.0.0, a.0 q.1))) (falls n r.1 ns rs p e h.1 f.1)
    falls m c _ _ p d h f = absurd h

    fall : (ns : List (Tree × Tree)) (rs : List Row) (p : ℕ) → AllZip IsRow ns rs → AreFilled rs → HasFall order rs p ↔ HasDescent order (entries ns) p
    fall [] [] p h f = same
    fall (n ∷ ns) (r ∷ rs) p h f = falls n r.1 ns rs p (encoded n.0 r.1 f.0.0 h.0.1) h.1 f.1
    fall _ _ p h f = absurd h

    pub descents : (ns : List (Tree × Tree)) (rs : List Row) → AllZip IsRow ns rs → AreFilled rs → (p : ℕ) (r : DefectReason) → RowDescent order rs p r ↔ DescentAt order (entries ns) p r
    descents ns rs h f p r = ((λ q. (q.0, (fall ns rs p h f).0 q.1)), (λ q. (q.0, (fall ns rs p h f).1 q.1)))
