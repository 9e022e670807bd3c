-- Pairs that are sorted by their keys: what ties is a repeat, and where nothing does the keys rise.
use Rattle.std.specs.Prelude.{◌≡◌, ◌≢◌, ◌+◌, ◌-◌, ◌≤◌, ◌∷◌, ◌++◌, ◌↔◌}
use Rattle.cborn_judge.proofs.Common.{ℕ, inl, inr, List, [], length, map, take, drop, refl, sym, ap, ◌∙◌, subst, arith, take_at, Option, None, Ordering, true, is_lt, IsPermutation, get_or, flat_map, IsSortedBy, IsStrictWeakOrder, map-append, take-append-drop, take_rest, drop-map, drop_all, get_or-map, length-map, take-map, length-take-le, IsPermutation-map, IsPermutation-refl, IsPermutation-append_left, IsPermutation-append_right, ranks_by, Rising, IsKeyOrder, flaw_rank, InvalidReason, DuplicateKey, joined, keys, FindsDefect, KeyOrder, FindsFlaw, Row, row_entry, row_entries, Mark, AreMarked, AreFilled, AreArranged, filled_keys, HasSameKeys, RowRepeat, key_of, pair_of, row_of, FallsIn, TiesIn, mark_order, AreSorted, found_alike, All_moved, SomeFlaw}
use Rattle.std.proofs.lemmas.Cmp.{on_total, then_total, nat_cmp_total}
use Rattle.cborn_det.proofs.Arranging.{total}
use Rattle.cborn_judge.proofs.SameKeys.{IsAgain, IsTied, LieBefore, InOrder, again_tied, sorted_in_order, again_earlier, either_again, moved_in}
use Rattle.cborn_judge.proofs.Encoding.PairsRead.{is_filled, filled, begin_of, marked_read, marked_rise, IsSplit, marked_split, all_split}
use Rattle.cborn_judge.proofs.Encoding.PairsMet.{ties_all, same_again, none_falls}
use Rattle.cborn_judge.proofs.Encoding.MapsRows.{keys-filled, rising_new}

-- ---- after the sort

module _ (order : List ℕ → List ℕ → Ordering) (laws : IsKeyOrder order) (b y : List ℕ) (rows : List Row) (ms ys : List Mark) where
  -- rows that stand in a buffer after a front, and their marks, as they lie and rearranged
  pub record AreRearranged : Type 0 where
    pub stand : b ≡ y ++ joined (row_entries rows)
    pub marked : AreMarked (length y) rows ms
    pub moved : IsPermutation ms ys

  -- the repeats are found, or the keys rise
  abbrev IsApart : Option SomeFlaw → Type 0
  IsApart o = FindsFlaw (RowRepeat rows) o × (o ≡ None → AreFilled rows → AreArranged order rows (flat_map (pair_of b) ys))

  module _ (r : AreRearranged) where
    read : map (row_of b) ms ≡ rows
    read = marked_read b y rows ms (length y) refl r.stand r.marked

    rise : LieBefore is_filled (key_of b) begin_of ms
    rise = marked_rise b rows ms (length y) read r.marked

    abbrev now : List Row
    now = map (row_of b) ys

    moved_rows : IsPermutation rows now
    moved_rows = subst (λ z. IsPermutation z now) read (IsPermutation-map (row_of b) ms ys r.moved)

    filled_now : AreFilled rows → AreFilled now
    filled_now = All_moved (λ (v : Row). (v.1 ≢ []) × (v.2 ≢ [])) rows now moved_rows

    in_place : Rising order (keys (row_entries now)) → AreArranged order rows (flat_map (pair_of b) ys)
    in_place h = (row_entries now, IsPermutation-map row_entry rows now moved_rows, h, all_split b ys (All_moved (IsSplit b) ms ys r.moved (marked_split b rows ms (length y) r.marked)))

    -- ---- where they are sorted

    module _ (sorted : AreSorted order b ys) where
      in_order : InOrder order laws is_filled (key_of b) begin_of ys
      in_order = sorted_in_order order laws is_filled (key_of b) begin_of ms ys rise r.moved sorted

      repeats_found : (o : Option SomeFlaw) → FindsFlaw (TiesIn b ys) o → FindsFlaw (RowRepeat rows) o
      repeats_found o h = found_alike flaw_rank (λ f. f.place) (λ f. f.reason) (TiesIn b ys) (RowRepeat rows) o (λ p s. (to p s, from p s)) h
        where
          both : (z : Mark) → is_filled (key_of b z) ≡ true → IsAgain (key_of b) ms z ↔ IsTied (key_of b) ys z
          both z f = again_tied order laws is_filled (key_of b) begin_of ms ys z f rise r.moved in_order

          to : (p : ℕ) (s : InvalidReason) → TiesIn b ys p s → RowRepeat rows p s
          to p s (e, t) = let u = (ties_all b ys p).0 t in (e, subst (λ z. HasSameKeys z p) read ((same_again b ms p).1 (u.0, u.1, u.2, (both u.0 u.1).1 u.3)))

          from : (p : ℕ) (s : InvalidReason) → RowRepeat rows p s → TiesIn b ys p s
          from p s (e, t) = let u = (same_again b ms p).0 (subst (λ z. HasSameKeys z p) (sym read) t) in (e, (ties_all b ys p).1 (u.0, u.1, u.2, (both u.0 u.1).0 u.3))

      rise_untied : (zs : List Mark) → InOrder order laws is_filled (key_of b) begin_of zs → ((z : Mark) → is_filled (key_of b z) ≡ true → IsTied (key_of b) zs z → ⊥) → AreFilled (map (row_of b) zs) → Rising order (keys (row_entries (map (row_of b) zs)))
      rise_untied (x ∷ z ∷ zs) o n f = (elim o.0 [ inl l ↦ l | inr l ↦ absurd (n z (filled (key_of b z) f.1.0.0) (inl (refl, l.0))) ], rise_untied (z ∷ zs) o.1 (λ v g t. n v g (inr t)) f.1)
      rise_untied _ o n f = tt

      pub sorted_apart : (o : Option SomeFlaw) → FindsFlaw (TiesIn b ys) o → IsApart o
      sorted_apart o h = (
        repeats_found o h,
        λ none f. in_place (rise_untied ys in_order (λ z g t. subst (FindsFlaw (TiesIn b ys)) none h z.0 DuplicateKey (refl, (ties_all b ys z.0).1 (z, g, refl, t))) (filled_now f)),
      )

    -- ---- where no key is found that isn't above the one before it

    module _ (found : FindsDefect (FallsIn order b ys) None) where
      rising : Rising order (filled_keys now)
      rising = none_falls order b ys now refl (λ p m. found p KeyOrder (refl, m))

      none_repeated : FindsFlaw (RowRepeat rows) None
      none_repeated p s (e, t) =
          let (z, f, q, again) = (same_again b ms p).0 (subst (λ v. HasSameKeys v p) (sym read) t) in
          let (w, i, j, same, below) = again_earlier order laws is_filled (key_of b) begin_of ms z f rise again in
          let two : w ≡ z → ⊥ = λ k. let at : begin_of w ≡ begin_of z = ap begin_of k in omega (arith, below, at) in
          let new : (v : Mark) → is_filled (key_of b v) ≡ true → IsAgain (key_of b) ys v → ⊥ = λ v g a. rising_new order laws now v.0 rising ((same_again b ys v.0).1 (v, g, refl, a)) in
          elim (either_again (key_of b) ys w z (moved_in ms ys w r.moved i) (moved_in ms ys z r.moved j) same two) [
            | inl a ↦ new z f a
            | inr a ↦ new w (ap is_filled same ∙ f) a
          ]

      pub risen : IsApart None
      risen = (none_repeated, λ none f. in_place (subst (Rising order) (keys-filled now (filled_now f)) rising))

-- ---- no marks

pub none_marked : (rows : List Row) (p : ℕ) → AreMarked p rows [] → rows ≡ []
none_marked [] p a = refl
none_marked (r ∷ rows) p a = absurd a

pub none_repeats : (rows : List Row) (p q : ℕ) (r : InvalidReason) → AreMarked p rows [] → RowRepeat rows q r → ⊥
none_repeats rows p q r a h = subst (λ z. HasSameKeys z q) (none_marked rows p a) h.1

pub none_arranged : (order : List ℕ → List ℕ → Ordering) (rows : List Row) (p : ℕ) (b y : List ℕ) → AreMarked p rows [] → b ≡ y ++ joined (row_entries rows) → (x : List ℕ) × AreArranged order rows x × (b ≡ y ++ x)
none_arranged order rows p b y a e = subst (λ z. (x : List ℕ) × AreArranged order z x × (b ≡ y ++ x)) (sym (none_marked rows p a)) ([], ([], IsPermutation-refl [], tt, refl), e ∙ ap (λ z. y ++ joined (row_entries z)) (none_marked rows p a))

-- ---- what the sort says

module _ (order : List ℕ → List ℕ → Ordering) (laws : IsKeyOrder order) (b : List ℕ) {S : Type 0} (mark : S → Mark) where
  pub mark_ranks : IsStrictWeakOrder (λ x y. is_lt (mark_order order b (mark x) (mark y)))
  mark_ranks = ranks_by (then_total (on_total (key_of b) (total order laws)) (on_total begin_of nat_cmp_total)) mark

  pub marks_sorted : (ss : List S) → IsSortedBy (λ x y. is_lt (mark_order order b (mark x) (mark y))) ss → AreSorted order b (map mark ss)
  marks_sorted [] h k d l m = absurd (omega arith)
  marks_sorted (s ∷ ss) h k d l m =
      let long : length (map mark (s ∷ ss)) ≡ length (s ∷ ss) = length-map (s ∷ ss) mark in
      let next : get_or (map mark (s ∷ ss)) (k + 1) d ≡ mark (get_or (s ∷ ss) (k + 1) s) = get_or-map mark (s ∷ ss) (k + 1) s d (omega (arith, long, m)) in
      let here : get_or (map mark (s ∷ ss)) k d ≡ mark (get_or (s ∷ ss) k s) = get_or-map mark (s ∷ ss) k s d (omega (arith, long, m)) in
      (λ i. is_lt (mark_order order b (next i) (here i))) ∙ h k s l (omega (arith, long, m))

-- ---- marks from an index on

module _ {S : Type 0} (mark : S → Mark) (from : ℕ) where
  pub rest_marked : (old xs : List S) → xs ≡ old → map mark (take (length xs - from) (drop from xs)) ≡ drop from (map mark old)
  rest_marked old xs e = ap (map mark) (take_rest xs from ∙ ap (drop from) e) ∙ sym (drop-map mark from old)

  pub none_left : (old : List S) → length old ≤ from → drop from (map mark old) ≡ []
  none_left old l = drop_all from (map mark old) (omega (arith, length-map old mark, l))

  pub front_kept : (old rest new : List S) → from ≤ length old → new ≡ take from old ++ rest → take from (map mark new) ≡ take from (map mark old)
  front_kept old rest new h1 h2 = grind (arith, length-take-le, take-map, take_at)

  pub all_kept : (n : ℕ) (old part new : List S) → map mark part ≡ map mark (take n (drop from old)) → new ≡ take from old ++ (part ++ drop n (drop from old)) → map mark new ≡ map mark old
  all_kept n old part new k e =
      ap (map mark) e ∙ map-append mark (take from old) (part ++ drop n (drop from old)) ∙ ap (λ z. map mark (take from old) ++ z) (map-append mark part (drop n (drop from old)) ∙ ap (λ z. z ++ map mark (drop n (drop from old))) k ∙ sym (map-append mark (take n (drop from old)) (drop n (drop from old))) ∙ ap (map mark) (take-append-drop n (drop from old)))
      ∙ sym (map-append mark (take from old) (drop from old)) ∙ ap (map mark) (take-append-drop from old)

  pub part_moved : (n : ℕ) (old part new : List S) → IsPermutation (map mark (take n (drop from old))) (map mark part) → new ≡ take from old ++ (part ++ drop n (drop from old)) → IsPermutation (map mark old) (map mark new)
  part_moved n old part new p e =
      let parts : (x : List S) → map mark (take from old ++ (x ++ drop n (drop from old))) ≡ map mark (take from old) ++ (map mark x ++ map mark (drop n (drop from old))) = λ x. map-append mark (take from old) (x ++ drop n (drop from old)) ∙ ap (λ z. map mark (take from old) ++ z) (map-append mark x (drop n (drop from old))) in
      let whole : take from old ++ (take n (drop from old) ++ drop n (drop from old)) ≡ old = ap (λ z. take from old ++ z) (take-append-drop n (drop from old)) ∙ take-append-drop from old in
      let was = sym (parts (take n (drop from old))) ∙ ap (map mark) whole in
      let is = sym (ap (map mark) e ∙ parts part) in
      subst (λ z. IsPermutation z (map mark new)) was (subst (IsPermutation _) is (IsPermutation-append_right (map mark (take from old)) _ _ (IsPermutation-append_left (map mark (drop n (drop from old))) _ _ p)))
