-- What a loop over keys that follow one another finds.
use Rattle.std.specs.Prelude.{◌≡◌, ◌+◌, ◌<◌, ◌⊎◌, ◌∷◌, ◌++◌, ◌↔◌}
use Rattle.cborn_judge.proofs.Common.{arith, ℕ, inl, inr, List, [], length, get_or, map, take, refl, sym, ap, ◌∙◌, subst, true, false, true≢false, Option, None, Ordering, Less, is_some, map-append, Rising, IsEarliest, FindsDefect, KeyOrder, Row, Mark, AreFilled, IsSameKey, HasSameKeys, filled_keys, Falls, HasFall, RowDescent, FindsDescent, key_of, row_of, Keyed, keyed, all_keyed, Met, remembered, IsFall, last_filled, FallsIn, IsTie, last_key, IsIn, Either, found_both, found_alike}
use Rattle.cborn_model.specs.Earliest.{Finds}
use Rattle.cborn_judge.specs.declared.defects.Defect.{Defect}
use Rattle.cborn_judge.proofs.SameKeys.{IsAgain, IsTied}
use Rattle.cborn_judge.proofs.Loops.{passed_one, same, both_ways, regrouped}
use Rattle.cborn_judge.proofs.FirstDefect.{alike}
use Rattle.cborn_judge.proofs.Encoding.PairsRead.{is_filled, filled, not_empty, marked_read}

pub none_of : {X : Type 0} (o : Option X) → is_some o ≡ false → o ≡ None
none_of o h1 = grind (arith, true≢false)

-- ---- one key more

module _ (Here : List ℕ → List ℕ → ℕ → ℕ → Type 0) (next : List ℕ → List ℕ → List ℕ) where
  met_more : (k : List ℕ) (xs : List Keyed) (x : Keyed) (p : ℕ) → (Met Here next k xs p ⊎ Here (remembered Here next k xs) x.1 x.0 p) ↔ Met Here next k (xs ++ x ∷ []) p
  met_more k [] x p = ((λ h. elim h [ inl i ↦ absurd i | inr i ↦ inl i ]), (λ h. elim h [ inl i ↦ inr i | inr i ↦ absurd i ]))
  met_more k (y ∷ xs) x p = regrouped (met_more (next k y.1) xs x p)

  remembered_more : (k : List ℕ) (xs : List Keyed) (x : Keyed) → remembered Here next k (xs ++ x ∷ []) ≡ next (remembered Here next k xs) x.1
  remembered_more k [] x = refl
  remembered_more k (y ∷ xs) x = remembered_more (next k y.1) xs x

  module _ {X R : Type 0} (rank : R → ℕ) (place_of : X → ℕ) (reason_of : X → R) (reason : R) where
    -- what was found among the first keys, and which one is remembered
    abbrev pub IsMet : List Keyed → List ℕ → Option X → Type 0
    IsMet xs before o = Finds rank place_of reason_of (λ p r. (r ≡ reason) × Met Here next [] xs p) o × (before ≡ remembered Here next [] xs)

    one_met : (xs : List Keyed) (x : Keyed) (before : List ℕ) (a b o : Option X) → IsMet xs before a → Finds rank place_of reason_of (λ p r. (r ≡ reason) × Here before x.1 x.0 p) b → IsEarliest (λ z. (place_of z, rank (reason_of z))) a b o
        → IsMet (xs ++ x ∷ []) (next before x.1) o
    one_met xs x before a b o h k e = (
      found_alike rank place_of reason_of (Either F G) H o (λ p r. (to p r, from p r)) (found_both rank place_of reason_of F G a b o h.0 k e),
      ap (λ l. next l x.1) h.1 ∙ sym (remembered_more [] xs x),
    )
      where
        F : ℕ → R → Type 0
        F p r = (r ≡ reason) × Met Here next [] xs p

        G : ℕ → R → Type 0
        G p r = (r ≡ reason) × Here before x.1 x.0 p

        H : ℕ → R → Type 0
        H p r = (r ≡ reason) × Met Here next [] (xs ++ x ∷ []) p

        to : (p : ℕ) (r : R) → Either F G p r → H p r
        to p r (inl d) = (d.0, (met_more [] xs x p).0 (inl d.1))
        to p r (inr d) = (d.0, (met_more [] xs x p).0 (inr (subst (λ l. Here l x.1 x.0 p) h.1 d.1)))

        from : (p : ℕ) (r : R) → H p r → Either F G p r
        from p r d = elim ((met_more [] xs x p).1 d.1) [ inl i ↦ inl (d.0, i) | inr i ↦ inr (d.0, subst (λ l. Here l x.1 x.0 p) (sym h.1) i) ]

    -- as a loop meets them over marks that are kept somehow
    pub met-take_more : {S : Type 0} (seen : S → Mark) (bytes : List ℕ) (ss : List S) (i : ℕ) (s : S) (m : Mark) (before key : List ℕ) (a b o : Option X) → i < length ss → s ≡ get_or ss i s → m ≡ seen s → key ≡ key_of bytes m
        → IsMet (all_keyed bytes (map seen (take i ss))) before a → Finds rank place_of reason_of (λ p r. (r ≡ reason) × Here before key m.0 p) b → IsEarliest (λ z. (place_of z, rank (reason_of z))) a b o
        → IsMet (all_keyed bytes (map seen (take (i + 1) ss))) (next before key) o
    met-take_more {S} seen bytes ss i s m before key a b o l e q k h f g =
        let some : List Keyed = all_keyed bytes (map seen (take i ss)) in
        let more : all_keyed bytes (map seen (take (i + 1) ss)) ≡ some ++ (m.0, key) ∷ [] =
        ap (λ z. all_keyed bytes (map seen z)) (passed_one ss i s l e) ∙ ap (all_keyed bytes) (map-append seen (take i ss) (s ∷ [])) ∙ map-append (keyed bytes) (map seen (take i ss)) (seen s ∷ []) ∙ (λ j. some ++ ((sym q j).0, (ap (key_of bytes) (sym q) ∙ sym k) j) ∷ []) in
        subst (λ z. IsMet z (next before key) o) (sym more) (one_met some (m.0, key) before a b o h f g)

-- ---- keys that fall

abbrev row_keyed : Row → Keyed
row_keyed r = (r.0, r.1)

keyed_rows : (b : List ℕ) (ms : List Mark) → all_keyed b ms ≡ map row_keyed (map (row_of b) ms)
keyed_rows b [] = refl
keyed_rows b (m ∷ ms) = ap (λ l. keyed b m ∷ l) (keyed_rows b ms)

module _ (order : List ℕ → List ℕ → Ordering) where
  abbrev MetFalls : List ℕ → List Row → ℕ → Type 0
  MetFalls k rows = Met (IsFall order) last_filled k (map row_keyed rows)

  less_unless : (o : Ordering) → ((o ≡ Less → ⊥) → ⊥) → o ≡ Less
  less_unless Less h = refl
  less_unless _ h = absurd (h (λ e. cc))

  rise : (k : List ℕ) (rows : List Row) → ((p : ℕ) → MetFalls k rows p → ⊥) → Rising order (filled_keys ((0, k, []) ∷ rows))
  rise [] [] h = tt
  rise (b ∷ bs) [] h = tt
  rise [] ((q, [], v) ∷ rows) h = rise [] rows (λ p m. h p (inr m))
  rise [] ((q, c ∷ cs, v) ∷ rows) h = rise (c ∷ cs) rows (λ p m. h p (inr m))
  rise (b ∷ bs) ((q, [], v) ∷ rows) h = rise (b ∷ bs) rows (λ p m. h p (inr m))
  rise (b ∷ bs) ((q, c ∷ cs, v) ∷ rows) h = (less_unless (order (b ∷ bs) (c ∷ cs)) (λ f. h q (inl ((λ e. cc), (λ e. cc), refl, f))), rise (c ∷ cs) rows (λ p m. h p (inr m)))

  pub none_falls : (b : List ℕ) (ms : List Mark) (rows : List Row) → map (row_of b) ms ≡ rows → ((p : ℕ) → Met (IsFall order) last_filled [] (all_keyed b ms) p → ⊥) → Rising order (filled_keys rows)
  none_falls b ms rows e h = rise [] rows (λ p m. h p (subst (λ z. Met (IsFall order) last_filled [] z p) (sym (keyed_rows b ms ∙ ap (map row_keyed) e)) m))

  falls_after : (k : List ℕ) (rows : List Row) (p : ℕ) → (k ≡ [] → ⊥) → AreFilled rows → MetFalls k rows p ↔ Falls order k rows p
  falls_after k [] p n f = same
  falls_after k ((q, [], v) ∷ rows) p n f = absurd (f.0.0 refl)
  falls_after k ((q, c ∷ cs, v) ∷ rows) p n f = both_ways ((λ i. (i.2, i.3)), (λ i. (n, (λ e. cc), i.0, i.1))) (falls_after (c ∷ cs) rows p (λ e. cc) f.1)

  falls_all : (rows : List Row) (p : ℕ) → AreFilled rows → MetFalls [] rows p ↔ HasFall order rows p
  falls_all rows p h1 = grind (arith, falls_after, same)

  falls_met : (b : List ℕ) (ms : List Mark) (rows : List Row) (p : ℕ) → map (row_of b) ms ≡ rows → AreFilled rows → Met (IsFall order) last_filled [] (all_keyed b ms) p ↔ HasFall order rows p
  falls_met b ms rows p e f = subst (λ z. Met (IsFall order) last_filled [] z p ↔ HasFall order rows p) (sym (keyed_rows b ms ∙ ap (map row_keyed) e)) (falls_all rows p f)

  pub descent_found : (b : List ℕ) (ms : List Mark) (o : Option Defect) (p : ℕ) → FindsDefect (FallsIn order b ms) o → FindsDescent order p ms b o
  descent_found b ms o p h y rows at lies marked =
      let read = marked_read b y rows ms p at lies marked in (
        (λ none. none_falls b ms rows read (λ q m. subst (FindsDefect (FallsIn order b ms)) none h q KeyOrder (refl, m))),
        (λ filled. alike (FallsIn order b ms) (RowDescent order rows) o (λ q r. let both = falls_met b ms rows q read filled in ((λ f. (f.0, both.0 f.1)), (λ f. (f.0, both.1 f.1)))) h),
      )

-- ---- keys that tie

module _ (b : List ℕ) where
  -- a mark of this list, whose key isn't empty, at this place
  abbrev Marks : (Mark → Type 0) → ℕ → Type 0
  Marks P p = (z : Mark) × (is_filled (key_of b z) ≡ true) × (p ≡ z.0) × P z

  ties_after : (x : Mark) (ms : List Mark) (p : ℕ) → Met IsTie last_key (key_of b x) (all_keyed b ms) p ↔ Marks (IsTied (key_of b) (x ∷ ms)) p
  ties_after x [] p = ((λ h. absurd h), (λ h. absurd h.3))
  ties_after x (m ∷ ms) p =
      let rest = ties_after m ms p in (
        (λ h. elim h [ inl i ↦ (m, filled (key_of b m) i.0, i.2, inl (refl, i.1)) | inr i ↦ let u = rest.0 i in (u.0, u.1, u.2, inr u.3) ]),
        (λ h. elim h.3 [
          | inl i ↦ inl (not_empty (key_of b m) (ap (λ z. is_filled (key_of b z)) i.0 ∙ h.1), i.1, h.2 ∙ ap (λ (z : Mark). z.0) (sym i.0))
          | inr i ↦ inr (rest.1 (h.0, h.1, h.2, i))
        ]),
      )

  pub ties_all : (ms : List Mark) (p : ℕ) → Met IsTie last_key [] (all_keyed b ms) p ↔ Marks (IsTied (key_of b) ms) p
  ties_all [] p = ((λ h. absurd h), (λ h. absurd h.3))
  ties_all (m ∷ ms) p = grind (arith, ties_after)

  same_there : (k : List ℕ) (ms : List Mark) (p : ℕ) → IsSameKey k (map (row_of b) ms) p ↔ ((z : Mark) × IsIn z ms × (k ≡ key_of b z) × (p ≡ z.0))
  same_there k [] p = ((λ h. absurd h), (λ h. absurd h.1))
  same_there k (m ∷ ms) p =
      let rest = same_there k ms p in (
        (λ h. elim h [ inl i ↦ (m, inl refl, sym i.1, i.0) | inr i ↦ let u = rest.0 i in (u.0, inr u.1, u.2, u.3) ]),
        (λ h. elim h.1 [
          | inl i ↦ inl (h.3 ∙ ap (λ (z : Mark). z.0) i, ap (key_of b) (sym i) ∙ sym h.2)
          | inr i ↦ inr (rest.1 (h.0, i, h.2, h.3))
        ]),
      )

  pub same_again : (ms : List Mark) (p : ℕ) → HasSameKeys (map (row_of b) ms) p ↔ Marks (IsAgain (key_of b) ms) p
  same_again [] p = ((λ h. absurd h), (λ h. absurd h.3))
  same_again (m ∷ ms) p =
      let rest = same_again ms p in
      let here = same_there (key_of b m) ms p in (
        (λ h. elim h [
          | inl i ↦ let u = here.0 i.1 in (u.0, filled (key_of b u.0) (λ e. i.0 (u.2 ∙ e)), u.3, inl (u.1, u.2))
          | inr i ↦ let u = rest.0 i in (u.0, u.1, u.2, inr u.3)
        ]),
        (λ h. elim h.3 [
          | inl i ↦ inl ((λ e. not_empty (key_of b h.0) h.1 (sym i.1 ∙ e)), here.1 (h.0, i.0, i.1, h.2))
          | inr i ↦ inr (rest.1 (h.0, h.1, h.2, i))
        ]),
      )
