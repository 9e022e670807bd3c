-- Lists of entries whose keys rise.
use Rattle.std.specs.Prelude.{◌≡◌, ◌∷◌}
use Rattle.cborn_det.proofs.Common.{ℕ, inl, inr, List, [], map, refl, sym, ap, ◌∙◌, subst, IsPermutation, Ordering, Less, Equal, Greater, AllByRecursion, IsPermutation-refl, IsPermutation-sym, IsPermutation-trans, IsPermutation-map, IsPermutation-cons, IsPermutation-middle, ordering_reverse, IsKeyOrder, Rising, Entry, keys, HasDistinctKeys, All_moved, weaker, both, at_member, IsIn, AreIn, are_in_moved}

abbrev bare : List ℕ → Entry
bare k = (k, [])

keys-bare : (ks : List (List ℕ)) → keys (map bare ks) ≡ ks
keys-bare [] = refl
keys-bare (k ∷ ks) = ap (λ l. k ∷ l) (keys-bare ks)

module _ (order : List ℕ → List ℕ → Ordering) (laws : IsKeyOrder order) where
  abbrev Above : Entry → Entry → Type 0
  Above e g = order e.0 g.0 ≡ Less

  pub never_both : (a b : List ℕ) → order a b ≡ Less → order b a ≡ Less → ⊥
  never_both a b p q = cc (laws.turned a b, ap ordering_reverse p)

  pub never_itself : (a : List ℕ) → order a a ≡ Less → ⊥
  never_itself a p = cc (laws.itself a)

  pub rises_after : (e : Entry) (es : List Entry) → Rising order (keys (e ∷ es)) → AllByRecursion (Above e) es
  rises_after e [] h = tt
  rises_after e (f ∷ fs) h = (h.0, weaker (Above f) (Above e) (λ z q. laws.along e.0 f.0 z.0 h.0 q) fs (rises_after f fs h.1))

  pub rising_tail : (e : Entry) (es : List Entry) → Rising order (keys (e ∷ es)) → Rising order (keys es)
  rising_tail e [] h = tt
  rising_tail e (f ∷ fs) h = h.1

  rising_cons : (e : Entry) (es : List Entry) → AllByRecursion (Above e) es → Rising order (keys es) → Rising order (keys (e ∷ es))
  rising_cons e [] h r = tt
  rising_cons e (f ∷ fs) h r = (h.0, r)

  same_first : (x y : Entry) (xs ys : List Entry) → AllByRecursion (Above x) xs → AllByRecursion (Above y) ys → IsIn x (y ∷ ys) → IsIn y (x ∷ xs) → x ≡ y
  same_first x y xs ys h k i j = elim i [ inl e ↦ e | inr p ↦ elim j [ inl e ↦ sym e | inr q ↦ absurd (never_both x.0 y.0 (at_member (Above x) y xs q h) (at_member (Above y) x ys p k)) ] ]

  without_first : (x y : Entry) (xs ys : List Entry) → x ≡ y → AllByRecursion (Above x) xs → AreIn xs (y ∷ ys) → AreIn xs ys
  without_first x y xs ys e = both (Above x) (λ z. IsIn z (y ∷ ys)) (λ z. IsIn z ys) (λ z a i. elim i [ inl q ↦ absurd (never_itself x.0 (subst (Above x) (q ∙ sym e) a)) | inr j ↦ j ]) xs

  one_rising : (xs ys : List Entry) → Rising order (keys xs) → Rising order (keys ys) → AreIn xs ys → AreIn ys xs → xs ≡ ys
  one_rising [] [] r s i j = refl
  one_rising [] (y ∷ ys) r s i j = absurd j.0
  one_rising (x ∷ xs) [] r s i j = absurd i.0
  one_rising (x ∷ xs) (y ∷ ys) r s i j =
      let a : AllByRecursion (Above x) xs = rises_after x xs r in
      let b : AllByRecursion (Above y) ys = rises_after y ys s in
      let e : x ≡ y = same_first x y xs ys a b i.0 j.0 in
      let rest : xs ≡ ys = one_rising xs ys (rising_tail x xs r) (rising_tail y ys s) (without_first x y xs ys e a i.1) (without_first y x ys xs (sym e) b j.1) in
      cc

  -- two rearrangements of one list whose keys rise are one list
  pub one_arrangement : (es fs gs : List Entry) → IsPermutation es fs → IsPermutation es gs → Rising order (keys fs) → Rising order (keys gs) → fs ≡ gs
  one_arrangement es fs gs p q r s =
      let pq = IsPermutation-trans fs es gs (IsPermutation-sym es fs p) q in
      one_rising fs gs r s (are_in_moved fs gs pq) (are_in_moved gs fs (IsPermutation-sym fs gs pq))

  abbrev Apart : Entry → Entry → Type 0
  Apart e g = e.0 ≡ g.0 → ⊥

  abbrev Arranged : List Entry → Type 0
  Arranged es = (fs : List Entry) × IsPermutation es fs × Rising order (keys fs)

  inserted : (e : Entry) (fs : List Entry) → Rising order (keys fs) → AllByRecursion (Apart e) fs → Arranged (e ∷ fs)
  inserted e [] r a = (e ∷ [], IsPermutation-refl (e ∷ []), tt)
  inserted e (f ∷ fs) r a = by (order e.0 f.0) refl (inserted e fs (rising_tail f fs r) a.1)
    where
      by : (o : Ordering) → order e.0 f.0 ≡ o → Arranged (e ∷ fs) → Arranged (e ∷ f ∷ fs)
      by Less q t = (e ∷ f ∷ fs, IsPermutation-refl (e ∷ f ∷ fs), (q, r))
      by Equal q t = absurd (a.0 (laws.exact e.0 f.0 q))
      by Greater q t =
          let below : Above f e = laws.turned e.0 f.0 ∙ ap ordering_reverse q in (
            f ∷ t.0,
            IsPermutation-trans (e ∷ f ∷ fs) (f ∷ e ∷ fs) (f ∷ t.0) (IsPermutation-middle (e ∷ []) f fs) (IsPermutation-cons f (e ∷ fs) t.0 t.1),
            rising_cons f t.0 (All_moved (Above f) (e ∷ fs) t.0 t.1 (below, rises_after f fs r)) t.2,
          )

  -- what has distinct keys can be arranged so that they rise
  pub arranged : (es : List Entry) → HasDistinctKeys es → (fs : List Entry) × IsPermutation es fs × Rising order (keys fs)
  arranged [] h = ([], IsPermutation-refl [], tt)
  arranged (e ∷ es) h =
      let t = arranged es h.1 in
      let u = inserted e t.0 t.2 (All_moved (Apart e) es t.0 t.1 h.0) in
      (u.0, IsPermutation-trans (e ∷ es) (e ∷ t.0) u.0 (IsPermutation-cons e es t.0 t.1) u.1, u.2)

  -- the same of keys alone, each taken as an entry without a value
  pub one_arrangement_of_keys : (ks ls ms : List (List ℕ)) → IsPermutation ks ls → IsPermutation ks ms → Rising order ls → Rising order ms → ls ≡ ms
  one_arrangement_of_keys ks ls ms p q r s =
      let alone : (l : List (List ℕ)) → Rising order l → Rising order (keys (map bare l)) = λ l h. subst (Rising order) (sym (keys-bare l)) h in
      sym (keys-bare ls)
      ∙ ap keys (one_arrangement (map bare ks) (map bare ls) (map bare ms) (IsPermutation-map bare ks ls p) (IsPermutation-map bare ks ms q) (alone ls r) (alone ms s))
      ∙ keys-bare ms
