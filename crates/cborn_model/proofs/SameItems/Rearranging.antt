-- Rearrangements of lists, and what is carried through them.
use Rattle.std.specs.Prelude.{◌≡◌, ◌⊎◌, ◌∷◌}
use Rattle.cborn_model.proofs.Common.{arith, ℕ, inl, inr, List, [], map, refl, sym, ap, ◌∙◌, subst, IsPermutation, AllZip, AllByRecursion, IsPermutation-sym, IsPermutation-map, All-permutation, length-map, swap}
use Rattle.std.proofs.lemmas.List.Elements.{All-from_recursion, recursion_from_All}
use Rattle.std.proofs.Math.Seq.{map-set}
use Rattle.std.proofs.Math.ListN.{get_or-map}
use Rattle.std.specs.List.Sorted.{apply_swaps, SwapsInRange}

module _ {X Y : Type 0} (f : X → Y) where
  map-swap : (xs : List X) (i j : ℕ) → map f (swap xs i j) ≡ swap (map f xs) i j
  map-swap xs i j = grind (arith, get_or-map, map-set)

  map_swaps : (xs : List X) (ps : List (ℕ × ℕ)) → map f (apply_swaps xs ps) ≡ apply_swaps (map f xs) ps
  map_swaps xs [] = refl
  map_swaps xs (p ∷ ps) = map-swap (apply_swaps xs ps) p.0 p.1 ∙ ap (λ l. swap l p.0 p.1) (map_swaps xs ps)

  -- what a rearrangement of the images is the image of
  pub moved_before : (xs : List X) (ys : List Y) → IsPermutation (map f xs) ys → (zs : List X) × IsPermutation xs zs × (map f zs ≡ ys)
  moved_before xs ys p =
      (apply_swaps xs p.moves, record { moves = p.moves; below = subst (λ n. SwapsInRange n p.moves) (length-map xs f) p.below; is = refl }, map_swaps xs p.moves ∙ sym p.is)

-- lists that are related pair by pair, as one list of pairs
module _ {X Y : Type 0} (R : X → Y → Type 0) where
  Holds2 : X × Y → Type 0
  Holds2 z = R z.0 z.1

  paired : (xs : List X) (ys : List Y) → AllZip R xs ys → (zs : List (X × Y)) × (map (λ z. z.0) zs ≡ xs) × (map (λ z. z.1) zs ≡ ys) × AllByRecursion Holds2 zs
  unfolding Holds2
  paired [] [] h = ([], refl, refl, tt)
  paired [] (y ∷ ys) h = absurd h
  paired (x ∷ xs) [] h = absurd h
  paired (x ∷ xs) (y ∷ ys) h =
      let t = paired xs ys h.1 in
      ((x, y) ∷ t.0, ap (λ l. x ∷ l) t.1, ap (λ l. y ∷ l) t.2, (h.0, t.3))

  unpaired : (zs : List (X × Y)) → AllByRecursion Holds2 zs → AllZip R (map (λ z. z.0) zs) (map (λ z. z.1) zs)
  unfolding Holds2
  unpaired [] h = tt
  unpaired (z ∷ zs) h = (h.0, unpaired zs h.1)

  -- where one side is rearranged, the other goes with it
  pub carried : (xs : List X) (ys ys' : List Y) → AllZip R xs ys → IsPermutation ys ys' → (xs' : List X) × IsPermutation xs xs' × AllZip R xs' ys'
  carried xs ys ys' h p =
      let t = paired xs ys h in
      let m = moved_before (λ (z : X × Y). z.1) t.0 ys' (subst (λ l. IsPermutation l ys') (sym t.2) p) in (
        map (λ z. z.0) m.0,
        subst (λ l. IsPermutation l (map (λ z. z.0) m.0)) t.1 (IsPermutation-map (λ (z : X × Y). z.0) t.0 m.0 m.1),
        subst (AllZip R (map (λ z. z.0) m.0)) m.2 (unpaired m.0 (recursion_from_All Holds2 m.0 (All-permutation Holds2 t.0 m.0 m.1 (All-from_recursion Holds2 t.0 t.3)))),
      )

pub turned_zip : {X Y : Type 0} (R : X → Y → Type 0) (S : Y → X → Type 0) → ((x : X) (y : Y) → R x y → S y x) → (xs : List X) (ys : List Y) → AllZip R xs ys → AllZip S ys xs
turned_zip R S f [] [] h = tt
turned_zip R S f (x ∷ xs) (y ∷ ys) h = (f x y h.0, turned_zip R S f xs ys h.1)
turned_zip R S f _ _ h = h

pub carried_left : {X Y : Type 0} (R : X → Y → Type 0) (xs xs' : List X) (ys : List Y) → AllZip R xs ys → IsPermutation xs xs' → (ys' : List Y) × IsPermutation ys ys' × AllZip R xs' ys'
carried_left R xs xs' ys h p =
    let t = carried (λ y x. R x y) ys xs xs' (turned_zip R (λ y x. R x y) (λ x y r. r) xs ys h) p in
    (t.0, t.1, turned_zip (λ y x. R x y) R (λ y x r. r) t.0 xs' t.2)

pub All_moved : {X : Type 0} (P : X → Type 0) (xs ys : List X) → IsPermutation xs ys → AllByRecursion P xs → AllByRecursion P ys
All_moved P xs ys p h = recursion_from_All P ys (All-permutation P xs ys p (All-from_recursion P xs h))

-- ---- lists of distinct keys

-- membership by recursion
abbrev pub IsIn : {X : Type 0} → X → List X → Type 0
IsIn x [] = ⊥
IsIn x (y ∷ ys) = (x ≡ y) ⊎ IsIn x ys

pub both : {X : Type 0} (P Q R : X → Type 0) → ((x : X) → P x → Q x → R x) → (xs : List X) → AllByRecursion P xs → AllByRecursion Q xs → AllByRecursion R xs
both P Q R f [] h k = tt
both P Q R f (x ∷ xs) h k = (f x h.0 k.0, both P Q R f xs h.1 k.1)

pub weaker : {X : Type 0} (P R : X → Type 0) → ((x : X) → P x → R x) → (xs : List X) → AllByRecursion P xs → AllByRecursion R xs
weaker P R f [] h = tt
weaker P R f (x ∷ xs) h = (f x h.0, weaker P R f xs h.1)

abbrev pub AreIn : {X : Type 0} → List X → List X → Type 0
AreIn {X} xs ys = AllByRecursion (λ (x : X). IsIn x ys) xs

are_in_itself : {X : Type 0} (xs : List X) → AreIn xs xs
are_in_itself [] = tt
are_in_itself {X} (x ∷ xs) = (inl refl, weaker (λ (z : X). IsIn z xs) (λ z. IsIn z (x ∷ xs)) (λ z h. inr h) xs (are_in_itself xs))

pub are_in_moved : {X : Type 0} (xs ys : List X) → IsPermutation xs ys → AreIn xs ys
are_in_moved {X} xs ys p = All_moved (λ (z : X). IsIn z ys) ys xs (IsPermutation-sym xs ys p) (are_in_itself ys)

pub at_member : {X : Type 0} (P : X → Type 0) (x : X) (xs : List X) → IsIn x xs → AllByRecursion P xs → P x
at_member P x [] i h = absurd i
at_member P x (y ∷ ys) i h = elim i [ inl e ↦ subst P (sym e) h.0 | inr j ↦ at_member P x ys j h.1 ]
