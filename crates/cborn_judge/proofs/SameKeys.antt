-- After a sort the repeated keys are those that tie with their neighbour.
use Rattle.std.specs.Prelude.{◌≡◌, ◌<◌, ◌⊎◌, ◌∷◌, ◌↔◌, ◌&&◌}
use Rattle.cborn_judge.proofs.Common.{ℕ, suc, inl, inr, List, [], refl, sym, ap, ◌∙◌, subst, arith, true, false, Bool, true≢false, add-one, IsPermutation, Ordering, Less, is_lt, eqb, ⊤, nat_cmp, ordering_then, AllByRecursion, IsSortedBy, IsPermutation-sym, eqb-true, eq-eqb, cases_eq, IsRepeated, IsIn, are_in_moved, Value, IsKeyOrder, Tree, Entries, no_entry, entry, Means, at_member}
use Rattle.std.specs.List.{IsDistinct}
use Rattle.cborn_det.proofs.Rising.{never_both, never_itself}
use Rattle.std.proofs.lemmas.Map.Keys.{IsDistinct-IsPermutation, ge_from_not_lt}

module _ {X : Type 0} (order : List ℕ → List ℕ → Ordering) (bytes : X → List ℕ) (position : X → ℕ) where
  -- by the encoding, and at equal encodings by the position
  abbrev pub key_order : X → X → Ordering
  key_order x y = ordering_then (order (bytes x) (bytes y)) (nat_cmp (position x) (position y))

module _ {X : Type 0} (bytes : X → List ℕ) where
  -- z has the bytes of an earlier one
  abbrev pub IsAgain : List X → X → Type 0
  IsAgain [] z = ⊥
  IsAgain (x ∷ xs) z = (IsIn z xs × (bytes x ≡ bytes z)) ⊎ IsAgain xs z

  -- z has the bytes of the one right before it
  abbrev pub IsTied : List X → X → Type 0
  IsTied (x ∷ y ∷ ys) z = ((y ≡ z) × (bytes x ≡ bytes y)) ⊎ IsTied (y ∷ ys) z
  IsTied _ z = ⊥

pub moved_in : {X : Type 0} (xs ys : List X) (z : X) → IsPermutation xs ys → IsIn z xs → IsIn z ys
moved_in xs ys z p i = at_member (λ x. IsIn x ys) z xs i (are_in_moved xs ys p)

-- what means nothing is the same as no key
pub nothing_repeated : (k : Tree) (es : Entries) (p : ℕ) → ((a : Value) → Means k a → ⊥) → IsRepeated k es p → ⊥
nothing_repeated k no_entry p h r = r
nothing_repeated k (entry l v es) p h (inl r) = h r.1.0 r.1.2
nothing_repeated k (entry l v es) p h (inr r) = nothing_repeated k es p h r

-- of two that have the same bytes one comes after the other
pub either_again : {X : Type 0} (bytes : X → List ℕ) (xs : List X) (w z : X) → IsIn w xs → IsIn z xs → bytes w ≡ bytes z → (w ≡ z → ⊥) → IsAgain bytes xs z ⊎ IsAgain bytes xs w
either_again bytes [] w z i j e n = absurd i
either_again bytes (x ∷ xs) w z (inl i) (inl j) e n = absurd (n (i ∙ sym j))
either_again bytes (x ∷ xs) w z (inl i) (inr j) e n = inl (inl (j, ap bytes (sym i) ∙ e))
either_again bytes (x ∷ xs) w z (inr i) (inl j) e n = inr (inl (i, ap bytes (sym j) ∙ sym e))
either_again bytes (x ∷ xs) w z (inr i) (inr j) e n = elim (either_again bytes xs w z i j e n) [ inl a ↦ inl (inr a) | inr a ↦ inr (inr a) ]

-- ---- after a sort

-- Of the keys only those count whose encodings pass the test.
module _ {X : Type 0} (counts : List ℕ → Bool) (bytes : X → List ℕ) (position : X → ℕ) where
  -- each that counts is at a lower position than those after it
  abbrev pub LieBefore : List X → Type 0
  LieBefore [] = ⊤
  LieBefore (x ∷ xs) = ((z : X) → IsIn z xs → counts (bytes x) ≡ true → position x < position z) × LieBefore xs

module _ {X : Type 0} (order : List ℕ → List ℕ → Ordering) (laws : IsKeyOrder order) (counts : List ℕ → Bool) (bytes : X → List ℕ) (position : X → ℕ) where
  -- z has the bytes of one at a lower position
  abbrev HasEarlier : List X → X → Type 0
  HasEarlier xs z = (w : X) × IsIn w xs × IsIn z xs × (bytes w ≡ bytes z) × (position w < position z)

  pub again_earlier : (xs : List X) (z : X) → counts (bytes z) ≡ true → LieBefore counts bytes position xs → IsAgain bytes xs z → HasEarlier xs z
  again_earlier [] z s h r = absurd r
  again_earlier (x ∷ xs) z s h (inl r) = (x, inl refl, inr r.0, r.1, h.0 z r.0 (ap counts r.1 ∙ s))
  again_earlier (x ∷ xs) z s h (inr r) = let u = again_earlier xs z s h.1 r in (u.0, inr u.1, inr u.2, u.3, u.4)

  earlier_again : (xs : List X) (w z : X) → counts (bytes z) ≡ true → LieBefore counts bytes position xs → IsIn w xs → IsIn z xs → bytes w ≡ bytes z → position w < position z → IsAgain bytes xs z
  earlier_again [] w z s h i j e l = absurd i
  earlier_again (x ∷ xs) w z s h (inl i) (inl j) e l = let f : position w ≡ position z = ap position (i ∙ sym j) in absurd (omega arith)
  earlier_again (x ∷ xs) w z s h (inl i) (inr j) e l = inl (j, ap bytes (sym i) ∙ e)
  earlier_again (x ∷ xs) w z s h (inr i) (inl j) e l = grind arith
  earlier_again (x ∷ xs) w z s h (inr i) (inr j) e l = inr (earlier_again xs w z s h.1 i j e l)

  -- x comes before y in the order, strictly if it counts
  abbrev Comes : X → X → Type 0
  Comes x y = (order (bytes x) (bytes y) ≡ Less) ⊎ ((bytes x ≡ bytes y) × (counts (bytes x) ≡ true → position x < position y))

  abbrev pub InOrder : List X → Type 0
  InOrder (x ∷ y ∷ ys) = Comes x y × InOrder (y ∷ ys)
  InOrder _ = ⊤

  not_less_itself : (a b : List ℕ) → a ≡ b → order a b ≡ Less → ⊥
  not_less_itself a b e l = never_itself order laws a (subst (λ c. order a c ≡ Less) (sym e) l)

  comes_on : (x y z : X) → Comes x y → Comes y z → Comes x z
  comes_on x y z h1 h2 = grind arith

  first_comes : (x : X) (xs : List X) (z : X) → InOrder (x ∷ xs) → IsIn z xs → Comes x z
  first_comes x [] z o i = absurd i
  first_comes x (y ∷ ys) z o (inl e) = subst (Comes x) (sym e) o.0
  first_comes x (y ∷ ys) z o (inr i) = comes_on x y z o.0 (first_comes y ys z o.1 i)

  -- between two with equal bytes stand none with others
  between : (x y z : X) → counts (bytes z) ≡ true → Comes x y → Comes y z → bytes x ≡ bytes z → (bytes x ≡ bytes y) × (position y < position z)
  between x y z h1 h2 h3 h4 = grind (arith, never_both, not_less_itself)

  tied_earlier : (xs : List X) (z : X) → counts (bytes z) ≡ true → InOrder xs → IsTied bytes xs z → HasEarlier xs z
  tied_earlier (x ∷ y ∷ ys) z s o (inl t) = grind (arith, not_less_itself)
  tied_earlier (x ∷ y ∷ ys) z s o (inr t) = let u = tied_earlier (y ∷ ys) z s o.1 t in (u.0, inr u.1, inr u.2, u.3, u.4)
  tied_earlier _ z s o t = absurd t

  earlier_tied : (xs : List X) (w z : X) → counts (bytes z) ≡ true → InOrder xs → IsIn w xs → IsIn z xs → bytes w ≡ bytes z → position w < position z → IsTied bytes xs z
  earlier_tied [] w z s o i j e l = absurd i
  earlier_tied (x ∷ xs) w z s o (inl i) (inl j) e l = let f : position w ≡ position z = ap position (i ∙ sym j) in absurd (omega arith)
  earlier_tied (x ∷ []) w z s o (inl i) (inr j) e l = absurd j
  earlier_tied (x ∷ []) w z s o (inr i) j e l = absurd i
  earlier_tied (x ∷ y ∷ ys) w z s o (inl i) (inr (inl j)) e l = inl (sym j, ap bytes (sym i) ∙ e ∙ ap bytes j)
  earlier_tied (x ∷ y ∷ ys) w z s o (inl i) (inr (inr j)) e l =
      let b = between x y z s o.0 (first_comes y ys z o.1 j) (ap bytes (sym i) ∙ e) in
      inr (earlier_tied (y ∷ ys) y z s o.1 (inl refl) (inr j) (sym b.0 ∙ ap bytes (sym i) ∙ e) b.1)
  earlier_tied (x ∷ y ∷ ys) w z s o (inr i) (inl j) e l =
      elim (first_comes x (y ∷ ys) w o i) [
        | inl k ↦ absurd (not_less_itself (bytes x) (bytes w) (ap bytes (sym j) ∙ sym e) k)
        | inr k ↦
            let f : position z ≡ position x = ap position j in
            let m = k.1 (ap (λ v. counts (bytes v)) (sym j) ∙ s) in absurd (omega arith)
      ]
  earlier_tied (x ∷ y ∷ ys) w z s o (inr i) (inr j) e l = inr (earlier_tied (y ∷ ys) w z s o.1 i j e l)

  -- of keys in the order of their positions, the repeats are those that tie once the keys are sorted
  pub again_tied : (xs ys : List X) (z : X) → counts (bytes z) ≡ true → LieBefore counts bytes position xs → IsPermutation xs ys → InOrder ys → IsAgain bytes xs z ↔ IsTied bytes ys z
  again_tied xs ys z s h p o = (
    (λ r. let u = again_earlier xs z s h r in earlier_tied ys u.0 z s o (moved_in xs ys u.0 p u.1) (moved_in xs ys z p u.2) u.3 u.4),
    (λ t. let u = tied_earlier ys z s o t in
        let q = IsPermutation-sym xs ys p in
        earlier_again xs u.0 z s h (moved_in ys xs u.0 q u.1) (moved_in ys xs z q u.2) u.3 u.4),
  )

  -- both count, and are at one position
  abbrev AtOnePlace : X → X → Bool
  AtOnePlace x y = counts (bytes x) && (counts (bytes y) && eqb (position x) (position y))

  at_one_turned : (x y : X) → AtOnePlace x y ≡ AtOnePlace y x
  at_one_turned x y = grind (arith, cases_eq, eq-eqb, eqb-true)

  positions_apart : (xs : List X) → LieBefore counts bytes position xs → IsDistinct AtOnePlace xs
  unfolding IsDistinct
  positions_apart [] h = tt
  positions_apart (x ∷ xs) h = (apart_from x xs h.0, positions_apart xs h.1)
    where
      apart : (x z : X) → (counts (bytes x) ≡ true → position x < position z) → AtOnePlace x z ≡ false
      apart x z l = go (counts (bytes x)) (counts (bytes z)) (eqb (position x) (position z)) refl refl
        where
          go : (a b c : Bool) → counts (bytes x) ≡ a → eqb (position x) (position z) ≡ c → a && (b && c) ≡ false
          go true true true e f = absurd (let m = eqb-true (position x) (position z) f in let k = l e in omega arith)
          go _ _ _ e f = refl

      apart_from : (x : X) (xs : List X) → ((z : X) → IsIn z xs → counts (bytes x) ≡ true → position x < position z) → AllByRecursion (λ z. AtOnePlace x z ≡ false) xs
      apart_from x [] h = tt
      apart_from x (y ∷ ys) h = (apart x y (h y (inl refl)), apart_from x ys (λ z i. h z (inr i)))

  comes_from : (x y : X) → is_lt (key_order order bytes position y x) ≡ false → AtOnePlace x y ≡ false → Comes x y
  comes_from x y h1 h2 = grind (arith, cases_eq, eq-eqb, ge_from_not_lt, is_lt, true≢false)

  in_order_sorted : (ys : List X) → IsSortedBy (λ x y. is_lt (key_order order bytes position x y)) ys → IsDistinct AtOnePlace ys → InOrder ys
  unfolding IsDistinct
  in_order_sorted (x ∷ y ∷ ys) s d = (
    comes_from x y (s 0 x (omega arith) (omega arith)) d.0.0,
    in_order_sorted (y ∷ ys) (λ k e low l. rw add-one (rw add-one at (s (suc k) e (omega arith) (omega arith)))) d.1,
  )
  in_order_sorted _ s d = tt

  -- keys in the order of their positions, once sorted
  pub sorted_in_order : (xs ys : List X) → LieBefore counts bytes position xs → IsPermutation xs ys → IsSortedBy (λ x y. is_lt (key_order order bytes position x y)) ys → InOrder ys
  sorted_in_order xs ys h p s = in_order_sorted ys s (IsDistinct-IsPermutation AtOnePlace at_one_turned xs ys p (positions_apart xs h))
