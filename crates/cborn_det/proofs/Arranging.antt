-- What a sort of entries by an order of keys gives.
use Rattle.std.specs.Prelude.{◌≡◌, ◌∷◌}
use Rattle.std.specs.List.{IsDistinct}
use Rattle.cborn_det.proofs.Common.{ℕ, suc, List, [], map, refl, sym, ap, ◌∙◌, arith, false, Bool, true≢false, add-one, IsPermutation, Ordering, Less, Equal, Greater, is_lt, is_eq, ordering_reverse, IsKeyOrder, Rising, Entry, keys, HasDistinctKeys, weaker}
use Rattle.std.specs.Cmp.{IsTotalOrder}
use Rattle.std.specs.List.Sorted.{IsSortedBy}
use Rattle.std.proofs.lemmas.Map.Keys.{IsDistinct-IsPermutation}

module _ (order : List ℕ → List ℕ → Ordering) (laws : IsKeyOrder order) where
  pub total : IsTotalOrder order
  total = record { antisymm = λ a b. laws.turned b a; trans = laws.along; congr = λ a b c e. ap (λ z. order z c) (laws.exact a b e) }

  abbrev pub Tied : Entry → Entry → Bool
  Tied e f = is_eq (order e.0 f.0)

  pub tied_turned : (e f : Entry) → Tied e f ≡ Tied f e
  tied_turned e f = by (order e.0 f.0) ∙ sym (ap is_eq (laws.turned e.0 f.0))
    where
      by : (o : Ordering) → is_eq o ≡ is_eq (ordering_reverse o)
      by Less = refl
      by Equal = refl
      by Greater = refl

  not_tied : (e f : Entry) → (e.0 ≡ f.0 → ⊥) → Tied e f ≡ false
  not_tied e f n = by (order e.0 f.0) refl
    where
      by : (o : Ordering) → order e.0 f.0 ≡ o → is_eq o ≡ false
      by Equal q = absurd (n (laws.exact e.0 f.0 q))
      by _ q = refl

  tested : (es : List Entry) → HasDistinctKeys es → IsDistinct Tied es
  unfolding IsDistinct
  tested [] h = tt
  tested (e ∷ es) h = (weaker (λ (g : Entry). e.0 ≡ g.0 → ⊥) (λ g. Tied e g ≡ false) (not_tied e) es h.0, tested es h.1)

  below : (a b : List ℕ) → is_lt (order b a) ≡ false → is_eq (order a b) ≡ false → order a b ≡ Less
  below a b h n = by (order a b) refl
    where
      by : (o : Ordering) → order a b ≡ o → order a b ≡ Less
      by Less q = q
      by Equal q = absurd (true≢false (sym (ap is_eq q) ∙ n))
      by Greater q = absurd (true≢false (sym (ap is_lt (laws.turned a b ∙ ap ordering_reverse q)) ∙ h))

  module _ {X : Type 0} (entry : X → Entry) where
    rises : (xs : List X) → IsSortedBy (λ x y. is_lt (order (entry x).0 (entry y).0)) xs → IsDistinct Tied (map entry xs) → Rising order (keys (map entry xs))
    unfolding IsDistinct
    rises (x ∷ y ∷ ys) s d = (
      below (entry x).0 (entry y).0 (s 0 x (omega arith) (omega arith)) d.0.0,
      rises (y ∷ ys) (λ k e low l. rw add-one (rw add-one at (s (suc k) e (omega arith) (omega arith)))) d.1,
    )
    rises _ s d = tt

    pub rising_from_sorted : (xs ys : List X) → HasDistinctKeys (map entry xs) → IsPermutation (map entry xs) (map entry ys) → IsSortedBy (λ x y. is_lt (order (entry x).0 (entry y).0)) ys → Rising order (keys (map entry ys))
    rising_from_sorted xs ys d p s = rises ys s (IsDistinct-IsPermutation Tied tied_turned (map entry xs) (map entry ys) p (tested (map entry xs) d))
