-- The first of two faults, and of what two searches found. The key of a fault is its place and the number of its reason.
use Rattle.std.specs.Prelude.{◌≡◌, ◌⊎◌}
use Rattle.cborn_model.specs.Common.{ℕ, Option, None, Some}
use Rattle.cborn_model.specs.First.{IsFirst, NoLater}

module _ {X : Type 0} (key : X → ℕ × ℕ) where
  -- z is one of the two, and neither comes before it
  abbrev pub IsEarlier : X → X → X → Type 0
  IsEarlier x y z = ((z ≡ x) ⊎ (z ≡ y)) × NoLater (key z) (key x) × NoLater (key z) (key y)

  -- o is the first of what two searches found
  abbrev pub IsEarliest : Option X → Option X → Option X → Type 0
  IsEarliest None b o = o ≡ b
  IsEarliest (Some x) None o = o ≡ Some x
  IsEarliest (Some x) (Some y) None = ⊥
  IsEarliest (Some x) (Some y) (Some z) = IsEarlier x y z

module _ {X R : Type 0} (rank : R → ℕ) (place_of : X → ℕ) (reason_of : X → R) where
  -- o is the first of these faults, if there is one
  abbrev pub Finds : (ℕ → R → Type 0) → Option X → Type 0
  Finds fault None = (p : ℕ) (r : R) → fault p r → ⊥
  Finds fault (Some x) = IsFirst rank fault (place_of x) (reason_of x)
