-- Simple values, by cases, and their heads.
use Rattle.std.specs.Prelude.{◌≡◌, ◌<◌, ◌≤◌, ◌⊎◌}
use Rattle.cborn_model.proofs.Common.{refl, ℕ, inl, inr, arith, lt-ltb, le-ltb, le-leb, ltb-true, leb-true, and_parts, or_cases, Direct, One, WidthFits, least, is_simple_value, IsTrue}
use Rattle.cborn_model.proofs.Numbers.OneHead.{least_holds}

-- the two ranges, as the test has them
pub simple_cases : (n : ℕ) → IsTrue (is_simple_value n) → (n < 24) ⊎ ((32 ≤ n) × (n < 256))
simple_cases n h1 = grind (arith, and_parts, leb-true, ltb-true, or_cases)

pub simple_value : (n : ℕ) → (n < 24) ⊎ ((32 ≤ n) × (n < 256)) → IsTrue (is_simple_value n)
simple_value n h1 = grind (arith, le-leb, le-ltb, lt-ltb)

-- it is a byte
pub simple_below : (n : ℕ) → IsTrue (is_simple_value n) → n < 256
simple_below n h = elim (simple_cases n h) [ inl low ↦ omega arith | inr high ↦ high.1 ]

-- its shortest head has room for it
pub simple_fits : (n : ℕ) → IsTrue (is_simple_value n) → WidthFits (least n) n
simple_fits n h = let l = simple_below n h in least_holds n (omega (arith, l))

pub least_direct : (n : ℕ) → n < 24 → least n ≡ Direct
least_direct n l = rw (lt-ltb n 24 l) refl

pub least_one : (n : ℕ) → 24 ≤ n → n < 256 → least n ≡ One
least_one n l m = rw (le-ltb n 24 l, lt-ltb n 256 m) refl
