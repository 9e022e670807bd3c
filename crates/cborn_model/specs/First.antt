-- The first of several faults: the least place, and at one place the least number.
use Rattle.std.specs.Prelude.{◌≡◌, ◌<◌, ◌≤◌, ◌⊎◌}
use Rattle.cborn_model.specs.Common.{ℕ}

-- a place and a number come no later than another place and number
abbrev pub NoLater : ℕ × ℕ → ℕ × ℕ → Type 0
NoLater a b = (a.0 < b.0) ⊎ ((a.0 ≡ b.0) × (a.1 ≤ b.1))

-- p and r are the first of these faults, whose reasons are numbered by rank
pub record IsFirst {R : Type 0} (rank : R → ℕ) (fault : ℕ → R → Type 0) (p : ℕ) (r : R) : Type 0 where
  pub is : fault p r
  pub first : (q : ℕ) (s : R) → fault q s → NoLater (p, rank r) (q, rank s)
