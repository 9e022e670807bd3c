use Rattle.std.specs.Prelude.{◌≡◌, ◌-◌, ◌≤◌, ◌++◌}
use Rattle.cborn_wire.proofs.Common.{ℕ, List, length, Tree, AreShortIntegers}
use Rattle.cborn_wire.proofs.short_integers.integers_at.Given as goal

-- as many integers as were counted are at the front
abbrev pub invariant-loop-count : goal.invariant-loop-count
invariant-loop-count l = (y : List ℕ) × (l.bytes ≡ y ++ l.rest) × (l.count ≤ l.most) × ((place : ℕ) → (ts : List Tree) × AreShortIntegers place y ts × (length ts ≡ l.count))

abbrev pub decreases-loop-count : goal.decreases-loop-count
decreases-loop-count l = l.most - l.count
