use Rattle.std.specs.Prelude.{◌+◌, ◌≤◌}
use Rattle.cborn_engine.proofs.Common.{length}
use Rattle.cborn_engine.proofs.Comparison.Apart.{SoFar}
use Rattle.cborn_engine.proofs.differences.difference.Given as goal

abbrev pub decreases-items : goal.decreases-items
decreases-items g l = length l.left

abbrev pub invariant-items : goal.invariant-items
invariant-items g l = SoFar g.O.KeyOrder.order l.fn.limit l.fn.ours l.fn.theirs l.left l.right l.index × (l.index + length l.left ≤ length l.fn.ours)
