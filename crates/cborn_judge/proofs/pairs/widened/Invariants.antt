use Rattle.std.specs.Prelude.{◌≡◌}
use Rattle.cborn_judge.proofs.Common.{map, take, mark_of, narrow_of}
use Rattle.cborn_judge.proofs.pairs.widened.Given as goal

abbrev pub invariant-loop-mark : goal.invariant-loop-mark
invariant-loop-mark l = map mark_of l.wide.items ≡ map narrow_of (take l.mark-index l.narrow)
