use Rattle.std.specs.Prelude.{◌≡◌, ◌++◌}
use Rattle.cborn_explain.proofs.Common.{take, drop, up_to_key}
use Rattle.cborn_explain.proofs.first_differences.len_to_key.Given as goal

abbrev pub invariant-loop-i : goal.invariant-loop-i
invariant-loop-i l = up_to_key l.steps ≡ take l.i l.steps ++ up_to_key (drop l.i l.steps)
