use Rattle.std.specs.Prelude.{◌≡◌}
use Rattle.cborn_explain.proofs.Common.{take}
use Rattle.cborn_explain.proofs.first_differences.common_len.Given as goal

abbrev pub invariant-loop-i : goal.invariant-loop-i
invariant-loop-i l = take l.i l.first ≡ take l.i l.second
