use Rattle.std.specs.Prelude.{◌≡◌}
use Rattle.cborn_lex.proofs.Common.{true, take, list_all, is_not}
use Rattle.cborn_lex.proofs.slices.find.Given as goal

abbrev pub invariant-loop-i : goal.invariant-loop-i
invariant-loop-i l = list_all (is_not l.wanted) (take l.i l.tail) ≡ true
