use Rattle.std.specs.Prelude.{◌≡◌}
use Rattle.cborn_lex.proofs.Common.{true, take, list_all, is_numeral}
use Rattle.cborn_lex.proofs.slices.numeral_len.Given as goal

abbrev pub invariant-loop-i : goal.invariant-loop-i
invariant-loop-i l = list_all is_numeral (take l.i l.tail) ≡ true
