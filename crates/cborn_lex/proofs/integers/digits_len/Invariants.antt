use Rattle.std.specs.Prelude.{◌≡◌}
use Rattle.cborn_lex.proofs.Common.{true, take, list_all, is_digit}
use Rattle.cborn_lex.proofs.integers.digits_len.Given as goal

abbrev pub invariant-loop-i : goal.invariant-loop-i
invariant-loop-i l = list_all (λ d. is_digit d 10) (take l.i l.tail) ≡ true
