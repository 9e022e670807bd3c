use Rattle.std.specs.Prelude.{◌≡◌, ◌≤◌, ◌<◌, ◌^◌, ◌-◌}
use Rattle.cborn_lex.proofs.Common.{true, take, length, list_all, is_digit, number}
use Rattle.cborn_lex.proofs.integers.decimal_at.Given as goal

abbrev pub invariant-digits : goal.invariant-digits
invariant-digits l = (l.len ≤ length l.tail) × (l.len ≤ 19) × (list_all (λ d. is_digit d 10) (take l.len l.tail) ≡ true) × (number 10 0 (take l.len l.tail) ≡ l.n) × (l.n < 10 ^ l.len)

abbrev pub decreases-digits : goal.decreases-digits
decreases-digits l = length l.tail - l.len
