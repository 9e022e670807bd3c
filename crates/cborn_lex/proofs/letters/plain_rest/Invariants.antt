use Rattle.std.specs.Prelude.{◌≡◌, ◌≤◌, ◌-◌}
use Rattle.cborn_lex.proofs.Common.{true, length, take, list_all, is_plain}
use Rattle.cborn_lex.proofs.letters.plain_rest.Given as goal

abbrev pub invariant-letters : goal.invariant-letters
invariant-letters l = (l.at ≤ length l.tail) × (list_all (is_plain l.quote) (take l.at l.tail) ≡ true)

abbrev pub decreases-letters : goal.decreases-letters
decreases-letters l = length l.tail - l.at
