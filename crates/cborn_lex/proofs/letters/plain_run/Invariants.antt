use Rattle.std.specs.Prelude.{◌≡◌, ◌≤◌, ◌-◌}
use Rattle.cborn_lex.proofs.Common.{true, length, take, list_all, is_plain}
use Rattle.cborn_lex.proofs.letters.plain_run.Given as goal

abbrev pub invariant-blocks-2 : goal.invariant-blocks-2
invariant-blocks-2 l = (l.at ≤ length l.tail) × (list_all (is_plain l.quote) (take l.at l.tail) ≡ true)

abbrev pub decreases-blocks-2 : goal.decreases-blocks-2
decreases-blocks-2 l = length l.tail - l.at
