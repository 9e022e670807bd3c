use Rattle.std.specs.Prelude.{◌≡◌, ◌-◌}
use Rattle.cborn_lex.proofs.Common.{true, take, length, is_content}
use Rattle.cborn_lex.proofs.escaped.content_end.Given as goal

abbrev pub invariant-loop-at : goal.invariant-loop-at
invariant-loop-at l = is_content l.quote (take l.at l.tail) ≡ true

abbrev pub decreases-loop-at : goal.decreases-loop-at
decreases-loop-at l = length l.tail - l.at
