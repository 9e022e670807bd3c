use Rattle.std.specs.Prelude.{◌≡◌, ◌-◌}
use Rattle.cborn_lex.proofs.Common.{length, [], TokensBetween}
use Rattle.cborn_lex.proofs.lexer.next_token.Given as goal

abbrev pub invariant-loop-place : goal.invariant-loop-place
invariant-loop-place l = TokensBetween l.profile l.bytes l.fn.at l.place [] × (l.out.items ≡ l.initial.out.items)

abbrev pub decreases-loop-place : goal.decreases-loop-place
decreases-loop-place l = length l.bytes - l.place
