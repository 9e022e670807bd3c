use Rattle.std.specs.Prelude.{◌≤◌, ◌-◌}
use Rattle.cborn_lex.proofs.Common.{length, TokensBetween}
use Rattle.cborn_lex.proofs.lexer.tokens.Given as goal

abbrev pub invariant-tokens : goal.invariant-tokens
invariant-tokens l = TokensBetween l.fn.profile l.fn.text 0 l.at l.found.items × (l.at ≤ length l.fn.text)

abbrev pub decreases-tokens : goal.decreases-tokens
decreases-tokens l = length l.fn.text - l.at
