use Rattle.std.specs.Prelude.{◌≡◌}
use Rattle.cborn_lex.proofs.Common.{false, drop, strip, after}
use Rattle.cborn_lex.proofs.encoded.hex_digits.Given as goal

abbrev pub invariant-loop-c : goal.invariant-loop-c
invariant-loop-c l = after l.digits.items (strip l.inside (drop l.c-index l.content)) ≡ strip false l.content
