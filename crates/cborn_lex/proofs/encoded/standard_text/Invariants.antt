use Rattle.std.specs.Prelude.{◌≡◌, ◌++◌}
use Rattle.cborn_lex.proofs.Common.{map, not, drop, filter, is_white, to_standard}
use Rattle.cborn_lex.proofs.encoded.standard_text.Given as goal

abbrev pub invariant-loop-c : goal.invariant-loop-c
invariant-loop-c l = l.text.items ++ map to_standard (filter (λ c. not (is_white c)) (drop l.c-index l.content)) ≡ map to_standard (filter (λ c. not (is_white c)) l.content)
