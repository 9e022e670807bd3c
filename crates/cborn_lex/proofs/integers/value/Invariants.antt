use Rattle.std.specs.Prelude.{◌≡◌, ◌<◌, ◌^◌}
use Rattle.cborn_lex.proofs.Common.{drop, number}
use Rattle.cborn_lex.proofs.integers.value.Given as goal

abbrev pub invariant-loop-d : goal.invariant-loop-d
invariant-loop-d l = (number l.base l.n (drop l.d-index l.ds) ≡ number l.base 0 l.ds) × (l.n < 2 ^ 128)
