use Rattle.std.specs.Prelude.{◌≡◌}
use Rattle.cborn_model.proofs.Common.{length, big_endian}
use Rattle.cborn_model.proofs.magnitudes.without_zeros.Given as goal

abbrev pub invariant-loop-rest : goal.invariant-loop-rest
invariant-loop-rest l = big_endian l.rest ≡ big_endian l.bytes

abbrev pub decreases-loop-rest : goal.decreases-loop-rest
decreases-loop-rest l = length l.rest
