use Rattle.std.specs.Prelude.{◌≡◌, ◌+◌, ◌*◌, ◌^◌}
use Rattle.cborn_model.proofs.Common.{drop, length, big_endian}
use Rattle.cborn_model.proofs.magnitudes.word_of.Given as goal

abbrev pub invariant-loop-byte : goal.invariant-loop-byte
invariant-loop-byte l =
    l.n * 256 ^ length (drop l.byte-index l.bytes) + big_endian (drop l.byte-index l.bytes) ≡ big_endian l.bytes
