use Rattle.std.specs.Prelude.{◌≡◌, ◌++◌}
use Rattle.cborn_edn.proofs.Common.{length, encode_lower}
use Rattle.cborn_edn.proofs.writing.push_hex.Given as goal

abbrev pub invariant-loop-rest : goal.invariant-loop-rest
invariant-loop-rest l = l.initial.out.items ++ encode_lower l.bytes ≡ l.out.items ++ encode_lower l.rest

abbrev pub decreases-loop-rest : goal.decreases-loop-rest
decreases-loop-rest l = length l.rest
