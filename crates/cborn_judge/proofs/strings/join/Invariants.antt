use Rattle.std.specs.Prelude.{◌≡◌}
use Rattle.cborn_judge.proofs.Common.{take, joined_chunks}
use Rattle.cborn_judge.proofs.strings.join.Given as goal

abbrev pub invariant-loop-chunk : goal.invariant-loop-chunk
invariant-loop-chunk l = l.bytes.items ≡ joined_chunks (take l.chunk-index l.chunks)
