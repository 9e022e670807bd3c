use Rattle.cborn_model.proofs.Listed.Fitting.{Front, ChunkFits}
use Rattle.cborn_model.proofs.spellings.chunks_fit.Given as goal

abbrev pub invariant-loop-chunk : goal.invariant-loop-chunk
invariant-loop-chunk l = Front ChunkFits l.chunks l.chunk-index
