use Rattle.cborn_model.proofs.Common.{arith}
use Rattle.cborn_model.proofs.Listed.Deciding.{granted}
use Rattle.cborn_model.proofs.Listed.Fitting.{chunks_fit}
use Rattle.cborn_model.proofs.spellings.chunks_fit.Goals as goal

pub returns : goal.returns
returns c = granted (chunks_fit _ (λ k d h. c.loop-chunk.invariant k d (omega (arith, h))))
