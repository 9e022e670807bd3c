use Rattle.cborn_judge.proofs.Common.{refl, in_chunks, on_ok}
use Rattle.cborn_judge.proofs.encoders.EncoderVisitor.open_chunks.Goals as goal

pub returns-clause-held : goal.returns-clause-held
returns-clause-held g c = on_ok c.open.result (λ held f free old. held f (in_chunks c.args.place c.args.kind) (refl, refl) old) c.open.ensures
