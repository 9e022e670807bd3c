use Rattle.cborn_judge.proofs.Common.{refl, a_tag, on_ok}
use Rattle.cborn_judge.proofs.encoders.EncoderVisitor.open_tag.Goals as goal

pub returns-clause-held : goal.returns-clause-held
returns-clause-held g c = on_ok c.open.result (λ held f free old. held f (a_tag c.args.place c.args.width c.args.n) (refl, refl) old) c.open.ensures
