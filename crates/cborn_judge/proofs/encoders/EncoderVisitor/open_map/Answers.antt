use Rattle.cborn_judge.proofs.Common.{refl, a_map, on_ok}
use Rattle.cborn_judge.proofs.encoders.EncoderVisitor.open_map.Goals as goal

pub returns-clause-held : goal.returns-clause-held
returns-clause-held g c = on_ok c.open.result (λ held f free old. held f (a_map c.args.place c.args.size c.args.count) (refl, refl) old) c.open.ensures
