use Rattle.cborn_judge.proofs.Common.{rules}
use Rattle.cborn_judge.proofs.encoders.Encoder.over.Goals as goal

pub returns : goal.returns
returns g c = (search rules, ((λ p r h. h.1), (λ e p r h. h.1)))
