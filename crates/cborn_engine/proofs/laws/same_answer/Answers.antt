use Rattle.cborn_engine.proofs.Canonical.Headline.{one_output}
use Rattle.cborn_engine.proofs.laws.same_answer.Goals as goal

pub returns : goal.returns
returns g c = one_output g.O.KeyOrder.order g.met.O.KeyOrder.laws
