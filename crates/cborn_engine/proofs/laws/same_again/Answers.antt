use Rattle.cborn_engine.proofs.Canonical.Canonicity.{again}
use Rattle.cborn_engine.proofs.laws.same_again.Goals as goal

pub returns : goal.returns
returns g c k out limit x v w short a b = again g.O.KeyOrder.order g.met.O.KeyOrder.laws k out limit x v short a w b
