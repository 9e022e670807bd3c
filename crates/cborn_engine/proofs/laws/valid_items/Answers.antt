use Rattle.cborn_engine.proofs.Canonical.Canonicity.{valid}
use Rattle.cborn_engine.proofs.laws.valid_items.Goals as goal

pub returns : goal.returns
returns g c k out limit x v short a = valid g.O.KeyOrder.order g.met.O.KeyOrder.laws k out limit x v short a
