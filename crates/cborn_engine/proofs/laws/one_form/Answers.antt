use Rattle.cborn_engine.proofs.Canonical.Canonicity.{alone}
use Rattle.cborn_engine.proofs.laws.one_form.Goals as goal

pub returns : goal.returns
returns g c k out limit x v w short a d = alone g.O.KeyOrder.order g.met.O.KeyOrder.laws k out limit x v short a w d
