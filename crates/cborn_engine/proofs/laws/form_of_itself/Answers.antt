use Rattle.cborn_engine.proofs.Canonical.Canonicity.{settled}
use Rattle.cborn_engine.proofs.laws.form_of_itself.Goals as goal

pub returns : goal.returns
returns g c k out limit x v others short a h = settled g.O.KeyOrder.order g.met.O.KeyOrder.laws k out limit x v short a others h
