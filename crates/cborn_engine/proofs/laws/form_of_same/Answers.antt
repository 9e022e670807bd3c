use Rattle.cborn_engine.proofs.Canonical.Canonicity.{one_for_same}
use Rattle.cborn_engine.proofs.laws.form_of_same.Goals as goal

pub returns : goal.returns
returns g c k out limit x v others short a p = one_for_same g.O.KeyOrder.order g.met.O.KeyOrder.laws k out limit x v short a others p
