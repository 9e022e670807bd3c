use Rattle.cborn_det.proofs.Rising.{one_arrangement, one_arrangement_of_keys}
use Rattle.cborn_det.proofs.laws.one_arrangement.Goals as goal

pub returns-clause-keys : goal.returns-clause-keys
returns-clause-keys g c = one_arrangement_of_keys g.O.KeyOrder.order g.met.O.KeyOrder.laws

pub returns-clause-entries : goal.returns-clause-entries
returns-clause-entries g c = one_arrangement g.O.KeyOrder.order g.met.O.KeyOrder.laws
