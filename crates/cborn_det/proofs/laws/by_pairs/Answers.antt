use Rattle.cborn_det.proofs.Canon.{det_map}
use Rattle.cborn_det.proofs.laws.by_pairs.Goals as goal

pub returns : goal.returns
returns g c = det_map g.O.KeyOrder.order
