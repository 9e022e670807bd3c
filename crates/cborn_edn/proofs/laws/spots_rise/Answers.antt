use Rattle.cborn_edn.proofs.Started.{spots_rise}
use Rattle.cborn_edn.proofs.laws.spots_rise.Goals as goal

pub returns : goal.returns
returns c = spots_rise
