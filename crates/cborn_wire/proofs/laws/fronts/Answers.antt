use Rattle.cborn_wire.proofs.Spelled.FaultLaws.{fronts}
use Rattle.cborn_wire.proofs.laws.fronts.Goals as goal

pub returns : goal.returns
returns c = fronts
