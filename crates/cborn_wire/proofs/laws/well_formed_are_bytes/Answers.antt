use Rattle.cborn_wire.proofs.Spelled.AllBytes.{well_bytes}
use Rattle.cborn_wire.proofs.laws.well_formed_are_bytes.Goals as goal

pub returns : goal.returns
returns c = well_bytes
