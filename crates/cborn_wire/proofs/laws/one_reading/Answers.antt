use Rattle.cborn_wire.proofs.Spelled.OneReading.{one_placed_reading}
use Rattle.cborn_wire.proofs.laws.one_reading.Goals as goal

pub returns-clause-placed : goal.returns-clause-placed
returns-clause-placed c = one_placed_reading
