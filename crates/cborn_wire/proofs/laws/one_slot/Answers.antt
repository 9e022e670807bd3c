use Rattle.cborn_wire.proofs.Spelled.SlotLaws.{one_slot}
use Rattle.cborn_wire.proofs.laws.one_slot.Goals as goal

pub returns : goal.returns
returns c = one_slot
