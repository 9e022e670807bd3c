use Rattle.cborn_engine.proofs.Held.Known.{input_read}
use Rattle.cborn_engine.proofs.laws.held_input.Goals as goal

pub returns-clause-items : goal.returns-clause-items
returns-clause-items c = input_read
