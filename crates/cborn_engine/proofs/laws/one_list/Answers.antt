use Rattle.cborn_engine.proofs.Held.Meant.{holds_once}
use Rattle.cborn_engine.proofs.laws.one_list.Goals as goal

pub returns-clause-one : goal.returns-clause-one
returns-clause-one c = holds_once
