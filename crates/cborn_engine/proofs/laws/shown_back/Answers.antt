use Rattle.cborn_engine.proofs.Held.ShownBack.{shown_once}
use Rattle.cborn_engine.proofs.laws.shown_back.Goals as goal

pub returns-clause-one : goal.returns-clause-one
returns-clause-one c = shown_once
