use Rattle.cborn_engine.proofs.Canonical.Canonicity.{own_form}
use Rattle.cborn_engine.proofs.Canonical.Headline.{alike, same_held}
use Rattle.cborn_engine.proofs.laws.headline.Goals as goal

pub returns-clause-alike : goal.returns-clause-alike
returns-clause-alike g c = alike g.O.KeyOrder.order g.met.O.KeyOrder.laws

pub returns-clause-held : goal.returns-clause-held
returns-clause-held g c = same_held g.O.KeyOrder.order g.met.O.KeyOrder.laws

pub returns-clause-again : goal.returns-clause-again
returns-clause-again g c k out limit x v short a = own_form g.O.KeyOrder.order g.met.O.KeyOrder.laws k out limit x v short a
