use Rattle.cborn_engine.proofs.Canonical.Headline.{refused_again}
use Rattle.cborn_engine.proofs.laws.refused_again.Goals as goal

pub returns : goal.returns
returns g c = refused_again g.O.KeyOrder.order g.met.O.KeyOrder.laws
