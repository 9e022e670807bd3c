use Rattle.cborn_engine.proofs.Canonical.OfBytes.{bytes_alike, bytes_again, items_once}
use Rattle.cborn_engine.proofs.laws.headline_of_bytes.Goals as goal

pub returns-clause-alike : goal.returns-clause-alike
returns-clause-alike g c = bytes_alike g.O.KeyOrder.order g.met.O.KeyOrder.laws

pub returns-clause-again : goal.returns-clause-again
returns-clause-again g c = bytes_again g.O.KeyOrder.order g.met.O.KeyOrder.laws

pub returns-clause-one : goal.returns-clause-one
returns-clause-one g c = items_once
