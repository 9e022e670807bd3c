use Rattle.cborn_engine.proofs.Canonical.OfBytes.{bytes_hold, canonical_bytes}
use Rattle.cborn_engine.proofs.laws.bytes_alone.Goals as goal

pub returns-clause-held : goal.returns-clause-held
returns-clause-held g c = bytes_hold

pub returns-clause-canonical : goal.returns-clause-canonical
returns-clause-canonical g c = canonical_bytes g.O.KeyOrder.order
