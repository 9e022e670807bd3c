use Rattle.cborn_engine.proofs.Common.{refl, in_chunks, on_ok}
use Rattle.cborn_engine.proofs.places.PlacesVisitor.open_chunks.Goals as goal

pub returns-clause-held : goal.returns-clause-held
returns-clause-held c = on_ok c.open.result (λ o f free h. o f (in_chunks c.args.place c.args._kind) refl h) c.open.ensures
