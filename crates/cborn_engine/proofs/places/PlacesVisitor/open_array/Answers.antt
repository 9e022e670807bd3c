use Rattle.cborn_engine.proofs.Common.{refl, an_array, on_ok}
use Rattle.cborn_engine.proofs.places.PlacesVisitor.open_array.Goals as goal

pub returns-clause-held : goal.returns-clause-held
returns-clause-held c = on_ok c.open.result (λ o f free h. o f (an_array c.args.place c.args._size c.args._count) refl h) c.open.ensures
