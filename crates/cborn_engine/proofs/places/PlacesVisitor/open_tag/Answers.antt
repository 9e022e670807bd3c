use Rattle.cborn_engine.proofs.Common.{refl, a_tag, on_ok}
use Rattle.cborn_engine.proofs.places.PlacesVisitor.open_tag.Goals as goal

pub returns-clause-held : goal.returns-clause-held
returns-clause-held c = on_ok c.open.result (λ o f free h. o f (a_tag c.args.place c.args._width c.args._n) refl h) c.open.ensures
