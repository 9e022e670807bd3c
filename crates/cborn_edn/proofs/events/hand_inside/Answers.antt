use Rattle.cborn_edn.proofs.Lemmas.{on_ok}
use Rattle.cborn_edn.proofs.events.hand_inside.Goals as goal

pub returns-in-Integer : goal.returns-in-Integer
returns-in-Integer c = rw c.in-Integer.is (on_ok c.integer.result (λ f. f c.args.content.now) c.integer.ensures)
