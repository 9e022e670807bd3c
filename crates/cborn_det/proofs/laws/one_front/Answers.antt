use Rattle.cborn_det.proofs.Common.{[], ◌∙◌, sym, append-nil}
use Rattle.cborn_det.proofs.Reading.{reads}
use Rattle.cborn_det.proofs.laws.one_front.Goals as goal

pub returns-clause-prefix : goal.returns-clause-prefix
returns-clause-prefix g c a b x y r d e i =
    (reads g.O.KeyOrder.order a x d b y r [] e (i ∙ sym (append-nil y))).1
