use Rattle.cborn_c.proofs.Reported.{normalised}
use Rattle.cborn_c.proofs.cborn_normalise_one.Goals as goal

pub returns-clause-call : goal.returns-clause-call
returns-clause-call c = normalised _ _ _ _ _ _ _ _ _ _ _ _ _ _ _ _ c.in-Some.ensures c.in-Some-kind_at.ensures c.in-Some-order_at.ensures c.in-Some-new.ensures c.normalised-answer.ensures.normalised c.put.ensures
