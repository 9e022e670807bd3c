use Rattle.cborn_wire.proofs.Common.{ap, Err}
use Rattle.cborn_wire.proofs.Feeding.Outcomes.{passed_on}
use Rattle.cborn_wire.proofs.readers.read_all.Goals as goal

pub returns-in_err-visit-clause-fault : goal.returns-in_err-visit-clause-fault
returns-in_err-visit-clause-fault c = λ p r said. c.in_err-visit.ensures.fault p r (ap Err (passed_on c.from_residual.result c.in_err-visit.field-0.0 p r c.from_residual.ensures.1 said))

pub returns-clause-items : goal.returns-clause-items
returns-clause-items c =
    let (ts, held, read, placed) = c.in_ok-visit.ensures.items in
    rw (c.in_ok-finish.ensures ts held) (read, placed)
