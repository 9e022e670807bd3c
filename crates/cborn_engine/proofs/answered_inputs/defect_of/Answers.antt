use Rattle.cborn_engine.proofs.Common.{arith, most_bytes, Kind}
use Rattle.cborn_engine.proofs.Answers.{checked}
use Rattle.cborn_engine.proofs.CountAnswers.Judged.{judged_is}
use Rattle.cborn_engine.proofs.answered_inputs.defect_of.Goals as goal

pub returns-in-Judged-clause-defect : goal.returns-in-Judged-clause-defect
returns-in-Judged-clause-defect g c x h =
    let order = g.O.KeyOrder.order in
    let e = c.in-Judged.encoded in
    let j = judged_is order c.args.count Kind.Wire c.args.limit x c.args.input.now e c.in-Judged.is h in
    (checked c.args.limit most_bytes x j.within order g.met.O.KeyOrder.laws (omega arith) e.bytes.items e.defect j.judged, j.any)
