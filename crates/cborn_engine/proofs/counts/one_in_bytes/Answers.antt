use Rattle.cborn_engine.proofs.Common.{arith}
use Rattle.cborn_engine.proofs.CountAnswers.Second.{one_in_bytes}
use Rattle.cborn_engine.proofs.counts.one_in_bytes.Goals as goal

pub returns-then-end-input-clause-one : goal.returns-then-end-input-clause-one
returns-then-end-input-clause-one c =
    let s = c.requires.spelled in
    let at = rw c.in-Some.is at c.in_ok-end.ensures.item in
    one_in_bytes c.args.limit c.args.input.now s.0 c.in-Some.end s.1 at.0 at.1 (omega (arith, c.if-end-input.true))
