use Rattle.cborn_engine.proofs.Common.{arith, CheckedWhole, most_bytes}
use Rattle.cborn_engine.proofs.Answers.{known_error, checked}
use Rattle.cborn_engine.proofs.checks.check_input.Goals as goal

pub returns-in_err-encoded : goal.returns-in_err-encoded
returns-in_err-encoded g c within = known_error (CheckedWhole g.O.KeyOrder.order c.args.limit c.args.input.now) _ _ c.from_residual.ensures.1 (c.in_err-encoded.ensures.refused most_bytes within)

pub returns : goal.returns
returns g c within =
    checked c.args.limit most_bytes c.args.input.now within g.O.KeyOrder.order g.met.O.KeyOrder.laws (omega arith) c.in_ok-encoded.encoded.bytes.items c.in_ok-encoded.encoded.defect c.in_ok-encoded.ensures.judged
