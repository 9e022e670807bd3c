use Rattle.cborn_engine.proofs.Common.{CountAnswer, CheckedWhole, most_bytes, Kind}
use Rattle.cborn_engine.proofs.Answers.{short, known_error, unfaulted}
use Rattle.cborn_engine.proofs.CountAnswers.Answered.{kept_counted, checked_reported}
use Rattle.cborn_engine.proofs.slices.check_slice.Goals as goal

pub returns-in_err-defect-clause-checked : goal.returns-in_err-defect-clause-checked
returns-in_err-defect-clause-checked g c =
    let l = short most_bytes c.args.input.now c.is_too_long.result c.is_too_long.ensures c.if-is_too_long.false in
    known_error (λ r. CountAnswer c.args.count Kind.Wire c.args.limit c.args.input.now (CheckedWhole g.O.KeyOrder.order c.args.limit c.args.input.now) r) _ _ c.from_residual.ensures.1 (c.in_err-defect.ensures l)

pub returns-in_err-defect-clause-malformed : goal.returns-in_err-defect-clause-malformed
returns-in_err-defect-clause-malformed g c l = checked_reported c.args.count g.O.KeyOrder.order c.args.limit c.args.input.now _ l (returns-in_err-defect-clause-checked g c)

pub returns-in_err-expect-clause-checked : goal.returns-in_err-expect-clause-checked
returns-in_err-expect-clause-checked g c =
    let h = c.in_ok-defect.ensures (short most_bytes c.args.input.now c.is_too_long.result c.is_too_long.ensures c.if-is_too_long.false) in
    let Whole = CheckedWhole g.O.KeyOrder.order c.args.limit c.args.input.now in
    known_error (λ r. CountAnswer c.args.count Kind.Wire c.args.limit c.args.input.now Whole r) _ _ c.from_residual-in_err-expect.ensures.1
    (kept_counted c.args.count Kind.Wire c.args.limit c.args.input.now Whole c.in_ok-defect.defect c.in_err-expect.field-0.0 h (h.0, unfaulted Kind.Wire c.args.limit c.args.input.now h.1.held.nodes h.1.held.spelled) c.in_err-expect.ensures.refused)

pub returns-in_err-expect-clause-malformed : goal.returns-in_err-expect-clause-malformed
returns-in_err-expect-clause-malformed g c l = checked_reported c.args.count g.O.KeyOrder.order c.args.limit c.args.input.now _ l (returns-in_err-expect-clause-checked g c)

pub returns-clause-checked : goal.returns-clause-checked
returns-clause-checked g c = (c.in_ok-defect.ensures (short most_bytes c.args.input.now c.is_too_long.result c.is_too_long.ensures c.if-is_too_long.false), c.in_ok-expect.ensures.counted)

pub returns-clause-malformed : goal.returns-clause-malformed
returns-clause-malformed g c l = checked_reported c.args.count g.O.KeyOrder.order c.args.limit c.args.input.now _ l (returns-clause-checked g c)
