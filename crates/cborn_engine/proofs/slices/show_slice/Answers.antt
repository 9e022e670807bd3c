use Rattle.cborn_engine.proofs.Common.{CountAnswer, ShownWhole}
use Rattle.cborn_engine.proofs.Answers.{known_error, unfaulted}
use Rattle.cborn_engine.proofs.CountAnswers.Answered.{kept_counted, shown_reported}
use Rattle.cborn_engine.proofs.slices.show_slice.Goals as goal

pub returns-in_err-answer-clause-shown : goal.returns-in_err-answer-clause-shown
returns-in_err-answer-clause-shown c = known_error (λ r. CountAnswer c.args.count c.args.in_kind c.args.limit c.args.input.now (ShownWhole c.args.in_kind c.args.out_kind c.args.limit c.args.input.now) r) _ _ c.from_residual.ensures.1 c.in_err-answer.ensures.shown

pub returns-in_err-answer-clause-malformed : goal.returns-in_err-answer-clause-malformed
returns-in_err-answer-clause-malformed c l = shown_reported c.args.count c.args.in_kind c.args.out_kind c.args.limit c.args.input.now l _ (returns-in_err-answer-clause-shown c)

pub returns-in_err-expect-clause-shown : goal.returns-in_err-expect-clause-shown
returns-in_err-expect-clause-shown c =
    let h = c.in_ok-answer.ensures.shown in
    let Whole = ShownWhole c.args.in_kind c.args.out_kind c.args.limit c.args.input.now in
    known_error (λ r. CountAnswer c.args.count c.args.in_kind c.args.limit c.args.input.now Whole r) _ _ c.from_residual-in_err-expect.ensures.1
    (kept_counted c.args.count c.args.in_kind c.args.limit c.args.input.now Whole c.in_ok-answer.answer c.in_err-expect.field-0.0 h ((h.0, unfaulted c.args.in_kind c.args.limit c.args.input.now h.1.nodes h.1.spelled), tt) c.in_err-expect.ensures.refused)

pub returns-in_err-expect-clause-malformed : goal.returns-in_err-expect-clause-malformed
returns-in_err-expect-clause-malformed c l = shown_reported c.args.count c.args.in_kind c.args.out_kind c.args.limit c.args.input.now l _ (returns-in_err-expect-clause-shown c)

pub returns-clause-shown : goal.returns-clause-shown
returns-clause-shown c = (c.in_ok-answer.ensures.shown, c.in_ok-expect.ensures.counted)

pub returns-clause-malformed : goal.returns-clause-malformed
returns-clause-malformed c l = shown_reported c.args.count c.args.in_kind c.args.out_kind c.args.limit c.args.input.now l _ (returns-clause-shown c)
