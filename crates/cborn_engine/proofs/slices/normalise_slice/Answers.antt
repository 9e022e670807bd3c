use Rattle.cborn_engine.proofs.Common.{cow_slice_items, CountAnswer, NormalisedWhole}
use Rattle.cborn_engine.proofs.Answers.{lent_encoded, known_error, unfaulted}
use Rattle.cborn_engine.proofs.Canonical.Canonicity.{canon_of}
use Rattle.cborn_engine.proofs.Canonical.NormalForm.{normal_form}
use Rattle.cborn_engine.proofs.CountAnswers.Answered.{kept_counted, normalised_reported}
use Rattle.cborn_engine.proofs.slices.normalise_slice.Goals as goal

pub returns-in_err-encodings-clause-normalised : goal.returns-in_err-encodings-clause-normalised
returns-in_err-encodings-clause-normalised g c =
    known_error (λ r. CountAnswer c.args.count c.args.in_kind c.args.limit c.args.input.now (NormalisedWhole g.O.KeyOrder.order c.args.in_kind c.args.out_kind c.args.limit c.args.input.now) r) _ _ c.from_residual.ensures.1 c.in_err-encodings.ensures

pub returns-in_err-encodings-clause-malformed : goal.returns-in_err-encodings-clause-malformed
returns-in_err-encodings-clause-malformed g c l = normalised_reported c.args.count c.args.in_kind c.args.out_kind c.args.limit c.args.input.now l g.O.KeyOrder.order _ (returns-in_err-encodings-clause-normalised g c)

pub returns-in_err-answer-clause-normalised : goal.returns-in_err-answer-clause-normalised
returns-in_err-answer-clause-normalised g c =
    let e = c.in_ok-encodings.ensures in
    known_error (λ r. CountAnswer c.args.count c.args.in_kind c.args.limit c.args.input.now (NormalisedWhole g.O.KeyOrder.order c.args.in_kind c.args.out_kind c.args.limit c.args.input.now) r) _ _ c.from_residual-in_err-answer.ensures.1
    (e.0, unfaulted c.args.in_kind c.args.limit c.args.input.now e.1.held.nodes e.1.held.spelled)

pub returns-in_err-answer-clause-malformed : goal.returns-in_err-answer-clause-malformed
returns-in_err-answer-clause-malformed g c l = normalised_reported c.args.count c.args.in_kind c.args.out_kind c.args.limit c.args.input.now l g.O.KeyOrder.order _ (returns-in_err-answer-clause-normalised g c)

pub returns-in_err-expect-clause-normalised : goal.returns-in_err-expect-clause-normalised
returns-in_err-expect-clause-normalised g c =
    let order = g.O.KeyOrder.order in
    let e = c.in_ok-encodings.ensures in
    let lent = lent_encoded g.O.KeyOrder.order c.args.in_kind c.args.limit c.args.input.now c.in_ok-encodings.encodings c.lent.result e.1 c.lent.ensures in
    let Whole = NormalisedWhole order c.args.in_kind c.args.out_kind c.args.limit c.args.input.now in
    let written = canon_of order c.args.out_kind lent.items (cow_slice_items c.lent.result) (cow_slice_items c.in_ok-answer.answer) lent.encoded c.in_ok-answer.ensures in
    known_error (λ r. CountAnswer c.args.count c.args.in_kind c.args.limit c.args.input.now Whole r) _ _ c.from_residual-in_err-expect.ensures.1
    (kept_counted c.args.count c.args.in_kind c.args.limit c.args.input.now Whole c.in_ok-answer.answer c.in_err-expect.field-0.0
    (e.0, record { items = lent.items; held = lent.held; written = written }) (e.0, unfaulted c.args.in_kind c.args.limit c.args.input.now e.1.held.nodes e.1.held.spelled) c.in_err-expect.ensures.refused)

pub returns-in_err-expect-clause-malformed : goal.returns-in_err-expect-clause-malformed
returns-in_err-expect-clause-malformed g c l = normalised_reported c.args.count c.args.in_kind c.args.out_kind c.args.limit c.args.input.now l g.O.KeyOrder.order _ (returns-in_err-expect-clause-normalised g c)

pub returns-clause-normalised : goal.returns-clause-normalised
returns-clause-normalised g c =
    let e = c.in_ok-encodings.ensures in
    let lent = lent_encoded g.O.KeyOrder.order c.args.in_kind c.args.limit c.args.input.now c.in_ok-encodings.encodings c.lent.result e.1 c.lent.ensures in
    let written = canon_of g.O.KeyOrder.order c.args.out_kind lent.items (cow_slice_items c.lent.result) (cow_slice_items c.in_ok-answer.answer) lent.encoded c.in_ok-answer.ensures in
    ((e.0, record { items = lent.items; held = lent.held; written = written }), c.in_ok-expect.ensures.counted)

pub returns-clause-malformed : goal.returns-clause-malformed
returns-clause-malformed g c l = normalised_reported c.args.count c.args.in_kind c.args.out_kind c.args.limit c.args.input.now l g.O.KeyOrder.order _ (returns-clause-normalised g c)

pub returns-clause-headline : goal.returns-clause-headline
returns-clause-headline g c =
    let canonical = (returns-clause-normalised g c).0 in
    normal_form g.O.KeyOrder.order g.met.O.KeyOrder.laws c.args.in_kind c.args.out_kind c.args.limit c.args.input.now _ canonical.0 canonical.1
