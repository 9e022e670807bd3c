use Rattle.cborn_engine.proofs.Common.{Decides-eqb, slice_eq-Decides, cow_slice_items, of_the_first, TellsFaultAs}
use Rattle.cborn_engine.proofs.Answers.{known_error}
use Rattle.cborn_engine.proofs.Comparison.Compared.{same_encodings, same_forms}
use Rattle.cborn_engine.proofs.CountAnswers.Answered.{compared_reported, taken_reported}
use Rattle.cborn_engine.proofs.slices.same_items.Goals as goal

pub returns-clause-same : goal.returns-clause-same
returns-clause-same g c =
    let m = c.in_ok-ours in
    same_encodings g.O.KeyOrder.order g.met.O.KeyOrder.laws c.args.kind_a c.args.kind_b c.args.limit c.args.first.now c.args.second.now (cow_slice_items m.ours) (cow_slice_items m.theirs) c.deref.result.now c.deref-2.result.now c.eq.result
    m.ensures.taken.0.short m.ensures.taken.1.short m.ensures.encoded.0 m.ensures.encoded.1 c.deref.ensures.value c.deref-2.ensures.value (slice_eq-Decides Decides-eqb _ _ _ c.eq.ensures)

pub returns-clause-forms : goal.returns-clause-forms
returns-clause-forms g c out v w a b =
    let m = c.in_ok-ours in
    same_forms g.O.KeyOrder.order g.met.O.KeyOrder.laws c.args.kind_a c.args.kind_b c.args.limit c.args.first.now c.args.second.now c.eq.result m.ensures.taken.0.short m.ensures.taken.1.short (returns-clause-same g c) out v w a b

pub returns-in_err-ours-clause-malformed : goal.returns-in_err-ours-clause-malformed
returns-in_err-ours-clause-malformed g c l =
    known_error (λ r. TellsFaultAs of_the_first c.args.kind_a c.args.limit c.args.first.now r) _ _ c.from_residual.ensures.1
    (compared_reported c.args.count c.args.kind_a c.args.kind_b c.args.limit c.args.first.now c.args.second.now c.in_err-ours.field-0.0 c.in_err-ours.ensures.refused l)

pub returns-clause-malformed : goal.returns-clause-malformed
returns-clause-malformed g c l = taken_reported c.args.count c.args.kind_a c.args.limit c.args.first.now _ c.in_ok-ours.ensures.taken.0
