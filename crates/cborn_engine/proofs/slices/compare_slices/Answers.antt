use Rattle.cborn_engine.proofs.Common.{cow_slice_items, of_the_first, TellsFaultAs}
use Rattle.cborn_engine.proofs.Answers.{known_error}
use Rattle.cborn_engine.proofs.Comparison.Compared.{its_own}
use Rattle.cborn_engine.proofs.CountAnswers.Answered.{compared_reported, taken_reported}
use Rattle.cborn_engine.proofs.slices.compare_slices.Goals as goal

pub difference-requires : goal.difference-requires
difference-requires g c =
    let m = c.in_ok-ours in
    let own = its_own g.O.KeyOrder.order g.met.O.KeyOrder.laws in
    record {
      ours = own c.args.kind_a c.args.limit c.args.first.now (cow_slice_items m.ours) c.deref.result.now m.ensures.taken.0.short m.ensures.encoded.0 c.deref.ensures.value;
      theirs = own c.args.kind_b c.args.limit c.args.second.now (cow_slice_items m.theirs) c.deref-2.result.now m.ensures.taken.1.short m.ensures.encoded.1 c.deref-2.ensures.value;
    }

pub returns-in_err-difference-clause-malformed : goal.returns-in_err-difference-clause-malformed
returns-in_err-difference-clause-malformed g c l = taken_reported c.args.count c.args.kind_a c.args.limit c.args.first.now _ c.in_ok-ours.ensures.taken.0

pub returns-in_err-ours-clause-malformed : goal.returns-in_err-ours-clause-malformed
returns-in_err-ours-clause-malformed g c l =
    known_error (λ r. TellsFaultAs of_the_first c.args.kind_a c.args.limit c.args.first.now r) _ _ c.from_residual.ensures.1
    (compared_reported c.args.count c.args.kind_a c.args.kind_b c.args.limit c.args.first.now c.args.second.now c.in_err-ours.field-0.0 c.in_err-ours.ensures.refused l)

pub returns-clause-malformed : goal.returns-clause-malformed
returns-clause-malformed g c l = taken_reported c.args.count c.args.kind_a c.args.limit c.args.first.now _ c.in_ok-ours.ensures.taken.0
