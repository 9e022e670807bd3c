use Rattle.cborn_engine.proofs.Common.{sym, subst, cow_slice_items, IsCanonical, IsEncoded, Kind}
use Rattle.cborn_engine.proofs.Answers.{held, judged}
use Rattle.cborn_engine.proofs.Canonical.Canonicity.{canon_of}
use Rattle.cborn_engine.proofs.CountAnswers.Judged.{judged_is}
use Rattle.cborn_engine.proofs.answered_inputs.form_of.Goals as goal

pub written_as-requires : goal.written_as-requires
written_as-requires g c =
    let order = g.O.KeyOrder.order in
    let limit = c.args.limit in
    let x = c.requires.0 in
    let e = c.in-Judged.encoded in
    let j = judged_is order c.args.count c.args.in_kind limit x c.args.input.now e c.in-Judged.is c.requires.1 in
    held order g.met.O.KeyOrder.laws Kind.Wire limit x c.as_slice.result.now j.within (subst (IsEncoded order Kind.Wire limit x) (sym c.as_slice.ensures.value) (judged order limit x e.bytes.items e.defect j.judged))

pub returns-in_ok-written_as-in-Judged-clause-form : goal.returns-in_ok-written_as-in-Judged-clause-form
returns-in_ok-written_as-in-Judged-clause-form g c x h =
    let order = g.O.KeyOrder.order in
    let limit = c.args.limit in
    let out = c.args.out_kind in
    let output = cow_slice_items c.in_ok-written_as-in-Judged.field-0 in
    let e = c.in-Judged.encoded in
    let j = judged_is order c.args.count c.args.in_kind limit x c.args.input.now e c.in-Judged.is h in
    let own = subst (IsEncoded order Kind.Wire limit x) (sym c.as_slice.ensures.value) (judged order limit x e.bytes.items e.defect j.judged) in
    let form : IsCanonical order Kind.Wire out limit x output = record { items = own.items; held = own.held; written = canon_of order out own.items c.as_slice.result.now output own.encoded c.in_ok-written_as-in-Judged.ensures } in
    ((j.within, subst (λ k. IsCanonical order k out limit x output) (sym j.wire) form), j.any)
