use Rattle.std.specs.Prelude.{◌≤◌}
use Rattle.cborn_engine.proofs.Common.{◌∙◌, List, ℕ, length, sym, subst, Err, CountAnswer, EncodeAnswers, most_bytes}
use Rattle.cborn_engine.proofs.Answers.{known_error}
use Rattle.cborn_engine.proofs.CountAnswers.Judged.{whole_is}
use Rattle.cborn_engine.proofs.CountAnswers.Streamed.{not_encoded}
use Rattle.cborn_engine.proofs.answered_inputs.encodings_of.Goals as goal

pub returns-in_err-encode_counted-in-Whole-clause-encodings : goal.returns-in_err-encode_counted-in-Whole-clause-encodings
returns-in_err-encode_counted-in-Whole-clause-encodings g c x h =
    let order = g.O.KeyOrder.order in
    let count = c.args.count in
    let k = c.args.kind in
    let limit = c.args.limit in
    let now = c.deref.result.now in
    let why = c.in_err-encode_counted-in-Whole in
    let (is, short) = whole_is order count k limit x c.args.input c.in-Whole.bytes c.in-Whole.is h in
    let same = c.deref.ensures.value ∙ is in
    let Answers = λ (y : List ℕ). CountAnswer count k limit y (EncodeAnswers order k limit most_bytes y) in
    known_error (Answers x) _ _ c.from_residual.ensures.1
    (subst (λ y. Answers y (Err why.field-0.0)) same (not_encoded count k limit now (subst (λ y. length y ≤ most_bytes) (sym same) short) order c.in-Whole.bytes c.deref.ensures.value why.field-0.0 why.ensures))
