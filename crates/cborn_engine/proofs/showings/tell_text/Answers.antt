use Rattle.cborn_engine.proofs.Common.{IfErr, List, ℕ, subst, Fault, kind_of, IsUnshownHeld}
use Rattle.cborn_edn.specs.ShownBytes.{Notates}
use Rattle.cborn_engine.proofs.Answers.{known_error, no_reading, refused}
use Rattle.cborn_engine.proofs.Held.NotatedTexts.{spelled_read}
use Rattle.cborn_engine.proofs.showings.tell_text.Goals as goal

pub returns-in_err-bytes-clause-unshown : goal.returns-in_err-bytes-clause-unshown
returns-in_err-bytes-clause-unshown c =
    let k = kind_of c.args.profile in
    known_error (λ r. IfErr r (IsUnshownHeld k c.args.out_kind c.args.limit c.args.input.now)) _ _ c.from_residual.ensures.1
    (refused k c.args.out_kind c.args.limit c.args.input.now c.in_err-bytes.field-0.0 c.in_err-bytes.ensures.refused)

pub unreachable-requires : goal.unreachable-requires
unreachable-requires c =
    let b = c.in_ok-bytes in
    let fault = subst (Notates c.args.limit c.deref.result.now) c.in-Malformed.is c.in_ok-answer-in-Notation.ensures in
    no_reading c.args.limit b.bytes.items (c.in-Malformed.place, c.in-Malformed.reason, subst (λ (x : List ℕ). Fault c.args.limit x c.in-Malformed.place c.in-Malformed.reason) c.deref.ensures.value fault)
    (spelled_read c.args.profile c.args.limit c.args.input.now b.bytes.items c.requires b.ensures.spelled.0 b.ensures.spelled.1)
