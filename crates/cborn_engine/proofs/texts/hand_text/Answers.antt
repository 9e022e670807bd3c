use Rattle.cborn_engine.proofs.Common.{IfErr, kind_of, IsNoFlaw, IsRefusedHeld}
use Rattle.cborn_engine.proofs.Answers.{known_error, untold}
use Rattle.cborn_engine.proofs.texts.hand_text.Goals as goal

pub returns-in_err-text-clause-refused : goal.returns-in_err-text-clause-refused
returns-in_err-text-clause-refused g c =
    let input = c.args.input.now in
    known_error (λ r. IfErr r (λ why. IsRefusedHeld (kind_of c.args.profile) c.args.limit input why × IsNoFlaw why)) _ _ c.from_residual.ensures.1
    (c.in_err-text.ensures.refused c.args.profile c.args.limit)

pub returns-in_err-visit_text-clause-refused : goal.returns-in_err-visit_text-clause-refused
returns-in_err-visit_text-clause-refused g c =
    let input = c.args.input.now in
    let text = c.in_ok-text in
    let why = c.in_err-visit_text in
    known_error (λ r. IfErr r (λ why. IsRefusedHeld (kind_of c.args.profile) c.args.limit input why × IsNoFlaw why)) _ _ c.from_residual-in_err-visit_text.ensures.1
    (untold c.args.profile c.args.limit input text.text.now why.field-0.0 text.ensures.text.0 text.ensures.text.1 why.ensures.refused)
