use Rattle.cborn_engine.proofs.Common.{IfErr, kind_of, IsNoFlaw, IsRefusedHeld}
use Rattle.cborn_engine.proofs.Answers.{known_error, untold}
use Rattle.cborn_engine.proofs.texts.notated_nodes.Goals as goal

pub returns-in_err-read_notation-clause-refused : goal.returns-in_err-read_notation-clause-refused
returns-in_err-read_notation-clause-refused c =
    let input = c.args.input.now in
    known_error (λ r. IfErr r (λ why. IsRefusedHeld (kind_of c.args.profile) c.args.limit input why × IsNoFlaw why)) _ _ c.from_residual-in_err-read_notation.ensures.1
    (untold c.args.profile c.args.limit input c.in_ok-text.text.now c.in_err-read_notation.field-0.0 c.in_ok-text.ensures.text.0 c.in_ok-text.ensures.text.1 c.in_err-read_notation.ensures.refused)

pub returns-in_err-text-clause-refused : goal.returns-in_err-text-clause-refused
returns-in_err-text-clause-refused c =
    let input = c.args.input.now in
    known_error (λ r. IfErr r (λ why. IsRefusedHeld (kind_of c.args.profile) c.args.limit input why × IsNoFlaw why)) _ _ c.from_residual.ensures.1
    (c.in_err-text.ensures.refused c.args.profile c.args.limit)
