use Rattle.cborn_lex.proofs.Common.{refl, ap, arith, length, length-drop}
use Rattle.cborn_lex.proofs.WholeTexts.Progress.{nothing, bad_at}
use Rattle.cborn_lex.proofs.lexer.next_token.Goals as goal

pub loop-place-init : goal.loop-place-init
loop-place-init c = (nothing c.args.profile c.as_bytes-bytes.result.now c.args.at, refl)

pub returns-in-Bad-clause-refused : goal.returns-in-Bad-clause-refused
returns-in-Bad-clause-refused c =
    let a = c.in_ok-front.ensures.1 in
    bad_at c.args.profile c.args.text.now c.rest_of.result.now c.args.at c.loop-place.place c.in_ok-front.more a.0 c.in-Bad.reason (rw c.as_bytes-bytes.ensures.value at c.loop-place.invariant.0) (rw c.as_bytes-bytes.ensures.value at c.rest_of.ensures) (rw c.in-Bad.is at a.2)
    (omega (arith, ap length c.rest_of.ensures, length-drop c.loop-place.place c.as_bytes-bytes.result.now)) c.in_ok-front.ensures.0 a.1
