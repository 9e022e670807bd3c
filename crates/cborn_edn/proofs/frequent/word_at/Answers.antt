use Rattle.std.specs.Prelude.{◌≡◌, ◌+◌, ◌-◌, ◌++◌}
use Rattle.cborn_edn.proofs.Common.{◌∙◌, sym, ap, length, drop, arith, take_rest, Word, length-append, length-drop}
use Rattle.cborn_lex.specs.Good as good
use Rattle.cborn_edn.proofs.Reader.CommonTokens.{token_here}
use Rattle.cborn_edn.proofs.frequent.word_at.Goals as goal

pub returns-clause-token : goal.returns-clause-token
returns-clause-token c profile =
    let text = c.args.text.now in
    let at = c.args.at in
    let name = c.in_ok-n in
    let w = name.ensures.0 in
    let z = name.rest.now in
    let whole : drop at text ≡ w ++ z = sym (take_rest text at) ∙ name.ensures.2 in
    let stop : length text - length z ≡ at + length w = omega (arith, ap length whole, length-append w z, length-drop at text, c.requires) in
    token_here profile text w z at (length text - length z) (Word name.n) whole stop (good.word w z name.n name.ensures.1 (sym c.goes_on.ensures ∙ c.if-goes_on.false))
