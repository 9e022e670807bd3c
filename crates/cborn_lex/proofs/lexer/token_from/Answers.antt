use Rattle.std.specs.Prelude.{◌∷◌}
use Rattle.cborn_lex.proofs.Common.{subst, sym, ◌∙◌, [], Class, TokensBetween}
use Rattle.cborn_lex.proofs.TwoParts.{same_class}
use Rattle.cborn_lex.proofs.lexer.token_from.Goals as goal

pub returns-in-Some-clause-ok : goal.returns-in-Some-clause-ok
returns-in-Some-clause-ok c =
    let h = rw c.in-Some.is at c.in_ok-token.ensures.ok in
    let same = c.into_class.ensures ∙ same_class c.in-Some.token.kind c.next_token.new.number c.new-content.result.items c.next_token.new.out.items h.0 c.new-content.ensures.items h.2 in
    subst (λ (k : Class). TokensBetween c.args.profile c.args.text.now c.args.at c.in-Some.token.stop (record { start = c.in-Some.token.start; stop = c.in-Some.token.stop; class = k } ∷ [])) (sym same) h.1
