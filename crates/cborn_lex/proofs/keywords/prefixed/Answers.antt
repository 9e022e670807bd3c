use Rattle.cborn_lex.proofs.Common.{refl, sym, ◌∙◌, ap, subst, arith, [], bytes_eq, UnknownPrefix, Bad, Prefix, hexadecimal, base64, IsPrefixed, cond-true, cond-false}
use Rattle.cborn_lex.proofs.TwoParts.{prefix_known}
use Rattle.cborn_lex.proofs.keywords.prefixed.Goals as goal

pub returns-then-eq : goal.returns-then-eq
returns-then-eq c = prefix_known hexadecimal c.args.word.now c.args.tail.now c.args.out.now.items c.in_encoding.new.out.items c.in_encoding.result (cond-true _ _ _ (ap (bytes_eq c.args.word.now) (sym c.as_slice.ensures) ∙ sym c.eq.ensures ∙ c.if-eq.true)) c.in_encoding.ensures

pub returns-then-eq-2 : goal.returns-then-eq-2
returns-then-eq-2 c =
    prefix_known base64 c.args.word.now c.args.tail.now c.args.out.now.items c.in_encoding-then-eq-2.new.out.items c.in_encoding-then-eq-2.result
    (cond-false _ _ _ (ap (bytes_eq c.args.word.now) (sym c.as_slice.ensures) ∙ sym c.eq.ensures ∙ c.if-eq.false) ∙ cond-true _ _ _ (ap (bytes_eq c.args.word.now) (sym c.as_slice-else-eq.ensures) ∙ sym c.eq-else-eq.ensures ∙ c.if-eq-2.true)) c.in_encoding-then-eq-2.ensures

pub returns-else-eq-2 : goal.returns-else-eq-2
returns-else-eq-2 c =
    let none = (cond-false _ _ _ (ap (bytes_eq c.args.word.now) (sym c.as_slice.ensures) ∙ sym c.eq.ensures ∙ c.if-eq.false) ∙ cond-false _ _ _ (ap (bytes_eq c.args.word.now) (sym c.as_slice-else-eq.ensures) ∙ sym c.eq-else-eq.ensures ∙ c.if-eq-2.false)) in
    (omega arith, (Bad UnknownPrefix, subst (λ (p : Prefix). IsPrefixed p [] c.args.tail.now (Bad UnknownPrefix)) (sym none) (refl, refl), λ n. refl))
