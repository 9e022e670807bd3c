use Rattle.cborn_lex.proofs.Common.{sym, ◌∙◌, refl, subst, arith, Front, word_front, FrontStandsFor}
use Rattle.cborn_lex.proofs.TwoParts.{nothing_appended}
use Rattle.cborn_lex.proofs.keywords.after_word.Goals as goal

pub returns-else-begins_with : goal.returns-else-begins_with
returns-else-begins_with c = (
  omega arith,
  (
    word_front c.args.word.now,
    (sym c.begins_with.ensures ∙ c.if-begins_with.false, c.requires.not_simple, refl),
    λ n. subst (λ (a : Front). FrontStandsFor c.word_front.result n c.args.out.now.items c.args.out.now.items a) (c.word_front.ensures n) (nothing_appended c.word_front.result n c.args.out.now.items c.args.out.now.items refl),
  ),
)
