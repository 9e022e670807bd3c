use Rattle.cborn_lex.proofs.Common.{get_or, ◌∙◌, refl, arith, SimpleOpen, Read}
use Rattle.cborn_lex.specs.declared.classes.Kind.TheVariants as kinds
use Rattle.cborn_lex.specs.declared.fronts.Front.TheVariants as fronts
use Rattle.cborn_lex.proofs.TwoParts.{simple_word, nothing_appended}
use Rattle.cborn_lex.proofs.Sliced.Words.{word_made, word_text}
use Rattle.cborn_lex.proofs.keywords.word_at.Goals as goal

pub returns : goal.returns
returns c =
    let h = c.in_ok-front.ensures in
    let t = h.1 in
    let p =
    word_made (get_or c.args.text.now 0 0) c.word_len-n.result c.in_ok-front.m c.front_of-word.result.now c.args.tail.now c.rest_of-after.result.now t.0
    (c.front_of-word.ensures ∙ word_text c.args.text.now c.args.tail.now c.word_len-n.result c.requires.some c.requires.tail) c.rest_of-after.ensures c.word_len-n.ensures.within c.word_len-n.ensures.run h.0 t.1 in
    (p.0, (t.0, p.1, t.2))

pub returns-then-text-eq115 : goal.returns-then-text-eq115
returns-then-text-eq115 c = (
  c.in-105.len_at_least,
  (
    Read SimpleOpen,
    simple_word (get_or c.args.text.now 0 0) c.args.tail.now c.in-105.len_at_least c.if-text-eq115.true (omega arith) (omega arith) (omega arith) (omega arith) (omega arith) (omega arith),
    λ n. nothing_appended (fronts.Read kinds.SimpleOpen) n c.args.out.now.items c.args.out.now.items refl,
  ),
)
