use Rattle.cborn_lex.proofs.Common.{refl, take, BadEscape, Bad, is_content, is_unclosed, IsText}
use Rattle.cborn_lex.proofs.Sliced.Words.{string_bad}
use Rattle.cborn_lex.proofs.escaped.bad_string.Goals as goal

pub returns-clause-reads : goal.returns-clause-reads
returns-clause-reads c = λ k.
    (string_bad (is_content c.args.quote) c.args.quote c.in-Some.i c.mark_at-mark.result.1 c.args.tail.now (take c.in-Some.i c.args.tail.now) c.rest_of.result.now c.in-Some.ensures.1 c.in-Some.ensures.0 c.in-Some.ensures.2 refl c.rest_of.ensures c.mark_at-mark.ensures.within c.mark_at-mark.ensures.run
    (is_unclosed c.args.quote) (IsText c.args.quote) BadEscape k (Bad BadEscape) (c.requires.none c.in-Some.i c.in-Some.ensures.0 c.in-Some.ensures.1 c.in-Some.ensures.2) refl).1
