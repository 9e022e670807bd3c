use Rattle.cborn_lex.specs.declared.classes.Kind.TheVariants as kinds
use Rattle.cborn_edn.proofs.Common.{true, false, Comma, Colon, has}
use Rattle.cborn_edn.proofs.Lemmas.{if_ok, turn, still_taken, separator_handed}
use Rattle.cborn_edn.proofs.steps.after.Goals as goal

pub returns-in-EmbedClose : goal.returns-in-EmbedClose
returns-in-EmbedClose g c = if_ok c.end_embedded.result _ _ (λ ok t st i. turn _ c.args.token.kind (kinds.EmbedClose c.in-EmbedClose.mark) c.args.number c.args.token.start c.args.here.now c.end_embedded.new.here c.args.writer.now c.end_embedded.new.writer ok (has st i) c.in-EmbedClose.is (λ x a p e. t (has st i) a p tt e)) c.end_embedded.ensures.taken

pub returns-in-Colon : goal.returns-in-Colon
returns-in-Colon g c = λ st i. let h = g.V.Visitor.holds c.args.visitor.now in turn h c.args.token.kind (kinds.Colon) c.args.number c.args.token.start c.args.here.now c.end_part.new.here c.args.writer.now c.args.writer.now c.end_part.result (has st i) c.in-Colon.is (λ x a p e. still_taken h c.end_part.result (has st i) Colon a c.end_part.new.here c.args.writer.now (separator_handed h true st i a) e.handed (c.end_part.ensures.taken st i a e.shows))

pub returns-in-Comma : goal.returns-in-Comma
returns-in-Comma g c = λ st i. let h = g.V.Visitor.holds c.args.visitor.now in turn h c.args.token.kind (kinds.Comma) c.args.number c.args.token.start c.args.here.now c.end_part-in-Comma.new.here c.args.writer.now c.args.writer.now c.end_part-in-Comma.result (has st i) c.in-Comma.is (λ x a p e. still_taken h c.end_part-in-Comma.result (has st i) Comma a c.end_part-in-Comma.new.here c.args.writer.now (separator_handed h false st i a) e.handed (c.end_part-in-Comma.ensures.taken st i a e.shows))
