use Rattle.cborn_edn.proofs.Common.{refl, ap, ◌∙◌, subst, true, class_of, Kind, IsModest, is_piece, number, word, no_item, no_pair, no_string, states_around, in_row, in_key, in_tag, in_array, wants, has, wants_chunk, wants_number}
use Rattle.cborn_lex.specs.declared.classes.Kind.TheVariants as kinds
use Rattle.cborn_edn.proofs.Lemmas.{if_ok, turn, same_handed, shown_kind, handed_open_chunks, handed_open_simple}
use Rattle.cborn_edn.proofs.Reader.Stepping.{read_at}
use Rattle.cborn_edn.proofs.steps.begin.Goals as goal

pub returns-in_ok-open_sized-in-ArrayOpen : goal.returns-in_ok-open_sized-in-ArrayOpen
returns-in_ok-open_sized-in-ArrayOpen g c = λ st. turn _ c.args.token.kind (kinds.ArrayOpen c.in-ArrayOpen.mark) c.args.number c.args.token.start c.args.here.now c.open_sized.new.here c.args.writer.now c.open_sized.new.writer true (wants st) c.in-ArrayOpen.is (λ x a p e. (wants (in_row (in_array st a c.in-ArrayOpen.mark) no_item), refl, c.in_ok-open_sized-in-ArrayOpen.ensures st a p (read_at c.args.here.now c.args.writer.now c.args.writer.now.pieces.items (wants st) c.args.token.start e)))

pub returns-in_ok-open_sized-in-MapOpen : goal.returns-in_ok-open_sized-in-MapOpen
returns-in_ok-open_sized-in-MapOpen g c = λ st. turn _ c.args.token.kind (kinds.MapOpen c.in-MapOpen.mark) c.args.number c.args.token.start c.args.here.now c.open_sized-in-MapOpen.new.here c.args.writer.now c.open_sized-in-MapOpen.new.writer true (wants st) c.in-MapOpen.is (λ x a p e. (wants (in_key st a c.in-MapOpen.mark no_pair), refl, c.in_ok-open_sized-in-MapOpen.ensures st a p (read_at c.args.here.now c.args.writer.now c.args.writer.now.pieces.items (wants st) c.args.token.start e)))

pub returns-in_ok-open_tag-in-TagOpen : goal.returns-in_ok-open_tag-in-TagOpen
returns-in_ok-open_tag-in-TagOpen g c = λ st. turn _ c.args.token.kind (kinds.TagOpen c.in-TagOpen.mark) c.args.number c.args.token.start c.args.here.now c.open_tag.new.here c.args.writer.now c.open_tag.new.writer true (wants st) c.in-TagOpen.is (λ x a p e. (wants (in_tag st a c.args.number c.in-TagOpen.mark), refl, c.in_ok-open_tag-in-TagOpen.ensures st a p e))

pub returns-in_ok-put_number-in-Number : goal.returns-in_ok-put_number-in-Number
returns-in_ok-put_number-in-Number g c = λ st. turn _ c.args.token.kind (kinds.Number c.in-Number.negative c.in-Number.mark) c.args.number c.args.token.start c.args.here.now c.put_number.new.here c.args.writer.now c.put_number.new.writer true (wants st) c.in-Number.is (λ x a p e. (has st (number a c.in-Number.negative c.args.number c.in-Number.mark), refl, c.in_ok-put_number-in-Number.ensures st a p e))

pub returns-in_ok-put_word-in-Word : goal.returns-in_ok-put_word-in-Word
returns-in_ok-put_word-in-Word g c = λ st. turn _ c.args.token.kind (kinds.Word c.in-Word.n) c.args.number c.args.token.start c.args.here.now c.put_word.new.here c.args.writer.now c.put_word.new.writer true (wants st) c.in-Word.is (λ x a p e. (has st (word a c.in-Word.n), refl, c.in_ok-put_word-in-Word.ensures st a p e))

pub returns-in-ChunkOpen : goal.returns-in-ChunkOpen
returns-in-ChunkOpen g c = λ st. turn _ c.args.token.kind (kinds.ChunkOpen) c.args.number c.args.token.start c.args.here.now c.open_chunks.new.here c.args.writer.now c.open_chunks.new.writer true (wants st) c.in-ChunkOpen.is (λ x a p e. (wants_chunk st a no_string, refl, record { shows = c.open_chunks.ensures.shows st a p e.shows; handed = same_handed (g.V.Visitor.holds c.args.visitor.now) c.args.writer.now c.open_chunks.new.writer (wants st) (wants_chunk st a no_string) (states_around st) c.open_chunks.ensures.spellers (λ k. handed_open_chunks k st a) e.handed }))

pub returns-in-SimpleOpen : goal.returns-in-SimpleOpen
returns-in-SimpleOpen g c = λ st. turn _ c.args.token.kind (kinds.SimpleOpen) c.args.number c.args.token.start c.args.here.now c.open_simple.new.here c.args.writer.now c.open_simple.new.writer true (wants st) c.in-SimpleOpen.is (λ x a p e. (wants_number st a, refl, record { shows = c.open_simple.ensures.shows st a p e.shows; handed = same_handed (g.V.Visitor.holds c.args.visitor.now) c.args.writer.now c.open_simple.new.writer (wants st) (wants_number st a) (states_around st) c.open_simple.ensures.spellers (λ k. handed_open_simple k st a) e.handed }))

pub put_word-requires : goal.put_word-requires
put_word-requires g c = let r = c.requires.ready.1.1.1 in subst IsModest (r.stands.class ∙ ap (λ (k : Kind). class_of k c.args.number r.stands.content) c.in-Word.is) r.token

pub returns-in-ArrayClose : goal.returns-in-ArrayClose
returns-in-ArrayClose g c = if_ok c.end_sized.result _ _ (λ ok t st. turn _ c.args.token.kind (kinds.ArrayClose) c.args.number c.args.token.start c.args.here.now c.end_sized.new.here c.args.writer.now c.end_sized.new.writer ok (wants st) c.in-ArrayClose.is (λ x a p e. t (wants st) a tt e)) c.end_sized.ensures.taken

pub returns-in-MapClose : goal.returns-in-MapClose
returns-in-MapClose g c = if_ok c.end_sized-in-MapClose.result _ _ (λ ok t st. turn _ c.args.token.kind (kinds.MapClose) c.args.number c.args.token.start c.args.here.now c.end_sized-in-MapClose.new.here c.args.writer.now c.end_sized-in-MapClose.new.writer ok (wants st) c.in-MapClose.is (λ x a p e. t (wants st) a tt e)) c.end_sized-in-MapClose.ensures.taken

pub returns-in-EmbedClose : goal.returns-in-EmbedClose
returns-in-EmbedClose g c = if_ok c.end_embedded.result _ _ (λ ok t st. turn _ c.args.token.kind (kinds.EmbedClose c.in-EmbedClose.mark) c.args.number c.args.token.start c.args.here.now c.end_embedded.new.here c.args.writer.now c.end_embedded.new.writer ok (wants st) c.in-EmbedClose.is (λ x a p e. t (wants st) a p tt e)) c.end_embedded.ensures.taken

pub end_sized-requires-clause-shows : goal.end_sized-requires-clause-shows
end_sized-requires-clause-shows g c = let q = c.requires.ready in (wants q.0, tt, shown_kind c.args.token.kind c.args.number c.args.here.now c.args.writer.now (wants q.0) q.1.0 q.1.1.0 (ap is_piece c.in-ArrayClose.is) q.1.1.1)

pub end_sized-requires-in-MapClose-clause-shows : goal.end_sized-requires-in-MapClose-clause-shows
end_sized-requires-in-MapClose-clause-shows g c = let q = c.requires.ready in (wants q.0, tt, shown_kind c.args.token.kind c.args.number c.args.here.now c.args.writer.now (wants q.0) q.1.0 q.1.1.0 (ap is_piece c.in-MapClose.is) q.1.1.1)

pub end_embedded-requires : goal.end_embedded-requires
end_embedded-requires g c = let q = c.requires.ready in (wants q.0, tt, shown_kind c.args.token.kind c.args.number c.args.here.now c.args.writer.now (wants q.0) q.1.0 q.1.1.0 (ap is_piece c.in-EmbedClose.is) q.1.1.1)
