use Rattle.cborn_edn.proofs.Common.{[], refl, sym, ◌∙◌, true, text, bytes, no_item, in_row, in_embed, wants, builds, with_piece, at_home}
use Rattle.cborn_lex.specs.declared.classes.Kind.TheVariants as kinds
use Rattle.cborn_edn.proofs.Grammar.Takes.{text_piece, bytes_piece, embed_opens}
use Rattle.cborn_edn.proofs.Lemmas.{arm, appends_nothing, adding, not_text, embed_taken, start_inside, piece_handed}
use Rattle.cborn_edn.proofs.steps.take_piece.Goals as goal

pub add_piece-requires : goal.add_piece-requires
add_piece-requires g c = let q = c.requires.ready in start_inside c.args.token.kind c.args.number c.args.here.now c.args.writer.now q.0 q.1.0 q.1.1.0 (sym c.takes_no_piece.ensures ∙ c.if-takes_no_piece.false) q.1.1.1

pub add_piece-requires-in-Bytes : goal.add_piece-requires-in-Bytes
add_piece-requires-in-Bytes g c = let q = c.requires.ready in start_inside c.args.token.kind c.args.number c.args.here.now c.args.writer.now q.0 q.1.0 q.1.1.0 (sym c.takes_no_piece.ensures ∙ c.if-takes_no_piece.false) q.1.1.1

pub returns-in-Text : goal.returns-in-Text
returns-in-Text g c = λ s. let h = g.V.Visitor.holds c.args.visitor.now in adding c.args.token.kind c.args.number c.args.token.start c.args.here.now c.add_piece.new.here c.args.writer.now c.add_piece.new.writer s (sym c.takes_no_piece.ensures ∙ c.if-takes_no_piece.false) (λ home o. arm h c.args.token.kind (kinds.Text c.in-Text.mark) c.args.number c.args.token.start c.args.here.now c.add_piece.new.here c.args.writer.now c.add_piece.new.writer true (at_home home o) c.in-Text.is (λ x base a p e r.
    let piece = text a x c.in-Text.mark in
    (builds home (with_piece o piece), text_piece home o a x c.in-Text.mark [], record { shows = c.add_piece.ensures.shows home o a x base p e (λ k. refl) r.shows; handed = piece_handed h c.args.writer.now.spellers c.add_piece.new.writer.spellers home o piece c.add_piece.ensures.spellers r.handed })))

pub returns-in-Bytes : goal.returns-in-Bytes
returns-in-Bytes g c = λ s. let h = g.V.Visitor.holds c.args.visitor.now in adding c.args.token.kind c.args.number c.args.token.start c.args.here.now c.add_piece-in-Bytes.new.here c.args.writer.now c.add_piece-in-Bytes.new.writer s (sym c.takes_no_piece.ensures ∙ c.if-takes_no_piece.false) (λ home o. arm h c.args.token.kind (kinds.Bytes c.in-Bytes.quoted c.in-Bytes.mark) c.args.number c.args.token.start c.args.here.now c.add_piece-in-Bytes.new.here c.args.writer.now c.add_piece-in-Bytes.new.writer true (at_home home o) c.in-Bytes.is (λ x base a p e r.
    let piece = bytes a c.in-Bytes.quoted x c.in-Bytes.mark in
    (builds home (with_piece o piece), bytes_piece home o a c.in-Bytes.quoted x c.in-Bytes.mark [], record { shows = c.add_piece-in-Bytes.ensures.shows home o a x base p e (λ k. not_text k) r.shows; handed = piece_handed h c.args.writer.now.spellers c.add_piece-in-Bytes.new.writer.spellers home o piece c.add_piece-in-Bytes.ensures.spellers r.handed })))

pub returns-in_ok-open_embedded-in-EmbedOpen : goal.returns-in_ok-open_embedded-in-EmbedOpen
returns-in_ok-open_embedded-in-EmbedOpen g c = λ s. let h = g.V.Visitor.holds c.args.visitor.now in adding c.args.token.kind c.args.number c.args.token.start c.args.here.now c.open_embedded.new.here c.args.writer.now c.open_embedded.new.writer s (sym c.takes_no_piece.ensures ∙ c.if-takes_no_piece.false) (λ home o. appends_nothing h c.args.token.kind (kinds.EmbedOpen) c.args.number c.args.token.start c.args.here.now c.open_embedded.new.here c.args.writer.now c.open_embedded.new.writer true (at_home home o) c.in-EmbedOpen.is (λ x. refl) (λ x a p e.
    let top = c.in_ok-open_embedded-in-EmbedOpen.ensures.spellers in
    (wants (in_row (in_embed home o a) no_item), embed_opens home o a [], embed_taken h top.0 c.args.writer.now c.open_embedded.new.writer c.args.here.now c.open_embedded.new.here home o a top.1 top.2 e (c.in_ok-open_embedded-in-EmbedOpen.ensures.shows home o a p e.shows))))
