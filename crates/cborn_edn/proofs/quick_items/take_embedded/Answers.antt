use Rattle.std.specs.Prelude.{◌+◌}
use Rattle.cborn_edn.proofs.Common.{refl, arith, None, EmbedOpen, Span, no_item, wants, as_item, in_row, in_embed}
use Rattle.cborn_edn.proofs.Lemmas.{embed_taken, went, item_taken}
use Rattle.cborn_edn.proofs.quick_items.take_embedded.Goals as goal

pub returns : goal.returns
returns g c =
    let at = c.args.here.now.at in
    let a : Span = record { start = at; stop = at + 2 } in
    let made = c.in_ok-open_embedded.ensures in
    went (item_taken c.requires.wanting.0 c.as_bytes.ensures.value EmbedOpen (at + 2) (c.if-not-embeds_at.ensures.token refl) c.open_embedded.new.here c.open_embedded.new.writer c.requires.wanting.2 (λ st. wants (in_row (in_embed (as_item st) None a) no_item)) (λ st. refl)
    (λ st e. embed_taken (g.V.Visitor.holds c.args.visitor.now) made.spellers.0 c.args.writer.now c.open_embedded.new.writer c.args.here.now c.open_embedded.new.here (as_item st) None a made.spellers.1 made.spellers.2 e (made.shows (as_item st) None a refl e.shows)) (λ st. refl) (omega arith))
