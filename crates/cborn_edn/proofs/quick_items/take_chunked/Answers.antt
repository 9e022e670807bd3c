use Rattle.std.specs.Prelude.{◌+◌}
use Rattle.cborn_edn.proofs.Common.{refl, arith, ChunkOpen, Span, no_string, states_around, wants, wants_chunk}
use Rattle.cborn_edn.proofs.Lemmas.{same_handed, handed_open_chunks, went, item_taken}
use Rattle.cborn_edn.proofs.quick_items.take_chunked.Goals as goal

pub returns : goal.returns
returns g c =
    let at = c.args.here.now.at in
    let a : Span = record { start = at; stop = at + 2 } in
    went (item_taken c.requires.wanting.0 c.as_bytes.ensures.value ChunkOpen (at + 2) (c.if-not-opens_chunks_at.ensures.token refl) c.open_chunks.new.here c.open_chunks.new.writer c.requires.wanting.2 (λ st. wants_chunk st a no_string) (λ st. refl)
    (λ st e. record { shows = c.open_chunks.ensures.shows st a refl e.shows; handed = same_handed (g.V.Visitor.holds c.args.visitor.now) c.args.writer.now c.open_chunks.new.writer (wants st) (wants_chunk st a no_string) (states_around st) c.open_chunks.ensures.spellers (λ k. handed_open_chunks k st a) e.handed }) (λ st. refl) (omega arith))
