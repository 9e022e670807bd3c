use Rattle.std.specs.Prelude.{◌-◌}
use Rattle.cborn_edn.proofs.Common.{sym, ap, ◌∙◌, subst, List, ℕ, length, take, drop, arith, Event, Chunks, strings, after_strings, noted, states_around, chunk_event, Hands, str, as_chunk, builds, wants_chunk}
use Rattle.cborn_edn.specs.devices.Events.{Fits}
use Rattle.cborn_edn.proofs.Lemmas.{none_shown, chunk_fits, hands_chunk, joint_shown, content_shown, chunks_open, kind_shown, chunk_noted, chunk_read, known_bytes}
use Rattle.cborn_edn.proofs.strings.put_chunk.Goals as goal

pub hand-requires : goal.hand-requires
hand-requires g c = λ none.
    let w = c.args.writer.now in
    let st = c.requires.1 in
    let s = c.requires.2 in
    let b = c.requires.3 in
    let ps = c.requires.4 in
    let shows = c.requires.5.shows in
    let x : List ℕ = take (length c.deref.result.now - w.start) (drop w.start c.deref.result.now) in
    let is = joint_shown shows c.in-Some.joint c.in-Some.is in
    let same = content_shown shows c.deref.result.now c.deref.ensures.value in
    let are = chunks_open st s b ps shows c.in-Some-chunks.chunks c.in-Some-chunks.is in
    let kind = kind_shown s.start b ps c.in-Some-chunks.chunks c.in-Some.joint c.kind_or-kind.result are is c.kind_or-kind.ensures in
    let error = chunk_noted st s s b ps c.kind_or-kind.result w.error c.note_chunk.new.error kind (c.note_chunk.ensures (str ps) is (λ k. same ∙ known_bytes ps k)) shows.error in
    let event = c.chunk_event-event.ensures ∙ ap (λ (y : Chunks). chunk_event y c.in-Some.joint (length x)) are in
    subst (λ (e : Event). Fits e x) (sym event) (chunk_fits ps is same st s s b (none_shown c.note_chunk.new.error (noted (wants_chunk st s (after_strings (strings b ps) s))) none error) (omega arith))

pub returns : goal.returns
returns g c = λ here st s a b ps r.
    let w = c.args.writer.now in
    let u = wants_chunk st s (after_strings (strings b ps) a) in
    let x : List ℕ = take (length c.deref.result.now - w.start) (drop w.start c.deref.result.now) in
    let is = joint_shown r.shows c.in-Some.joint c.in-Some.is in
    let same = content_shown r.shows c.deref.result.now c.deref.ensures.value in
    let are = chunks_open st s b ps r.shows c.in-Some-chunks.chunks c.in-Some-chunks.is in
    let kind = kind_shown s.start b ps c.in-Some-chunks.chunks c.in-Some.joint c.kind_or-kind.result are is c.kind_or-kind.ensures in
    let error = chunk_noted st s a b ps c.kind_or-kind.result w.error c.note_chunk.new.error kind (c.note_chunk.ensures (str ps) is (λ k. same ∙ known_bytes ps k)) r.shows.error in
    let event = c.chunk_event-event.ensures ∙ ap (λ (y : Chunks). chunk_event y c.in-Some.joint (length x)) are in
    let hands = subst (λ (e : Event). Hands e c.in-Some.joint.place x (builds (as_chunk st s b) ps) u) (sym event) (hands_chunk ps is same st s a b) in
    chunk_read (g.V.Visitor.holds c.hand.new.visitor) here w c.drop_pieces.new.writer st s a b ps c.hand.new.spellers c.in-Some-chunks.chunks.place c.kind_or-kind.result c.note_chunk.new.error c.drop_pieces.ensures.rest c.drop_pieces.ensures.pieces (ap (λ (y : Chunks). y.place) are) kind error r.shows
    (c.in_ok-hand.ensures (builds (as_chunk st s b) ps) u (states_around st) error hands r.handed)
