use Rattle.std.specs.Prelude.{◌-◌}
use Rattle.cborn_edn.proofs.Common.{sym, ◌∙◌, subst, List, ℕ, length, take, drop, arith, Event, string, noted, states_around, Hands, str, as_item, has, builds}
use Rattle.cborn_edn.specs.devices.Events.{Fits}
use Rattle.cborn_edn.proofs.Lemmas.{none_shown, string_fits, hands_string, joint_shown, content_shown, item_noted, item_read, known_bytes}
use Rattle.cborn_edn.proofs.strings.put_string.Goals as goal

pub hand-requires : goal.hand-requires
hand-requires g c = λ none.
    let w = c.args.writer.now in
    let st = c.requires.1 in
    let ps = c.requires.2 in
    let shows = c.requires.3.shows in
    let x : List ℕ = take (length c.deref.result.now - w.start) (drop w.start c.deref.result.now) in
    let is = joint_shown shows c.in-Some.joint c.in-Some.is in
    let same = content_shown shows c.deref.result.now c.deref.ensures.value in
    let error = item_noted st ps c.in-Some.joint w.error c.note_string.new.error is (c.note_string.ensures (str ps) is (λ k. same ∙ known_bytes ps k)) shows.error in
    subst (λ (e : Event). Fits e x) (sym c.string_event-event.ensures) (string_fits ps is same st (none_shown c.note_string.new.error (noted (has st (string ps))) none error) (omega arith))

pub returns : goal.returns
returns g c = λ here st ps r.
    let w = c.args.writer.now in
    let u = has st (string ps) in
    let x : List ℕ = take (length c.deref.result.now - w.start) (drop w.start c.deref.result.now) in
    let is = joint_shown r.shows c.in-Some.joint c.in-Some.is in
    let same = content_shown r.shows c.deref.result.now c.deref.ensures.value in
    let error = item_noted st ps c.in-Some.joint w.error c.note_string.new.error is (c.note_string.ensures (str ps) is (λ k. same ∙ known_bytes ps k)) r.shows.error in
    let hands = subst (λ (e : Event). Hands e c.in-Some.joint.place x (builds (as_item st) ps) u) (sym c.string_event-event.ensures) (hands_string ps is same st) in
    item_read (g.V.Visitor.holds c.hand.new.visitor) here w c.drop_pieces.new.writer st ps c.hand.new.spellers c.note_string.new.error c.drop_pieces.ensures.rest c.drop_pieces.ensures.pieces error r.shows (c.in_ok-hand.ensures (builds (as_item st) ps) u (states_around st) error hands r.handed)
