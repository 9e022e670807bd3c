use Rattle.std.specs.Prelude.{◌<◌, ◌^◌}
use Rattle.cborn_edn.proofs.Common.{ap, refl, subst, count, count_entries, Writer, nodes_in, entries_in, faults_in, faults_of_fields, array, in_array, has, stack_in, content_state, fields_state, states_around, Reads, of_array, of_map, map_item as map}
use Rattle.cborn_edn.proofs.Lemmas.{on_ok, entries_few, in_content, in_fields, same_around, closed_sized, content_states, fields_states, hands_array_end, hands_map_end}
use Rattle.cborn_edn.proofs.containers.close_sized.Goals as goal

pub returns : goal.returns
returns g c = on_ok c.hand.result (λ step s u a k r.
    let h = g.V.Visitor.holds c.args.visitor.now in
    let here = c.args.here.now in
    let w = c.args.writer.now in
    let out = w.pieces.items in
    let mid = c.shut-bracket.new.writer in
    let spellers = ap (λ (y : Writer). y.spellers) c.shut-bracket.ensures.rest in
    elim k as (λ s u _. Reads h here w out s → Reads (g.V.Visitor.holds c.hand.new.visitor) c.shut-bracket.new.here (record mid { error = c.note_size.new.error; spellers = c.hand.new.spellers }) mid.pieces.items u) [
      | of_array st p m x ↦ λ r.
          let from = content_state (in_array st p m) x in
          let q = in_content here w out (in_array st p m) x r.shows in
          let e = closed_sized here c.shut-bracket.new.here w mid c.note_size.new.error c.hand.new.spellers c.shut-bracket.result c.all_entries-count.result st p.start (count (nodes_in x)) m (faults_in x) (array p m x a) q c.shut-bracket.ensures.top c.all_entries-count.ensures c.note_size.ensures refl in
          record {
            shows = e;
            handed = step from (has st (array p m x a)) (states_around st) e.error (hands_array_end st p a m x (subst (λ n. n < 2 ^ 64) q.count (entries_few here.phase here.count c.requires.small))) (same_around h w.spellers mid.spellers from (states_around (stack_in from)) (states_around st) spellers (content_states (in_array st p m) x) r.handed);
          }
      | of_map st p m x ↦ λ r.
          let from = fields_state st p m x in
          let q = in_fields here w out st p m x r.shows in
          let e = closed_sized here c.shut-bracket.new.here w mid c.note_size.new.error c.hand.new.spellers c.shut-bracket.result c.all_entries-count.result st p.start (count_entries (entries_in x)) m (faults_of_fields x) (map p m x a) q c.shut-bracket.ensures.top c.all_entries-count.ensures c.note_size.ensures refl in
          record {
            shows = e;
            handed = step from (has st (map p m x a)) (states_around st) e.error (hands_map_end st p a m x (subst (λ n. n < 2 ^ 64) q.count (entries_few here.phase here.count c.requires.small))) (same_around h w.spellers mid.spellers from (states_around (stack_in from)) (states_around st) spellers (fields_states st p m x) r.handed);
          }
    ] r) c.hand.ensures
