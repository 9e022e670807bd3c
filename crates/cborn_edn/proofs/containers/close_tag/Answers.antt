use Rattle.std.specs.Prelude.{◌∷◌}
use Rattle.cborn_edn.proofs.Common.{refl, ap, ◌∙◌, append_assoc, Writer, Absent, tag_errors, first_error, bracket, brackets_of, arounds_of, bytes_around, noted, noted_stack, faults, tag, in_tag, has, states_around}
use Rattle.cborn_edn.proofs.Lemmas.{on_ok, same_around, closed, AtEnd, hands_tag_end}
use Rattle.cborn_edn.proofs.containers.close_tag.Goals as goal

pub returns : goal.returns
returns g c = on_ok c.hand.result (λ step st s a n m i r.
    let from = has (in_tag st s n m) i in
    let v = r.shows in
    let q : AtEnd c.args.here.now c.args.writer.now c.args.writer.now.pieces.items _ (bracket st 0 Absent ∷ brackets_of st) (arounds_of st) (noted from) (bytes_around st) = record { count = refl; brackets = v.brackets; around = v.around; string = v.string; chunks = v.chunks; error = v.error; start = v.start; pieces = v.pieces } in
    let error = ap (λ (y : Writer). y.error) c.shut.ensures.rest ∙ v.error ∙ ap first_error (append_assoc (noted_stack st) (tag_errors s.start m n) (faults i)) in
    let e = closed c.args.here.now c.shut.new.here c.args.writer.now c.shut.new.writer c.shut.new.writer.error c.hand.new.spellers c.shut.result st 0 _ Absent (noted from) (tag s n m i a) q c.shut.ensures.top error in
    record {
      shows = e;
      handed = step from (has st (tag s n m i a)) (states_around st) e.error (hands_tag_end st s a n m i) (same_around (g.V.Visitor.holds c.args.visitor.now) c.args.writer.now.spellers c.shut.new.writer.spellers from (states_around st) (states_around st) (ap (λ (y : Writer). y.spellers) c.shut.ensures.rest) refl r.handed);
    }) c.hand.ensures
