use Rattle.std.specs.Prelude.{◌+◌}
use Rattle.cborn_wire.proofs.Common.{refl, sym, ap, ◌∙◌, Level, is_chunks, lessened, TakesItem, subst, AtMostOneMore, ready, open_in, finished}
use Rattle.cborn_wire.proofs.Visiting.Counting.{item_free, kept_as}
use Rattle.cborn_wire.proofs.Visiting.Leaves.{taken_as}
use Rattle.cborn_wire.proofs.Machine.WholeFront.{one_more_finished}
use Rattle.cborn_wire.proofs.leaves.take_leaves.Goals as goal

pub returns-clause-goes : goal.returns-clause-goes
returns-clause-goes g c = λ limit f held keeps some.
    let l = c.args.levels.now in
    let plain = ap (λ (m : Level). is_chunks m.kind) (sym c.innermost-level.ensures) ∙ sym c.is_chunks.ensures ∙ c.if-is_chunks.false in
    let takes : TakesItem f = item_free f (g.L.Levels.outer l) (g.L.Levels.inner l) keeps.0 plain in
    let (more, whole, after) = c.in_ok-taken.ensures.taken in
    let r = after f (g.L.Levels.outer l) held (kept_as f refl c.innermost-level.ensures keeps) takes in
    let now = c.finish.new in
    taken_as limit c.args.place c.in_ok-taken.taken.len f c.args.piece.now (g.V.Visitor.holds now.visitor) (g.L.Levels.outer now.levels) (g.L.Levels.inner now.levels) _ c.in_ok-finish.field-0 (r.is limit) c.in_ok-finish.ensures.zero
    (c.in_ok-finish.ensures.goes r.before r.last r.takes r.held (kept_as r.before c.add_parts.ensures.outer (c.add_parts.ensures.inner ∙ ap (λ (m : Level). record m { missing = lessened m.missing c.in_ok-taken.taken.before_last }) (sym c.innermost-level.ensures)) r.levels))
    (subst (λ t. AtMostOneMore t (finished (c.args.place + c.in_ok-taken.taken.len) (ready r.before) (open_in r.before) r.last)) r.same (one_more_finished (ready r.before) (open_in r.before) _ r.last))
