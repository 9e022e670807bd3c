use Rattle.std.specs.Prelude.{◌≡◌, ◌/◌, ◌%◌}
use Rattle.cborn_wire.proofs.Common.{refl, subst, leb, None, [], slot, open_depth, open_in, major_at, info_at, head_reason}
use Rattle.cborn_wire.proofs.Visiting.Heads.{head_opens}
use Rattle.cborn_wire.proofs.Visiting.Taking.{first_next}
use Rattle.cborn_wire.proofs.counting.take_whole.Goals as goal

pub returns-clause-goes : goal.returns-clause-goes
returns-clause-goes g c = λ f held are inside some.
    let piece = c.args.piece.now in
    let new = c.open_container.new in
    let h = c.in-Some.head in
    let is = c.in-Some.ensures.head in
    let none = subst (λ b. None ≡ head_reason (slot (open_in f)) (leb c.args.limit (open_depth (open_in f))) (major_at (b / 32)) (info_at (b % 32)) []) c.in-Some.ensures.first (c.if-not-is_allowed.ensures.free refl f are inside) in
    head_opens c.args.limit c.args.place f piece (g.V.Visitor.holds new.visitor) (g.L.Levels.outer new.levels) (g.L.Levels.inner new.levels) _ h.len c.in_ok-open_container.field-0 is none c.in_ok-open_container.ensures.zero (c.in_ok-open_container.ensures.goes f (first_next f _ piece _ h.len is c.requires.some none) held are)

pub returns-then-head-lt128-clause-goes : goal.returns-then-head-lt128-clause-goes
returns-then-head-lt128-clause-goes g c = λ f held are inside. c.take_leaves.ensures.goes c.args.limit f held are
