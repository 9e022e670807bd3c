use Rattle.cborn_wire.proofs.Common.{refl, arith, ready, open_in, Other, EndlessArgument}
use Rattle.cborn_wire.proofs.Visiting.Heads.{endless_at, head_opens}
use Rattle.cborn_wire.proofs.Visiting.Leaves.{taken_as}
use Rattle.cborn_wire.proofs.HeadReading.HeadSteps.{break_taken}
use Rattle.cborn_wire.proofs.Machine.WholeFront.{one_more_head}
use Rattle.cborn_wire.proofs.Visiting.Taking.{first_next}
use Rattle.cborn_wire.proofs.counting.take_endless.Goals as goal

pub returns-clause-goes : goal.returns-clause-goes
returns-clause-goes g c = λ f held are inside some.
    let piece = c.args.piece.now in
    let new = c.open_container.new in
    let is = endless_at piece c.requires.some (omega (arith, c.if-first-lt128.false)) (c.if-not-is_allowed.ensures.endless refl c.if-first-ne31.false) c.if-first-ne31.false in
    let none = c.if-not-is_allowed.ensures.free refl f are inside in
    head_opens c.args.limit c.args.place f piece (g.V.Visitor.holds new.visitor) (g.L.Levels.outer new.levels) (g.L.Levels.inner new.levels) _ 1 c.in_ok-open_container.field-0 is none c.in_ok-open_container.ensures.zero (c.in_ok-open_container.ensures.goes f (first_next f _ piece _ 1 is c.requires.some none) held are)

pub returns-then-first-clause-goes : goal.returns-then-first-clause-goes
returns-then-first-clause-goes g c = λ f held are inside some.
    let new = c.end_innermost.new in
    taken_as c.args.limit c.args.place 1 f c.args.piece.now (g.V.Visitor.holds new.visitor) (g.L.Levels.outer new.levels) (g.L.Levels.inner new.levels) _ c.in_ok-end_innermost.field-0
    (break_taken c.args.limit c.args.place (ready f) (open_in f) c.args.piece.now c.requires.some c.if-first.true) c.in_ok-end_innermost.ensures.zero (c.in_ok-end_innermost.ensures.goes c.args.place f held are) (one_more_head (ready f) Other EndlessArgument (open_in f) _ _)
