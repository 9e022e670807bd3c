use Rattle.cborn_wire.proofs.Common.{refl, sym, ◌∙◌, subst, IfOk, no_part, built, Stands}
use Rattle.cborn_wire.proofs.Visiting.Counting.{breaks, some_level}
use Rattle.cborn_wire.proofs.counting.end_innermost.Goals as goal

pub returns-clause-goes : goal.returns-clause-goes
returns-clause-goes g c = λ place f holds are.
    let l = c.args.levels.now in
    let (i, ends, closed) = breaks c.args.end place f (g.L.Levels.outer l) (g.L.Levels.inner l) are c.requires in
    subst (λ s. IfOk c.finish.result (λ left. Stands (g.V.Visitor.holds c.finish.new.visitor) (g.L.Levels.outer c.finish.new.levels) (g.L.Levels.inner c.finish.new.levels) left c.args.end s)) (sym closed)
    (c.finish.ensures.goes i.around (built i.opening i.nodes) i.free.1 (c.in_ok-close.ensures.held i.around i.opening i.nodes i.free ends (subst (λ k. g.V.Visitor.holds c.args.visitor.now k no_part) i.is holds)) (i.levels_are ∙ c.if-not-leave.ensures.left refl, i.free.0, i.from_bytes))

pub returns-then-not-leave-clause-goes : goal.returns-then-not-leave-clause-goes
returns-then-not-leave-clause-goes g c = λ place f holds are.
    let l = c.args.levels.now in
    let s = breaks c.args.end place f (g.L.Levels.outer l) (g.L.Levels.inner l) are c.requires in
    absurd (some_level s.0.around (s.0.levels_are ∙ c.if-not-leave.ensures.none refl))
