use Rattle.std.specs.Prelude.{◌++◌, ◌∷◌}
use Rattle.cborn_wire.proofs.Common.{refl, sym, ap, ◌∙◌, subst, [], built, put, no_part}
use Rattle.cborn_wire.proofs.Visiting.Counting.{stays, closes, item_accepted}
use Rattle.cborn_wire.proofs.counting.close.Goals as goal

pub returns-then-add_part-clause-goes : goal.returns-then-add_part-clause-goes
returns-then-add_part-clause-goes g c = λ f t l holds are last.
    let (h, u, m, held, kept, none, is) = c.levels.invariant f t l holds are last in
    let left = c.leave.new.self in
    let (i, ends, closed) = closes c.args.end h u (g.L.Levels.outer c.levels.levels) m kept none in
    let outer = i.levels_are ∙ c.levels-test.ensures.left refl in
    let now = built i.opening _ in
    let s = stays c.args.end i.around now (g.L.Levels.outer left) (g.L.Levels.inner left) (g.L.Levels.inner c.add_part.new.self) outer i.free.0 (item_accepted i.around now i.free.1) i.from_bytes (c.if-add_part.ensures.more refl) in
    record { partial = put i.around now; amid = no_part; held = c.in_ok-close.ensures.held i.around i.opening _ i.free ends (subst (λ k. g.V.Visitor.holds c.levels.visitor (put k u) no_part) i.is held); levels = rw (c.if-add_part.ensures.outer) s.0; missing = refl; fits = tt; is = is ∙ closed ∙ s.1 }

pub levels-preserved : goal.levels-preserved
levels-preserved g c = λ f t l holds are last.
    let (h, u, m, held, kept, none, is) = c.levels.invariant f t l holds are last in
    let left = c.leave.new.self in
    let (i, ends, closed) = closes c.args.end h u (g.L.Levels.outer c.levels.levels) m kept none in
    let outer = i.levels_are ∙ c.levels-test.ensures.left refl in (
      i.around,
      built i.opening _,
      g.L.Levels.inner left,
      c.in_ok-close.ensures.held i.around i.opening _ i.free ends (subst (λ k. g.V.Visitor.holds c.levels.visitor (put k u) no_part) i.is held),
      (outer ∙ ap (λ ls. ls ++ g.L.Levels.inner left ∷ []) (sym c.if-add_part.ensures.outer), i.free.0, i.from_bytes),
      c.if-add_part.ensures.last refl,
      is ∙ closed,
    )
