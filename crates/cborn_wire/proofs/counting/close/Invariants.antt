use Rattle.std.specs.Prelude.{◌≡◌}
use Rattle.cborn_wire.proofs.Common.{None, length, Tree, Partial, no_part, put, Level, finished, ready, open_in, Keeps, with_part}
use Rattle.cborn_wire.proofs.counting.close.Given as goal

-- the item that is the last part of the innermost level makes the state that the first one makes
abbrev pub invariant-levels : goal.invariant-levels
invariant-levels g l =
    (f : Partial) (t : Tree) (k : Level) → g.V.Visitor.holds l.initial.visitor (put f t) no_part → Keeps f (g.L.Levels.outer l.initial.levels) k → with_part k ≡ None
    → (h : Partial) × (u : Tree) × (m : Level) × g.V.Visitor.holds l.visitor (put h u) no_part × Keeps h (g.L.Levels.outer l.levels) m × (with_part m ≡ None) × (finished l.end (ready f) (open_in f) t ≡ finished l.end (ready h) (open_in h) u)

abbrev pub decreases-levels : goal.decreases-levels
decreases-levels g l = length (g.L.Levels.outer l.levels)
