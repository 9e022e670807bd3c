use Rattle.std.specs.Prelude.{◌≡◌, ◌+◌, ◌++◌}
use Rattle.cborn_wire.proofs.Common.{ℕ, List, length, Partial, no_part, IsReached, run, ready, state, Keeps}
use Rattle.cborn_wire.proofs.counting.take_heads.Given as goal

-- A front of the piece was taken, and no item of the input became whole in it.
abbrev pub invariant-heads : goal.invariant-heads
invariant-heads g l =
    let holds = g.V.Visitor.holds in
    let outer = g.L.Levels.outer in
    let inner = g.L.Levels.inner in
    (y : List ℕ) × (l.piece ≡ y ++ l.rest) × (l.at ≡ l.place + length y) × (length y ≡ 0 → (l.visitor ≡ l.initial.visitor) × (l.levels ≡ l.initial.levels))
    × ((f : Partial) (base : ℕ) → holds l.initial.visitor f no_part → Keeps f (outer l.initial.levels) (inner l.initial.levels) → IsReached l.limit base (state l.place f no_part)
    → (h : Partial) × holds l.visitor h no_part × Keeps h (outer l.levels) (inner l.levels) × (ready h ≡ ready f) × (run l.limit (state l.place f no_part) y ≡ state l.at h no_part))

abbrev pub decreases-heads : goal.decreases-heads
decreases-heads g l = length l.rest
