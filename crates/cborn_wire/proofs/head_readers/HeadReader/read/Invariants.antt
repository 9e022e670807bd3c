use Rattle.std.specs.Prelude.{◌≡◌, ◌+◌, ◌++◌}
use Rattle.cborn_wire.proofs.Common.{ℕ, List, length, ready_in, start, run, IsFed}
use Rattle.cborn_wire.specs.declared.head_readers.Until.TheVariants.{Item}
use Rattle.cborn_wire.proofs.head_readers.HeadReader.read.Given as goal

-- A front of the piece was read. Up to an item, no item is whole in it.
abbrev pub invariant-loop-rest : goal.invariant-loop-rest
invariant-loop-rest g l =
    let holds = g.V.Visitor.holds in
    let outer = g.L.Levels.outer in
    let inner = g.L.Levels.inner in
    (y : List ℕ) × (l.piece ≡ y ++ l.rest) × (l.self.limit ≡ l.initial.self.limit) × (l.self.at ≡ l.initial.self.at + length y)
    × ((base : ℕ) (x : List ℕ) → IsFed (holds l.initial.visitor) (outer l.initial.levels) (inner l.initial.levels) l.initial.self base x → IsFed (holds l.visitor) (outer l.levels) (inner l.levels) l.self base (x ++ y))
    × (l.until ≡ Item → (base : ℕ) (x : List ℕ) → IsFed (holds l.initial.visitor) (outer l.initial.levels) (inner l.initial.levels) l.initial.self base x → ready_in (run l.self.limit (start base) (x ++ y)) ≡ ready_in (run l.self.limit (start base) x))

abbrev pub decreases-loop-rest : goal.decreases-loop-rest
decreases-loop-rest g l = length l.rest
