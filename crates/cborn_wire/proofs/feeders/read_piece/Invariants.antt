use Rattle.std.specs.Prelude.{◌≡◌, ◌++◌}
use Rattle.cborn_wire.proofs.Common.{ℕ, List, length, IsMoved}
use Rattle.cborn_wire.proofs.feeders.read_piece.Given as goal

abbrev pub invariant-loop-rest : goal.invariant-loop-rest
invariant-loop-rest l = (y : List ℕ) × (l.piece ≡ y ++ l.rest) × IsMoved l.initial.reader l.initial.ready.items l.reader l.ready.items y

abbrev pub decreases-loop-rest : goal.decreases-loop-rest
decreases-loop-rest l = length l.rest
