use Rattle.std.specs.Prelude.{◌≡◌, ◌+◌, ◌++◌, ◌≤◌, take, slice_index_or}
use Rattle.cborn_engine.proofs.Common.{ℕ, List, length}
use Rattle.cborn_judge.specs.devices.Following.{IsHeld}
use Rattle.cborn_wire.specs.shared.Visiting.{IsFed, input_level}
use Rattle.cborn_engine.proofs.fronts.follow_with.Given as goal

abbrev pub decreases-pieces : goal.decreases-pieces
decreases-pieces g l = length l.rest

-- the bytes before the rest were read
abbrev pub invariant-pieces : goal.invariant-pieces
invariant-pieces g l =
    (x : List ℕ) × (l.bytes ≡ x ++ l.rest) × (l.heads.at ≡ length x) × (l.heads.limit ≤ l.fn.limit) × (l.heads.limit + 3 ≤ g.row.MOST)
    × IsFed (IsHeld g.O.KeyOrder.order g.I.Input.input l.follower) (take l.levels.around l.levels.levels) (slice_index_or l.levels.levels l.levels.around (input_level 0)) l.heads 0 x
