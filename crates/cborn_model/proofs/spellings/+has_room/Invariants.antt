use Rattle.std.specs.Prelude.{◌+◌, ◌*◌}
use Rattle.cborn_model.proofs.Common.{trees, entries, depth, depth_all, depth_entries, Fits}
use Rattle.cborn_model.proofs.Listed.Fitting.{Front, PairFits}
use Rattle.cborn_model.proofs.spellings.+has_room.Given as goal

abbrev pub invariant-items_have_room-loop-item : goal.invariant-items_have_room-loop-item
invariant-items_have_room-loop-item l = Front Fits l.items l.item-index

abbrev pub invariant-pairs_have_room-loop-key : goal.invariant-pairs_have_room-loop-key
invariant-pairs_have_room-loop-key l = Front PairFits l.pairs l.key-index

abbrev pub decreases-has_room : goal.decreases-has_room
decreases-has_room l = 2 * depth l.node.now

abbrev pub decreases-items_have_room : goal.decreases-items_have_room
decreases-items_have_room l = 2 * depth_all (trees l.items.now) + 1

abbrev pub decreases-pairs_have_room : goal.decreases-pairs_have_room
decreases-pairs_have_room l = 2 * depth_entries (entries l.pairs.now) + 1
