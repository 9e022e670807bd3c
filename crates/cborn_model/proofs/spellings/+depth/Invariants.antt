use Rattle.std.specs.Prelude.{◌≡◌, ◌+◌, ◌-◌, ◌*◌, ◌^◌}
use Rattle.cborn_model.proofs.Common.{min, take, trees, entries, depth, depth_all, depth_entries}
use Rattle.cborn_model.proofs.spellings.+depth.Given as goal

abbrev pub invariant-items_depth-loop-item : goal.invariant-items_depth-loop-item
invariant-items_depth-loop-item l = l.deepest ≡ min (depth_all (trees (take l.item-index l.items))) (2 ^ 64 - 1)

abbrev pub invariant-pairs_depth-loop-key : goal.invariant-pairs_depth-loop-key
invariant-pairs_depth-loop-key l = l.deepest ≡ min (depth_entries (entries (take l.key-index l.pairs))) (2 ^ 64 - 1)

abbrev pub decreases-depth : goal.decreases-depth
decreases-depth l = 2 * depth l.node.now

abbrev pub decreases-items_depth : goal.decreases-items_depth
decreases-items_depth l = 2 * depth_all (trees l.items.now) + 1

abbrev pub decreases-pairs_depth : goal.decreases-pairs_depth
decreases-pairs_depth l = 2 * depth_entries (entries l.pairs.now) + 1
