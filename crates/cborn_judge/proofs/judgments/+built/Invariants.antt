use Rattle.std.specs.Prelude.{◌+◌, ◌*◌}
use Rattle.cborn_judge.proofs.Common.{take, AllZip, trees, entries, depth, depth_all, depth_entries, IsItemOf, IsPairOf}
use Rattle.cborn_judge.proofs.judgments.+built.Given as goal

abbrev pub decreases-item_of : goal.decreases-item_of
decreases-item_of l = 2 * depth l.node.now

abbrev pub decreases-array_of : goal.decreases-array_of
decreases-array_of l = 2 * depth_all (trees l.nodes.now) + 1

abbrev pub decreases-map_of : goal.decreases-map_of
decreases-map_of l = 2 * depth_entries (entries l.nodes.now) + 1

abbrev pub decreases-tagged_of : goal.decreases-tagged_of
decreases-tagged_of l = 2 * depth l.content.now + 1

abbrev pub invariant-array_of-loop-node : goal.invariant-array_of-loop-node
invariant-array_of-loop-node l = AllZip IsItemOf (take l.node-index l.nodes) l.items.items

abbrev pub invariant-map_of-loop-key : goal.invariant-map_of-loop-key
invariant-map_of-loop-key l = AllZip IsPairOf (take l.key-index l.nodes) l.pairs.items
