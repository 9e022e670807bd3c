use Rattle.std.specs.Prelude.{◌+◌, ◌*◌}
use Rattle.cborn_model.proofs.Common.{length, take, trees, entries, depth, depth_all, depth_entries, Partial, inside, an_array, a_map, no_part, IsFree, flat, count_of}
use Rattle.cborn_model.proofs.walks.+visit_node.Given as goal

abbrev pub invariant-visit_array-loop-item : goal.invariant-visit_array-loop-item
invariant-visit_array-loop-item g l = (f : Partial) → IsFree f → g.V.Visitor.holds l.fn.visitor f no_part → g.V.Visitor.holds l.visitor (inside f (an_array l.fn.place l.fn.size (count_of l.fn.size (length l.items))) (take l.item-index l.items)) no_part

abbrev pub invariant-visit_map-loop-key : goal.invariant-visit_map-loop-key
invariant-visit_map-loop-key g l = (f : Partial) → IsFree f → g.V.Visitor.holds l.fn.visitor f no_part → g.V.Visitor.holds l.visitor (inside f (a_map l.fn.place l.fn.size (count_of l.fn.size (length l.pairs))) (flat (take l.key-index l.pairs))) no_part

abbrev pub decreases-visit_node : goal.decreases-visit_node
decreases-visit_node g l = 2 * depth l.node.now

abbrev pub decreases-visit_array : goal.decreases-visit_array
decreases-visit_array g l = 2 * depth_all (trees l.items.now) + 1

abbrev pub decreases-visit_map : goal.decreases-visit_map
decreases-visit_map g l = 2 * depth_entries (entries l.pairs.now) + 1
