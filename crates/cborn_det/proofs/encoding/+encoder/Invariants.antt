use Rattle.std.specs.Prelude.{◌+◌, ◌*◌}
use Rattle.cborn_det.proofs.Common.{map, take, item_value, pair_value, values_of, pairs_of, height, height_all, height_pairs, DetSeq, Appends, pair_height}
use Rattle.cborn_det.proofs.Steps.{AppendsPairs}
use Rattle.cborn_det.proofs.encoding.+encoder.Given as goal

-- the items so far
abbrev pub invariant-push_items-loop-item : goal.invariant-push_items-loop-item
invariant-push_items-loop-item g l = Appends (DetSeq g.O.KeyOrder.order (map item_value (take l.item-index l.items))) l.initial.out.items l.out.items

-- the pairs so far
abbrev pub invariant-push_pairs-loop-pair : goal.invariant-push_pairs-loop-pair
invariant-push_pairs-loop-pair g l = AppendsPairs g.O.KeyOrder.order (map pair_value (take l.pair-index l.pairs)) l.lengths.items l.initial.out.items l.out.items

abbrev pub decreases-push_item : goal.decreases-push_item
decreases-push_item g l = 4 * height (item_value l.item.now)

abbrev pub decreases-push_items : goal.decreases-push_items
decreases-push_items g l = 4 * height_all (values_of (map item_value l.items.now)) + 1

abbrev pub decreases-push_map : goal.decreases-push_map
decreases-push_map g l = 4 * height_pairs (pairs_of (map pair_value l.pairs.now)) + 3

abbrev pub decreases-push_pairs : goal.decreases-push_pairs
decreases-push_pairs g l = 4 * height_pairs (pairs_of (map pair_value l.pairs.now)) + 2

abbrev pub decreases-push_pair : goal.decreases-push_pair
decreases-push_pair g l = 4 * pair_height l.pair.now + 1
