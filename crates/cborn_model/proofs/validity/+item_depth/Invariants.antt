use Rattle.std.specs.Prelude.{◌≡◌, ◌+◌, ◌-◌, ◌*◌, ◌^◌}
use Rattle.cborn_model.proofs.Common.{min, map, take, item_value, pair_value, values_of, pairs_of, height, height_all, height_pairs, values_depth, pairs_depth}
use Rattle.cborn_model.proofs.validity.+item_depth.Given as goal

abbrev pub invariant-items_depth-loop-item : goal.invariant-items_depth-loop-item
invariant-items_depth-loop-item l =
    l.deepest ≡ min (values_depth (values_of (map item_value (take l.item-index l.items)))) (2 ^ 64 - 1)

abbrev pub invariant-pairs_depth-loop-key : goal.invariant-pairs_depth-loop-key
invariant-pairs_depth-loop-key l =
    l.deepest ≡ min (pairs_depth (pairs_of (map pair_value (take l.key-index l.pairs)))) (2 ^ 64 - 1)

abbrev pub decreases-item_depth : goal.decreases-item_depth
decreases-item_depth l = 2 * height (item_value l.item.now)

abbrev pub decreases-items_depth : goal.decreases-items_depth
decreases-items_depth l = 2 * height_all (values_of (map item_value l.items.now)) + 1

abbrev pub decreases-pairs_depth : goal.decreases-pairs_depth
decreases-pairs_depth l = 2 * height_pairs (pairs_of (map pair_value l.pairs.now)) + 1
