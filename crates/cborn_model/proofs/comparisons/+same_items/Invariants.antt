use Rattle.std.specs.Prelude.{◌<◌, ◌+◌, ◌*◌}
use Rattle.cborn_model.proofs.Common.{ℕ, max, map, get_or, Item, item_value, pair_value, HasPair, Same, values_of, pairs_of, height, height_all, height_pairs}
use Rattle.cborn_model.proofs.comparisons.+same_items.Given as goal

abbrev pub invariant-same_arrays-loop-i : goal.invariant-same_arrays-loop-i
invariant-same_arrays-loop-i l =
    (k : ℕ) (d : Item) → k < l.i → Same (item_value (get_or l.a k d)) (item_value (get_or l.b k d))

abbrev pub invariant-same_maps-loop-i : goal.invariant-same_maps-loop-i
invariant-same_maps-loop-i l =
    (k : ℕ) (d : Item × Item) → k < l.i → HasPair (pair_value (get_or l.a k d)) (map pair_value l.b)

abbrev pub invariant-value_of-loop-pair : goal.invariant-value_of-loop-pair
invariant-value_of-loop-pair l =
    (k : ℕ) (d : Item × Item) → k < l.pair-index → Same (item_value l.key) (item_value (get_or l.pairs k d).0) → ⊥

abbrev pub decreases-same_items : goal.decreases-same_items
decreases-same_items l = 5 * height (item_value l.a.now)

abbrev pub decreases-same_arrays : goal.decreases-same_arrays
decreases-same_arrays l = 5 * height_all (values_of (map item_value l.a.now)) + 1

abbrev pub decreases-same_maps : goal.decreases-same_maps
decreases-same_maps l = 5 * height_pairs (pairs_of (map pair_value l.a.now)) + 4

abbrev pub decreases-has_pair : goal.decreases-has_pair
decreases-has_pair l = 5 * max (height (item_value l.key.now)) (height (item_value l.value.now)) + 3

abbrev pub decreases-value_of : goal.decreases-value_of
decreases-value_of l = 5 * height (item_value l.key.now) + 1
