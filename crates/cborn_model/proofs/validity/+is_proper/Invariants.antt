use Rattle.std.specs.Prelude.{◌<◌, ◌+◌, ◌*◌}
use Rattle.cborn_model.proofs.Common.{ℕ, map, get_or, Item, item_value, pair_value, values_of, pairs_of, height, height_all, height_pairs}
use Rattle.cborn_model.proofs.SameItems.Comparing.{IsProperItem, IsProperPair}
use Rattle.cborn_model.proofs.validity.+is_proper.Given as goal

abbrev pub invariant-are_proper-loop-item : goal.invariant-are_proper-loop-item
invariant-are_proper-loop-item l = (k : ℕ) (d : Item) → k < l.item-index → IsProperItem (get_or l.items k d)

abbrev pub invariant-has_proper_pairs-loop-key : goal.invariant-has_proper_pairs-loop-key
invariant-has_proper_pairs-loop-key l =
    (k : ℕ) (d : Item × Item) → k < l.key-index → IsProperPair (get_or l.pairs k d)

abbrev pub decreases-is_proper : goal.decreases-is_proper
decreases-is_proper l = 2 * height (item_value l.item.now)

abbrev pub decreases-are_proper : goal.decreases-are_proper
decreases-are_proper l = 2 * height_all (values_of (map item_value l.items.now)) + 1

abbrev pub decreases-has_proper_pairs : goal.decreases-has_proper_pairs
decreases-has_proper_pairs l = 2 * height_pairs (pairs_of (map pair_value l.pairs.now)) + 1
