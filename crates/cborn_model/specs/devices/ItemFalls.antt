-- A device of the proofs: each item inside another is less high. No definition cites it.
use Rattle.std.specs.Prelude.{◌≤◌, ◌∷◌}
use Rattle.cborn_model.specs.Common.{ℕ, max, map, List, [], arith}
use denote.Param.Weighed.{most}
use Rattle.cborn_model.specs.Value.{values_of, pairs_of, height, height_all, height_pairs}
use Rattle.cborn_model.specs.ItemView.{item_value, pair_value}
use Rattle.cborn_model.specs.declared.items.Item.{Item}
use Rattle.cborn_model.specs.declared.items.Item.TheVariants.{Int}
use Rattle.cborn_model.specs.declared.items.ItemBox.TheDeep.{deep-Item}
use Rattle.cborn_model.specs.declared.items.ItemBox.TheShapes.{weighed-PairList-pairs-at-2}

pub item_falls : (i : Item) → max (deep-Item i) 0 ≤ height (item_value i)
item_falls (Int s m) = omega arith
item_falls _ = omega arith

pub items_fall : (is : List Item) → max (most deep-Item is) 0 ≤ height_all (values_of (map item_value is))
items_fall [] = omega arith
items_fall (i ∷ is) = omega (arith, item_falls i, items_fall is)

abbrev pair_weight : Item × Item → ℕ
pair_weight = (weighed-PairList-pairs-at-2).weight Item deep-Item

pub pairs_fall : (ps : List (Item × Item)) → max (most pair_weight ps) 0 ≤ height_pairs (pairs_of (map pair_value ps))
pairs_fall [] = omega arith
pairs_fall (p ∷ ps) = omega (arith, item_falls p.0, item_falls p.1, pairs_fall ps)
