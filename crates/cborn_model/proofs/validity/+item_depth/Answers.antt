use Rattle.cborn_model.proofs.Common.{arith}
use Rattle.cborn_model.proofs.Listed.Values.{height_of_item, height_of_pair}
use Rattle.cborn_model.proofs.Listed.Validating.{value_depth-take_more, pair_value_depth-take_more}
use Rattle.cborn_model.proofs.validity.+item_depth.Goals as goal

pub items_depth-item_depth-requires : goal.items_depth-item_depth-requires
items_depth-item_depth-requires t c =
    (omega (arith, height_of_item c.args.items.now c.loop-item.item-index c.item-item.result (omega arith) c.item-item.is), tt)

pub items_depth-loop-item-preserved : goal.items_depth-loop-item-preserved
items_depth-loop-item-preserved t c =
    omega (arith, value_depth-take_more c.args.items.now c.loop-item.item-index c.item-item.result (omega arith) c.item-item.is)

pub pairs_depth-item_depth-requires : goal.pairs_depth-item_depth-requires
pairs_depth-item_depth-requires t c =
    (omega (arith, height_of_pair c.args.pairs.now c.loop-key.key-index c.loop-key-item.result (omega arith) c.loop-key-item.is), tt)

pub pairs_depth-item_depth-requires-in-loop-key : goal.pairs_depth-item_depth-requires-in-loop-key
pairs_depth-item_depth-requires-in-loop-key t c =
    (omega (arith, height_of_pair c.args.pairs.now c.loop-key.key-index c.loop-key-item.result (omega arith) c.loop-key-item.is), tt)

pub pairs_depth-loop-key-preserved : goal.pairs_depth-loop-key-preserved
pairs_depth-loop-key-preserved t c =
    omega (arith, pair_value_depth-take_more c.args.pairs.now c.loop-key.key-index c.loop-key-item.result (omega arith) c.loop-key-item.is)
