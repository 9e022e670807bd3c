use Rattle.cborn_judge.proofs.Common.{rules, arith, subst, true, false, Tagged, item_value, IsItemOf, IsPairOf, IsBignumItem, depth_of_item, depth_of_pair}
use Rattle.std.proofs.lemmas.Result.{IfOk-weaker}
use Rattle.cborn_judge.proofs.Loops.{zip-take_more}
use Rattle.cborn_judge.proofs.Meaning.Meanings.{array_built, map_built, number_once, means_once}
use Rattle.cborn_judge.proofs.judgments.+built.Goals as goal

pub array_of-item_of-requires : goal.array_of-item_of-requires
array_of-item_of-requires t c = (omega (arith, depth_of_item c.args.nodes.now c.loop-node.node-index c.node-item.result (omega arith) c.node-item.is), tt)

pub array_of-loop-node-preserved : goal.array_of-loop-node-preserved
array_of-loop-node-preserved t c =
    zip-take_more IsItemOf c.args.nodes.now c.loop-node.node-index c.node-item.result c.loop-node.items.items c.push.new.self.items c.in_ok-item.item (omega arith) c.node-item.is c.loop-node.invariant c.in_ok-item.ensures (search rules)

pub array_of-returns : goal.array_of-returns
array_of-returns t c p s v = array_built p s c.args.nodes.now c.loop-node.node-index c.loop-node.items.items c.new.result v (omega arith) c.loop-node.invariant c.new.ensures

pub item_of-returns-in-Uint : goal.item_of-returns-in-Uint
item_of-returns-in-Uint t c = rw (← c.node.view_is, c.in-Uint.is) (IfOk-weaker c.small_integer.result _ _ (λ x h v m. number_once false c.in-Uint.n (item_value x) v h m) c.small_integer.ensures)

pub item_of-returns-in-Nint : goal.item_of-returns-in-Nint
item_of-returns-in-Nint t c = rw (← c.node.view_is, c.in-Nint.is) (IfOk-weaker c.small_integer-in-Nint.result _ _ (λ x h v m. number_once true c.in-Nint.n (item_value x) v h m) c.small_integer-in-Nint.ensures)

pub item_of-returns-in-Items : goal.item_of-returns-in-Items
item_of-returns-in-Items t c = rw (← c.node.view_is, c.in-Items.is, ← c.deref-in-Items.ensures.value) (IfOk-weaker c.array_of.result _ _ (λ x h. h c.node.inside.place c.in-Items.field-0) c.array_of.ensures)

pub item_of-returns-in-Pairs : goal.item_of-returns-in-Pairs
item_of-returns-in-Pairs t c = rw (← c.node.view_is, c.in-Pairs.is, ← c.deref-in-Pairs.ensures.value) (IfOk-weaker c.map_of.result _ _ (λ x h. h c.node.inside.place c.in-Pairs.field-0) c.map_of.ensures)

pub item_of-returns-in-Tagged : goal.item_of-returns-in-Tagged
item_of-returns-in-Tagged t c = rw (← c.node.view_is, c.in-Tagged.is, ← c.deref-in-Tagged.ensures) (IfOk-weaker c.tagged_of.result _ _ (λ x h. h c.node.inside.place c.in-Tagged.field-0) c.tagged_of.ensures)

pub map_of-item_of-requires : goal.map_of-item_of-requires
map_of-item_of-requires t c = (omega (arith, depth_of_pair c.args.nodes.now c.loop-key.key-index c.loop-key-item.result (omega arith) c.loop-key-item.is), tt)

pub map_of-item_of-requires-in-loop-key : goal.map_of-item_of-requires-in-loop-key
map_of-item_of-requires-in-loop-key t c = (omega (arith, depth_of_pair c.args.nodes.now c.loop-key.key-index c.loop-key-item.result (omega arith) c.loop-key-item.is), tt)

pub map_of-loop-key-preserved : goal.map_of-loop-key-preserved
map_of-loop-key-preserved t c =
    zip-take_more IsPairOf c.args.nodes.now c.loop-key.key-index c.loop-key-item.result c.loop-key.pairs.items c.push_pair.new.pairs.items (c.in_ok-key.key, c.in_ok-value.value) (omega arith) c.loop-key-item.is c.loop-key.invariant (c.in_ok-key.ensures, c.in_ok-value.ensures) (search rules)

pub map_of-returns : goal.map_of-returns
map_of-returns t c p s v = map_built p s c.args.nodes.now c.loop-key.key-index c.loop-key.pairs.items c.new.result v (omega arith) c.loop-key.invariant c.new.ensures

pub tagged_of-returns-in-Some : goal.tagged_of-returns-in-Some
tagged_of-returns-in-Some t c p w v m =
    means_once (Tagged p w c.args.number c.args.content.now) (item_value c.in-Some.item) v (subst (IsBignumItem c.args.number c.args.content.now) c.in-Some.is c.in_ok-item.ensures p w) m
