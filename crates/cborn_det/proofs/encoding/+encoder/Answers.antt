use Rattle.std.specs.Prelude.{◌≡◌, ◌++◌, ◌-◌}
use Rattle.cborn_det.proofs.Common.{append_assoc, rules, List, map, length, subst, sym, ap, ◌∙◌, length-map, item_value, pair_value, Value, values_of, pairs_of, array, Appends, Det, joined, height_of_item, height_of_pair}
use Rattle.cborn_det.proofs.Canon.{distinct_keys}
use Rattle.cborn_det.proofs.Steps.{on_err, begins_more, items_done, items_step, pairs_step, laid, pair_done, map_done, proper_item, proper_pair}
use Rattle.cborn_det.proofs.encoding.+encoder.Goals as goal

pub push_item-returns-in_ok-push_items-in-Items :
    goal.push_item-returns-in_ok-push_items-in-Items
push_item-returns-in_ok-push_items-in-Items g t c =
    let items = c.as_slice-items.result.now in
    let done : Appends (Det g.O.KeyOrder.order (array (values_of (map item_value items)))) c.args.out.now.items c.push_items.new.out.items = items_done g.O.KeyOrder.order (map item_value items) (length items) c.args.out.now.items c.put_head.new.out.items c.push_items.new.out.items (sym (length-map items item_value)) c.in_ok-put_head-in-Items.ensures.appended c.in_ok-push_items-in-Items.ensures in
    let seen : array (values_of (map item_value items)) ≡ item_value c.args.item.now = search rules in
    subst (λ v. Appends (Det g.O.KeyOrder.order v) c.args.out.now.items c.push_items.new.out.items) seen done

pub push_items-push_item-requires : goal.push_items-push_item-requires
push_items-push_item-requires g t c κs within =
    let proper = proper_item c.args.items.now c.loop-item.item-index c.item-item.result c.loop-item-test.true c.item-item.is c.requires in
    let lower = height_of_item c.args.items.now c.loop-item.item-index c.item-item.result c.loop-item-test.true c.item-item.is in
    search rules

pub push_items-loop-item-preserved : goal.push_items-loop-item-preserved
push_items-loop-item-preserved g t c =
    items_step g.O.KeyOrder.order c.args.items.now c.loop-item.item-index c.item-item.result c.args.out.now.items c.loop-item.out.items c.push_item.new.out.items c.loop-item-test.true c.item-item.is c.loop-item.invariant c.in_ok-push_item.ensures

pub push_map-arrange-requires : goal.push_map-arrange-requires
push_map-arrange-requires g t c =
    let w = c.in_ok-lengths.ensures in
    let l = laid w.0 c.in_ok-lengths.lengths.items c.deref.result.now c.len-start.result c.put_head.new.out.items c.push_pairs.new.out.items (search rules) c.deref.ensures.value w.2 in
    record { inside = l.inside; written = (w.0, l.written, distinct_keys g.O.KeyOrder.order g.met.O.KeyOrder.laws (pairs_of (map pair_value c.args.pairs.now)) w.0 c.requires.proper c.requires.new w.1) }

pub push_map-returns : goal.push_map-returns
push_map-returns g t c =
    let w = c.in_ok-lengths.ensures in
    let pairs : List (Value × Value) = map pair_value c.args.pairs.now in
    let l = laid w.0 c.in_ok-lengths.lengths.items c.deref.result.now c.len-start.result c.put_head.new.out.items c.push_pairs.new.out.items (search rules) c.deref.ensures.value w.2 in
    let a = c.in_ok-arrange.ensures.arranged w.0 l.written in
    map_done g.O.KeyOrder.order pairs w.0 a.0 (length c.args.pairs.now) c.args.out.now.items c.put_head.new.out.items c.arrange.new.out.items (sym (length-map c.args.pairs.now pair_value)) w.1 a.1 a.2 c.in_ok-put_head.ensures.appended (a.3 ∙ ap (λ z. z ++ joined a.0) l.before)

pub push_pair-returns : goal.push_pair-returns
push_pair-returns g t c =
    let u = pair_done g.O.KeyOrder.order (item_value c.args.pair.now.0) (item_value c.args.pair.now.1) c.args.out.now.items c.push_item.new.out.items c.push_item-2.new.out.items c.in_ok-push_item.ensures c.in_ok-push_item-2.ensures in
    let first : c.len-middle.result - c.len-start.result ≡ length c.push_item.new.out.items - length c.args.out.now.items = search rules in
    let second : c.len-end.result - c.len-middle.result ≡ length c.push_item-2.new.out.items - length c.push_item.new.out.items = search rules in
    (u.0, u.1, u.2, first ∙ u.3, second ∙ u.4, u.5)

pub push_pairs-push_pair-requires : goal.push_pairs-push_pair-requires
push_pairs-push_pair-requires g t c κs within =
    let proper = proper_pair c.args.pairs.now c.loop-pair.pair-index c.pair-item.result c.loop-pair-test.true c.pair-item.is c.requires in
    let lower = height_of_pair c.args.pairs.now c.loop-pair.pair-index c.pair-item.result c.loop-pair-test.true c.pair-item.is in
    search rules

pub push_pairs-loop-pair-preserved : goal.push_pairs-loop-pair-preserved
push_pairs-loop-pair-preserved g t c =
    let u = pairs_step g.O.KeyOrder.order c.args.pairs.now c.loop-pair.pair-index c.pair-item.result c.loop-pair.lengths.items c.in_ok-both.both c.args.out.now.items c.loop-pair.out.items c.push_pair.new.out.items c.loop-pair-test.true c.pair-item.is c.loop-pair.invariant c.in_ok-both.ensures in
    (u.0, u.1, (u.2.0, (c.in_ok-push.ensures.items ∙ u.2.1.0, u.2.1.1), u.2.2))

pub push_items-returns-in_err-push_item : goal.push_items-returns-in_err-push_item
push_items-returns-in_err-push_item g t c =
    on_err c.from_residual.result _ _ c.from_residual.ensures.0 (λ _. begins_more c.args.out.now.items c.loop-item.out.items c.push_item.new.out.items (c.loop-item.invariant.0, c.loop-item.invariant.2) c.in_err-push_item.ensures)

pub push_pairs-returns-in_err-both : goal.push_pairs-returns-in_err-both
push_pairs-returns-in_err-both g t c =
    let w = c.loop-pair.invariant.2 in
    on_err c.from_residual-in_err-both.result _ _ c.from_residual-in_err-both.ensures.0 (λ _. begins_more c.args.out.now.items c.loop-pair.out.items c.push_pair.new.out.items (w.0, w.2) c.in_err-both.ensures)

pub push_pairs-returns-in_err-push : goal.push_pairs-returns-in_err-push
push_pairs-returns-in_err-push g t c =
    let w = c.loop-pair.invariant.2 in
    let a = c.in_ok-both.ensures in
    on_err c.from_residual-in_err-push.result _ _ c.from_residual-in_err-push.ensures.0 (λ _. begins_more c.args.out.now.items c.loop-pair.out.items c.push_pair.new.out.items (w.0, w.2) (a.0.0 ++ a.0.1, a.5 ∙ append_assoc c.loop-pair.out.items a.0.0 a.0.1))
