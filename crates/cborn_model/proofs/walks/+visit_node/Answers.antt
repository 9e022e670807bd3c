use Rattle.cborn_model.proofs.Common.{arith, subst, length, take_all, inside, a_map, no_part, flat, count_of}
use Rattle.cborn_model.proofs.HandedOver.{pair_over, pairs_over, on_ok, array_fits, map_fits}
use Rattle.cborn_model.proofs.Listed.Trees.{depth_of_item, depth_of_pair}
use Rattle.cborn_model.proofs.Listed.Fitting.{fits_at, pair_fits_at}
use Rattle.cborn_model.proofs.walks.+visit_node.Goals as goal

pub visit_array-visit_node-requires : goal.visit_array-visit_node-requires
visit_array-visit_node-requires g t c κs within =
    (omega (arith, depth_of_item c.args.items.now c.loop-item.item-index c.item-item.result (omega arith) c.item-item.is), (within, fits_at c.args.items.now c.loop-item.item-index c.item-item.result (omega arith) c.item-item.is c.requires.items))

pub visit_map-visit_node-requires : goal.visit_map-visit_node-requires
visit_map-visit_node-requires g t c κs within =
    (omega (arith, depth_of_pair c.args.pairs.now c.loop-key.key-index c.loop-key-item.result (omega arith) c.loop-key-item.is), (within, (pair_fits_at c.args.pairs.now c.loop-key.key-index c.loop-key-item.result (omega arith) c.loop-key-item.is c.requires.pairs).0))

pub visit_map-visit_node-requires-in-loop-key : goal.visit_map-visit_node-requires-in-loop-key
visit_map-visit_node-requires-in-loop-key g t c κs within =
    (omega (arith, depth_of_pair c.args.pairs.now c.loop-key.key-index c.loop-key-item.result (omega arith) c.loop-key-item.is), (within, (pair_fits_at c.args.pairs.now c.loop-key.key-index c.loop-key-item.result (omega arith) c.loop-key-item.is c.requires.pairs).1))

pub visit_map-loop-key-preserved : goal.visit_map-loop-key-preserved
visit_map-loop-key-preserved g t c = λ f free start.
    pair_over (λ h. g.V.Visitor.holds c.loop-key.visitor h no_part) (λ h. g.V.Visitor.holds c.visit_node.new.visitor h no_part) (λ h. g.V.Visitor.holds c.visit_node-in-loop-key.new.visitor h no_part)
    c.args.pairs.now c.loop-key.key-index c.loop-key-item.result (omega arith) c.loop-key-item.is c.in_ok-visit_node.ensures.held c.in_ok-visit_node-2.ensures.held f c.args.place c.args.size free (c.loop-key.invariant f free start)

pub visit_map-returns-clause-held : goal.visit_map-returns-clause-held
visit_map-returns-clause-held g t c = on_ok c.close.result (λ close f free old.
    pairs_over (λ h. g.V.Visitor.holds c.loop-key.visitor h no_part) (λ h. g.V.Visitor.holds c.close.new.self h no_part) c.args.place c.args.size c.args.pairs.now close f free
    (subst (λ es. g.V.Visitor.holds c.loop-key.visitor (inside f (a_map c.args.place c.args.size (count_of c.args.size (length c.args.pairs.now))) (flat es)) no_part) (take_all c.loop-key.key-index c.args.pairs.now (omega arith)) (c.loop-key.invariant f free old))) c.close.ensures.held

pub visit_node-visit_array-requires : goal.visit_node-visit_array-requires
visit_node-visit_array-requires g t c κs within =
    let fit = array_fits c.node.inside.place c.node.inside.form c.args.node.now c.in-Items.size c.in-Items.items c.deref-in-Items.result.now c.node.view_is c.in-Items.is c.deref-in-Items.ensures.value c.requires in
    (omega (arith, fit.2), (within, (fit.0, fit.1)))

pub visit_node-visit_map-requires : goal.visit_node-visit_map-requires
visit_node-visit_map-requires g t c κs within =
    let fit = map_fits c.node.inside.place c.node.inside.form c.args.node.now c.in-Pairs.size c.in-Pairs.pairs c.deref-in-Pairs.result.now c.node.view_is c.in-Pairs.is c.deref-in-Pairs.ensures.value c.requires in
    (omega (arith, fit.2), (within, (fit.0, fit.1)))
