use Rattle.std.specs.Prelude.{◌++◌, ◌∷◌}
use Rattle.cborn_edn.proofs.Common.{[], sym, ap, ◌∙◌, subst, take, arith, take_more, top, no_part, IsHeld}
use Rattle.cborn_edn.proofs.Lemmas.{fits_more}
use Rattle.cborn_edn.proofs.showing.show.Goals as goal

pub loop-item-preserved : goal.loop-item-preserved
loop-item-preserved c =
    let items = c.args.items.now in
    let i = c.loop-item.item-index in
    let x = c.item-item.result in
    let more = ap (λ y. take i items ++ y ∷ []) (c.node.ensures.same ∙ c.item-item.is) ∙ sym (take_more items i x (omega arith)) in (
      subst (λ ts. IsHeld c.visit_node.new.visitor (top ts) no_part) more (c.in_ok-visit_node.ensures.held (top (take i items)) (tt, tt) c.loop-item.invariant.0),
      fits_more items i x (omega arith) c.item-item.is c.loop-item.invariant.1 c.node.ensures.spelled.0,
    )
