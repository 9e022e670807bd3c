use Rattle.std.specs.Prelude.{◌∷◌, ◌++◌}
use Rattle.cborn_wire.proofs.Common.{[], sym, ap, ◌∙◌, subst, take, take_more, top, no_part, IsWritten}
use Rattle.cborn_wire.proofs.spelling.spell_all.Goals as goal

pub loop-item-preserved : goal.loop-item-preserved
loop-item-preserved c =
    let xs = c.args.items.now in
    let i = c.loop-item.item-index in
    subst (λ ts. IsWritten c.visit_node.new.visitor (top ts) no_part) (ap (λ t. take i xs ++ t ∷ []) (c.node.ensures.same ∙ c.item-item.is) ∙ sym (take_more xs i c.item-item.result c.loop-item-test.true))
    (c.in_ok-visit_node.ensures.held (top (take i xs)) (tt, tt) c.loop-item.invariant)
