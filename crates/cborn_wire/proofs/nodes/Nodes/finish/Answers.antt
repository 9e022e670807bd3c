use Rattle.std.specs.Prelude.{◌≤◌, ◌++◌}
use Rattle.cborn_wire.proofs.Common.{ap, ◌∙◌, subst, append_assoc, append-nil, arith, nil_from_length, trees, depth_all, FitsAll}
use Rattle.cborn_wire.proofs.Building.{part_spelled}
use Rattle.cborn_wire.proofs.nodes.Nodes.finish.Goals as goal

pub new-requires : goal.new-requires
new-requires c =
    let (ts, held, fits, low) = c.requires in
    let is = c.loop-node.invariant ts held ∙ ap (λ l. c.loop-node.items.items ++ l) c.in-Some.ensures.steps.0 in
    part_spelled c.loop-node.items.items c.next.new.self.rest.items c.in-Some.node (subst (λ l. FitsAll (trees l)) is fits) (subst (λ l. depth_all (trees l) ≤ 1024) is low)

pub loop-node-preserved : goal.loop-node-preserved
loop-node-preserved c = grind (arith, append_assoc)

pub returns : goal.returns
returns c = grind (arith, append-nil, nil_from_length)
