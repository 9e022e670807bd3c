use Rattle.std.specs.Prelude.{◌≡◌, ◌++◌}
use Rattle.cborn_wire.proofs.Common.{List, Tree, top, no_part, IsHeld}
use Rattle.cborn_wire.proofs.nodes.Nodes.finish.Given as goal

-- the nodes that were moved, and then those that weren't
abbrev pub invariant-loop-node : goal.invariant-loop-node
invariant-loop-node l = (ts : List Tree) → IsHeld l.fn.self (top ts) no_part → ts ≡ l.items.items ++ l.node-iterator.rest.items
