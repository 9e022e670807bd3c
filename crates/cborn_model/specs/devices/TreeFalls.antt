-- A device of the proofs: each child of a node is less deep than the node. No definition cites it.
use Rattle.std.specs.Prelude.{◌+◌, ◌≤◌, ◌∷◌}
use Rattle.cborn_model.specs.Common.{ℕ, max, List, [], arith}
use denote.Param.Weighed.{most}
use Rattle.cborn_model.specs.Tree.{Tree, trees, entries, depth, depth_all, depth_entries}
use Rattle.cborn_model.specs.View.{tree_of}
use Rattle.cborn_model.specs.declared.nodes.Form.{Form}
use Rattle.cborn_model.specs.declared.nodes.Form.TheVariants.{Items, Pairs}
use Rattle.cborn_model.specs.declared.nodes.Node.TheDeep.{deep-Form}
use Rattle.cborn_model.specs.declared.nodes.Node.TheShapes.{weighed-Form-Pairs-1-at-2}

most-trees : (ts : List Tree) → most (λ t. depth t + 1) ts ≤ depth_all (trees ts) + 1
most-trees [] = omega arith
most-trees (t ∷ ts) = omega (arith, most-trees ts)

abbrev pair_weight : Tree × Tree → ℕ
pair_weight = (weighed-Form-Pairs-1-at-2).weight Tree (λ t. depth t + 1)

most-entries : (es : List (Tree × Tree)) → most pair_weight es ≤ depth_entries (entries es) + 1
most-entries [] = omega arith
most-entries (e ∷ es) = omega (arith, most-entries es)

pub depth_falls : (p : ℕ) (f : Form) → max (deep-Form f) 0 ≤ depth (tree_of p f)
depth_falls p (Items s ns) = omega (arith, most-trees ns.items)
depth_falls p (Pairs s ps) = omega (arith, most-entries ps.items)
depth_falls p _ = omega arith
