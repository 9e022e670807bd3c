-- The tree that a node is seen as.
use Rattle.cborn_model.specs.Common.{ℕ}
use Rattle.cborn_model.specs.Tree.{Tree, trees, entries}
use Rattle.cborn_model.specs.Tree as tree
use Rattle.cborn_model.specs.declared.nodes.Form.{Form}
use Rattle.cborn_model.specs.declared.nodes.Form.TheVariants.{Uint, Nint, Bytes, Text, ByteChunks, TextChunks, Items, Pairs, Tagged, Simple}

abbrev pub tree_of : ℕ → Form → Tree
tree_of p (Uint w n) = tree.Uint p w n
tree_of p (Nint w n) = tree.Nint p w n
tree_of p (Bytes w b) = tree.Bytes p w b
tree_of p (Text w b) = tree.Text p w b
tree_of p (ByteChunks cs) = tree.ByteChunks p cs.items
tree_of p (TextChunks cs) = tree.TextChunks p cs.items
tree_of p (Items s ns) = tree.Items p s (trees ns.items)
tree_of p (Pairs s ps) = tree.Pairs p s (entries ps.items)
tree_of p (Tagged w n t) = tree.Tagged p w n t.value
tree_of p (Simple n) = tree.Simple p n
