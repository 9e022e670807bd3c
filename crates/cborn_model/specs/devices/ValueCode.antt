-- A device of the proofs: a code for items, by which they are told apart. It is that of a tree, which is another for each. No definition cites it.
use Rattle.std.specs.Prelude.{◌≡◌}
use Rattle.cborn_model.specs.Common.{zero, true, false, refl, ap, ◌∙◌, Coded, code_by, Direct, Endless}
use Rattle.cborn_model.specs.Tree.{Tree, Bytes, Text, Items, Pairs, Tagged, Simple, Trees, no_item, more, Entries, no_entry, entry}
use Rattle.cborn_model.specs.Value.{Value, integer, bytes, text, array, dict, tagged, simple, Values, no_values, value, Couples, no_pairs, pair}
use Rattle.cborn_model.specs.shared.TreeCode.{tree_code}

-- the place is the sign of an integer, and the kind of a string
abbrev mutual
  tree : Value → Tree
  tree (integer false m) = Bytes 0 Direct m
  tree (integer true m) = Bytes 1 Direct m
  tree (bytes b) = Text 0 Direct b
  tree (text b) = Text 1 Direct b
  tree (array vs) = Items 0 Endless (all_trees vs)
  tree (dict ps) = Pairs 0 Endless (pair_trees ps)
  tree (tagged n v) = Tagged 0 Direct n (tree v)
  tree (simple n) = Simple 0 n

  all_trees : Values → Trees
  all_trees no_values = no_item
  all_trees (value v vs) = more (tree v) (all_trees vs)

  pair_trees : Couples → Entries
  pair_trees no_pairs = no_entry
  pair_trees (pair k v ps) = entry (tree k) (tree v) (pair_trees ps)

-- the item of which this is the tree
abbrev mutual
  item : Tree → Value
  item (Bytes zero w m) = integer false m
  item (Bytes p w m) = integer true m
  item (Text zero w b) = bytes b
  item (Text p w b) = text b
  item (Items p s ts) = array (all_items ts)
  item (Pairs p s es) = dict (pair_items es)
  item (Tagged p w n t) = tagged n (item t)
  item (Simple p n) = simple n
  item _ = simple 0

  all_items : Trees → Values
  all_items no_item = no_values
  all_items (more t ts) = value (item t) (all_items ts)

  pair_items : Entries → Couples
  pair_items no_entry = no_pairs
  pair_items (entry k v es) = pair (item k) (item v) (pair_items es)

mutual
  pub same : (v : Value) → item (tree v) ≡ v
  same (integer false m) = refl
  same (integer true m) = refl
  same (bytes b) = refl
  same (text b) = refl
  same (array vs) = ap array (same_all vs)
  same (dict ps) = ap dict (same_pairs ps)
  same (tagged n v) = ap (tagged n) (same v)
  same (simple n) = refl

  same_all : (vs : Values) → all_items (all_trees vs) ≡ vs
  same_all no_values = refl
  same_all (value v vs) = ap (λ w. value w (all_items (all_trees vs))) (same v) ∙ ap (value v) (same_all vs)

  same_pairs : (ps : Couples) → pair_items (pair_trees ps) ≡ ps
  same_pairs no_pairs = refl
  same_pairs (pair k v ps) =
      ap (λ w. pair w (item (tree v)) (pair_items (pair_trees ps))) (same k) ∙ ap (λ w. pair k w (pair_items (pair_trees ps))) (same v) ∙ ap (pair k v) (same_pairs ps)

abbrev pub value_code : Coded Value
value_code = code_by Tree tree_code tree item same
