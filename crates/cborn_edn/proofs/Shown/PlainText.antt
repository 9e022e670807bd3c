-- The plain text of nodes doesn't depend on their places.
use Rattle.std.specs.Prelude.{◌≡◌, ◌∷◌, ◌++◌}
use Rattle.cborn_edn.proofs.Common.{refl, sym, ap, ◌∙◌, decimal, Tree, Items, Pairs, Tagged, Trees, more, Entries, no_entry, entry, joined_by, unplaced, unplaced_all, unplaced_entries, codes, no_node as no_item}
use Rattle.cborn_edn.specs.Plain.{plain, plain_items, plain_pairs, plain_lines}

mutual
  same_node : (t : Tree) → plain (unplaced t) ≡ plain t
  same_node (Items p s ts) = ap (λ l. codes "[" ++ (joined_by (codes ", ") l ++ codes "]")) (same_items ts)
  same_node (Pairs p s es) = ap (λ l. codes "{" ++ (joined_by (codes ", ") l ++ codes "}")) (same_pairs es)
  same_node (Tagged p w n t) = ap (λ l. decimal n ++ (codes "(" ++ (l ++ codes ")"))) (same_node t)
  same_node _ = refl

  same_items : (ts : Trees) → plain_items (unplaced_all ts) ≡ plain_items ts
  same_items no_item = refl
  same_items (more t ts) = λ i. same_node t i ∷ same_items ts i

  same_pairs : (es : Entries) → plain_pairs (unplaced_entries es) ≡ plain_pairs es
  same_pairs no_entry = refl
  same_pairs (entry k v es) = λ i. (same_node k i ++ (codes ": " ++ same_node v i)) ∷ same_pairs es i

same_lines : (ts : Trees) → plain_lines (unplaced_all ts) ≡ plain_lines ts
same_lines no_item = refl
same_lines (more t ts) = ap (λ l. joined_by (codes ",\n") l ++ codes "\n") (same_items (more t ts))

-- nodes that are the same but for their places have the same plain text
pub same_plain : (nodes others : Trees) → unplaced_all nodes ≡ unplaced_all others → plain_lines nodes ≡ plain_lines others
same_plain nodes others e = sym (same_lines nodes) ∙ ap plain_lines e ∙ same_lines others
