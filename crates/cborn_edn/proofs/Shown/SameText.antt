-- The text of nodes doesn't depend on their places.
use Rattle.std.specs.Prelude.{◌≡◌, ◌∷◌, ◌++◌}
use Rattle.cborn_edn.proofs.Common.{arith, refl, sym, ap, ◌∙◌, subst, ℕ, List, [], map, decimal, Chunk, Tree, ByteChunks, TextChunks, Items, Pairs, Tagged, Trees, more, Entries, no_entry, entry, StringKind, OfBytes, OfText, FitsAll, Shown, AreShowable, mark_for, mark_for_size, indicator, opened, shown_chunk, joined_by, shown_chunks, shown, item_texts, pair_texts, shown_lines, unplaced_chunks, unplaced, unplaced_all, unplaced_entries, codes, no_node as no_item}
use Rattle.cborn_edn.proofs.Shown.Readable.{readable}
use Rattle.cborn_edn.proofs.RoundTrip.Unplaced.{same_fit}
use Rattle.cborn_edn.proofs.RoundTrip.Back.{count-unplaced, count-unplaced_entries}

each_chunk : (k : StringKind) (cs : List Chunk) → map (shown_chunk k) (unplaced_chunks cs) ≡ map (shown_chunk k) cs
each_chunk k [] = refl
each_chunk k (c ∷ cs) = ap (λ l. shown_chunk k c ∷ l) (each_chunk k cs)

chunks : (k : StringKind) (cs : List Chunk) → shown_chunks k (unplaced_chunks cs) ≡ shown_chunks k cs
chunks k cs = grind (arith, each_chunk)

mutual
  same_node : (t : Tree) → shown (unplaced t) ≡ shown t
  same_node (ByteChunks p cs) = chunks OfBytes cs
  same_node (TextChunks p cs) = chunks OfText cs
  same_node (Items p s ts) = λ i. codes "[" ++ (opened (mark_for_size s (count-unplaced ts i)) ++ (joined_by (codes ", ") (same_items ts i) ++ codes "]"))
  same_node (Pairs p s es) = λ i. codes "{" ++ (opened (mark_for_size s (count-unplaced_entries es i)) ++ (joined_by (codes ", ") (same_pairs es i) ++ codes "}"))
  same_node (Tagged p w n t) = λ i. decimal n ++ (indicator (mark_for w n) ++ (codes "(" ++ (same_node t i ++ codes ")")))
  same_node _ = refl

  same_items : (ts : Trees) → item_texts (unplaced_all ts) ≡ item_texts ts
  same_items no_item = refl
  same_items (more t ts) = λ i. same_node t i ∷ same_items ts i

  same_pairs : (es : Entries) → pair_texts (unplaced_entries es) ≡ pair_texts es
  same_pairs no_entry = refl
  same_pairs (entry k v es) = λ i. (same_node k i ++ (codes ": " ++ same_node v i)) ∷ same_pairs es i

same_lines : (ts : Trees) → shown_lines (unplaced_all ts) ≡ shown_lines ts
same_lines no_item = refl
same_lines (more t ts) = ap (λ l. joined_by (codes ",\n") l ++ codes "\n") (same_items (more t ts))

-- nodes that are the same but for their places have the same text
pub same_text : (nodes others : Trees) → unplaced_all nodes ≡ unplaced_all others → shown_lines nodes ≡ shown_lines others
same_text nodes others e = sym (same_lines nodes) ∙ ap shown_lines e ∙ same_lines others

-- LAW: and the same fixed notation
pub same_notation : (nodes others : Trees) (text : List ℕ) → unplaced_all nodes ≡ unplaced_all others → Shown nodes text → Shown others text
same_notation nodes others text e h = (h.0, h.1 ∙ same_text nodes others e)

-- nodes that are the same but for their places have bad texts together
pub same_showable : (nodes others : Trees) → unplaced_all nodes ≡ unplaced_all others → FitsAll nodes → AreShowable nodes → AreShowable others
same_showable nodes others e fits h = let t = same_notation nodes others _ e ((readable nodes fits).0 h) in (readable others (same_fit nodes others e fits)).1 (subst (Shown others) t.1 t)
