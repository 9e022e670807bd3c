-- Where the fixed notation is UTF-8, each text that it shows is.
use Rattle.std.specs.Prelude.{◌≡◌, ◌↔◌, ◌<◌, ◌∷◌, ◌++◌}
use Rattle.cborn_edn.proofs.Common.{subst, ℕ, List, [], map, length, true, decimal, append-nil, append_assoc, refl, arith, is_utf8-from_IsUtf8, IsAscii-decimal_wide, codes, flat_map, IsUtf8, IsAscii, is_utf8, Chunk, Width, Tree, TextChunks, Items, Tagged, Trees, more, Entries, no_entry, entry, count, count_entries, Fits, FitsAll, FitsEntries, OfText, AreShowable, Shown, mark_for, mark_for_size, escaped, indicator, opened, shown_string, shown_chunk, joined_by, shown, item_texts, pair_texts, shown_lines, others, AreTexts, IsShowable, EachShowable, ArePairsShowable, TextNode, Pairs as PairNode, no_node}
use Rattle.simdutf8.proofs.StepsLemmas.{IsUtf8-append_ascii, IsUtf8-after_ascii}
use Rattle.cborn_edn.proofs.RoundTrip.Back.{below}
use Rattle.cborn_edn.proofs.Shown.Lowests.{are_showable, each_showable}
use Rattle.cborn_edn.proofs.Shown.Characters.{EachUtf8, unescaped, lines_text, indicator_low, opened_low}
use Rattle.cborn_edn.proofs.Reader.Utf8.{cut, low_ascii}

after : (p z : List ℕ) → IsAscii p → IsUtf8 (p ++ z) → IsUtf8 z
after p z low u = (IsUtf8-after_ascii p z low).0 u

before : (a p : List ℕ) → IsAscii p → IsUtf8 (a ++ p) → IsUtf8 a
before a p low u = (IsUtf8-append_ascii a p low).0 u

string_shows : (w : Width) (x : List ℕ) → IsUtf8 (shown_string OfText w x) → is_utf8 x ≡ true
string_shows w x u =
    let m = mark_for w (length x) in
    let inside = before (flat_map escaped x) (codes "\"" ++ indicator m) (low_ascii (codes "\"" ++ indicator m) (indicator_low m)) (after (codes "\"") (flat_map escaped x ++ (codes "\"" ++ indicator m)) (low_ascii (codes "\"") refl) u) in
    is_utf8-from_IsUtf8 x (unescaped x inside)

-- Nodes.

-- texts with a separator of ASCII between them
each_text : (sep : List ℕ) (xs : List (List ℕ)) → IsAscii sep → 0 < length sep → IsUtf8 (joined_by sep xs) → EachUtf8 xs
each_text sep [] low some u = tt
each_text sep (x ∷ []) low some u = (subst IsUtf8 (append-nil x) u, tt)
each_text sep (x ∷ y ∷ xs) low some u =
    let c = cut x sep (y ++ others sep xs) low some (subst (λ (l : List ℕ). IsUtf8 (x ++ l)) (append_assoc sep y (others sep xs)) u) in
    (c.0, each_text sep (y ∷ xs) low some c.1)

after_commas : (xs : List (List ℕ)) → IsUtf8 (joined_by (codes ", ") xs) → EachUtf8 xs
after_commas xs u = each_text (codes ", ") xs (low_ascii (codes ", ") refl) (omega arith) u

chunks_show : (cs : List Chunk) → EachUtf8 (map (shown_chunk OfText) cs) → AreTexts cs
chunks_show [] u = tt
chunks_show (c ∷ cs) u = (string_shows c.width c.bytes u.0, chunks_show cs u.1)

mutual
  node_shows : (t : Tree) → Fits t → IsUtf8 (shown t) → IsShowable t
  node_shows (TextNode p w x) h u = string_shows w x u
  node_shows (TextChunks p (c ∷ cs)) h u = chunks_show (c ∷ cs) (after_commas (map (shown_chunk OfText) (c ∷ cs)) (before _ (codes ")") (low_ascii (codes ")") refl) (after (codes "(_ ") _ (low_ascii (codes "(_ ") refl) u)))
  node_shows (Items p z ts) h u =
      let o = opened (mark_for_size z (count ts)) in
      let x = joined_by (codes ", ") (item_texts ts) in
      all_show ts h.1 (after_commas (item_texts ts) (before x (codes "]") (low_ascii (codes "]") refl) (after o (x ++ codes "]") (low_ascii o (opened_low (mark_for_size z (count ts)))) (after (codes "[") (o ++ (x ++ codes "]")) (low_ascii (codes "[") refl) u))))
  node_shows (PairNode p z es) h u =
      let o = opened (mark_for_size z (count_entries es)) in
      let x = joined_by (codes ", ") (pair_texts es) in
      pairs_show es h.1 (after_commas (pair_texts es) (before x (codes "}") (low_ascii (codes "}") refl) (after o (x ++ codes "}") (low_ascii o (opened_low (mark_for_size z (count_entries es)))) (after (codes "{") (o ++ (x ++ codes "}")) (low_ascii (codes "{") refl) u))))
  node_shows (Tagged p w n t) h u =
      let l = below w n h.0 in
      let m = indicator (mark_for w n) in
      node_shows t h.1 (before (shown t) (codes ")") (low_ascii (codes ")") refl) (after (codes "(") (shown t ++ codes ")") (low_ascii (codes "(") refl) (after m (codes "(" ++ (shown t ++ codes ")")) (low_ascii m (indicator_low (mark_for w n))) (after (decimal n) (m ++ (codes "(" ++ (shown t ++ codes ")"))) (IsAscii-decimal_wide n (omega arith)) u))))
  node_shows _ h u = tt

  all_show : (ts : Trees) → FitsAll ts → EachUtf8 (item_texts ts) → EachShowable ts
  all_show no_node h u = tt
  all_show (more t ts) h u = (node_shows t h.0 u.0, all_show ts h.1 u.1)

  pairs_show : (es : Entries) → FitsEntries es → EachUtf8 (pair_texts es) → ArePairsShowable es
  pairs_show no_entry h u = tt
  pairs_show (entry k v es) h u =
      let c = cut (shown k) (codes ": ") (shown v) (low_ascii (codes ": ") refl) (omega arith) u.0 in
      (node_shows k h.0 c.0, node_shows v h.1 c.1, pairs_show es h.2 u.1)

-- LAW: where the notation is UTF-8, the texts are
pub lines_show : (ts : Trees) → FitsAll ts → IsUtf8 (shown_lines ts) → EachShowable ts
lines_show no_node h u = tt
lines_show (more t ts) h u =
    all_show (more t ts) h (each_text (codes ",\n") (item_texts (more t ts)) (low_ascii (codes ",\n") refl) (omega arith) (before _ (codes "\n") (low_ascii (codes "\n") refl) u))

-- LAW: nodes have a notation where their texts are UTF-8
pub readable : (ts : Trees) → FitsAll ts → (AreShowable ts ↔ Shown ts (shown_lines ts))
readable ts h = (λ s. (lines_text ts h (each_showable ts s), refl), λ s. are_showable ts (lines_show ts h s.0))
