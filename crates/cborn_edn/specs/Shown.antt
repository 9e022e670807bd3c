-- The fixed notation of nodes: their text, and why nodes have none.
use Rattle.std.specs.Prelude.{◌≡◌, ℕ, suc, ◌≤◌, List, [], ◌∷◌, ◌++◌, map, length, codes, decimal, false, nat_lt, ◌==◌, ◌⊎◌, if◌then◌else◌}
use Rattle.cborn_edn.specs.Common.{flat_map, join_by, is_utf8, IsUtf8, encode_lower, Width, Four, Eight, Size, Fixed, Endless as EndlessMark, Chunk, Tree, Uint, Nint, Bytes as ByteNode, Text as TextNode, ByteChunks, TextChunks, Items, Pairs as PairNode, Tagged, Simple, Trees, no_item as no_node, more, Entries, no_entry, entry, count, count_entries, following, least, Mark, Absent, Wide, StringKind, OfBytes, OfText}
use Rattle.cborn_model.specs.declared.heads.Width.TheVariants.{One, Two}
use Rattle.cborn_lex.specs.declared.classes.Mark.TheVariants.{Endless}
use Rattle.cborn_edn.specs.declared.faults.ShowFault.{ShowFault}
use Rattle.cborn_edn.specs.declared.faults.ShowFault.TheVariants.{NotUtf8, OutOfMemory}

-- a head has an indicator only if it isn't the shortest: if its argument takes more bytes than it needs
abbrev pub mark_for : Width → ℕ → Mark
mark_for w n = if length (following w n) == length (following (least n) n) then Absent else Wide w

abbrev pub mark_for_size : Size → ℕ → Mark
mark_for_size EndlessMark n = Endless
mark_for_size (Fixed w) n = mark_for w n

-- The text. Numbers are in decimal, bytes in lower-case hexadecimal.

abbrev pub escaped : ℕ → List ℕ
escaped b =
    if b == 34 then codes "\\\""
    else if b == 92 then codes "\\\\"
    else if b == 8 then codes "\\b"
    else if b == 12 then codes "\\f"
    else if b == 10 then codes "\\n"
    else if b == 13 then codes "\\r"
    else if b == 9 then codes "\\t"
    else if nat_lt b 32 then codes "\\u00" ++ encode_lower (b ∷ [])
    else b ∷ []

abbrev pub indicator : Mark → List ℕ
indicator Endless = codes "_"
indicator (Wide One) = codes "_0"
indicator (Wide Two) = codes "_1"
indicator (Wide Four) = codes "_2"
indicator (Wide Eight) = codes "_3"
indicator _ = []

-- a space follows the indicator of an opening bracket
abbrev pub opened : Mark → List ℕ
opened Absent = []
opened m = indicator m ++ codes " "

abbrev pub shown_string : StringKind → Width → List ℕ → List ℕ
shown_string OfBytes w x = codes "h'" ++ (encode_lower x ++ (codes "'" ++ indicator (mark_for w (length x))))
shown_string OfText w x = codes "\"" ++ (flat_map escaped x ++ (codes "\"" ++ indicator (mark_for w (length x))))

abbrev pub shown_chunk : StringKind → Chunk → List ℕ
shown_chunk k c = shown_string k c.width c.bytes

-- texts one after another, with a separator between them
abbrev pub joined_by : List ℕ → List (List ℕ) → List ℕ
joined_by = join_by (λ text. text)

abbrev pub shown_chunks : StringKind → List Chunk → List ℕ
shown_chunks OfBytes [] = codes "''_"
shown_chunks OfText [] = codes "\"\"_"
shown_chunks k cs = codes "(_ " ++ (joined_by (codes ", ") (map (shown_chunk k) cs) ++ codes ")")

abbrev pub shown_simple : ℕ → List ℕ
shown_simple n =
    if n == 20 then codes "false"
    else if n == 21 then codes "true"
    else if n == 22 then codes "null"
    else if n == 23 then codes "undefined"
    else codes "simple(" ++ (decimal n ++ codes ")")

abbrev mutual
  pub shown : Tree → List ℕ
  shown (Uint p w n) = decimal n ++ indicator (mark_for w n)
  shown (Nint p w n) = codes "-" ++ (decimal (suc n) ++ indicator (mark_for w n))
  shown (ByteNode p w x) = shown_string OfBytes w x
  shown (TextNode p w x) = shown_string OfText w x
  shown (ByteChunks p cs) = shown_chunks OfBytes cs
  shown (TextChunks p cs) = shown_chunks OfText cs
  shown (Items p s ts) = codes "[" ++ (opened (mark_for_size s (count ts)) ++ (joined_by (codes ", ") (item_texts ts) ++ codes "]"))
  shown (PairNode p s es) = codes "{" ++ (opened (mark_for_size s (count_entries es)) ++ (joined_by (codes ", ") (pair_texts es) ++ codes "}"))
  shown (Tagged p w n t) = decimal n ++ (indicator (mark_for w n) ++ (codes "(" ++ (shown t ++ codes ")")))
  shown (Simple p n) = shown_simple n

  pub item_texts : Trees → List (List ℕ)
  item_texts no_node = []
  item_texts (more t ts) = shown t ∷ item_texts ts

  pub pair_texts : Entries → List (List ℕ)
  pair_texts no_entry = []
  pair_texts (entry k v es) = (shown k ++ (codes ": " ++ shown v)) ∷ pair_texts es

-- a sequence: a comma and a line feed between its items, a line feed at the end
abbrev pub shown_lines : Trees → List ℕ
shown_lines no_node = []
shown_lines ts = joined_by (codes ",\n") (item_texts ts) ++ codes "\n"

-- The place p is that of a text string or a text chunk that isn't UTF-8.
abbrev pub IsBadChunk : List Chunk → ℕ → Type 0
IsBadChunk [] p = ⊥
IsBadChunk (c ∷ cs) p = ((p ≡ c.place) × (is_utf8 c.bytes ≡ false)) ⊎ IsBadChunk cs p

abbrev mutual
  pub IsBadText : Tree → ℕ → Type 0
  IsBadText (TextNode q w x) p = (p ≡ q) × (is_utf8 x ≡ false)
  IsBadText (TextChunks q cs) p = IsBadChunk cs p
  IsBadText (Items q s ts) p = IsBadAmong ts p
  IsBadText (PairNode q s es) p = IsBadInPairs es p
  IsBadText (Tagged q w n t) p = IsBadText t p
  IsBadText _ p = ⊥

  pub IsBadAmong : Trees → ℕ → Type 0
  IsBadAmong no_node p = ⊥
  IsBadAmong (more t ts) p = IsBadText t p ⊎ IsBadAmong ts p

  pub IsBadInPairs : Entries → ℕ → Type 0
  IsBadInPairs no_entry p = ⊥
  IsBadInPairs (entry k v es) p = IsBadText k p ⊎ (IsBadText v p ⊎ IsBadInPairs es p)

-- each text string and text chunk is UTF-8
abbrev pub AreShowable : Trees → Type 0
AreShowable ts = (p : ℕ) → IsBadAmong ts p → ⊥

-- x is the fixed notation of the nodes, and is UTF-8
abbrev pub Shown : Trees → List ℕ → Type 0
Shown ts x = IsUtf8 x × (x ≡ shown_lines ts)

-- p is the lowest place of a text string or a text chunk that isn't UTF-8
pub record LowestBadText (ts : Trees) (p : ℕ) : Type 0 where
  pub is : IsBadAmong ts p
  pub lowest : (q : ℕ) → IsBadAmong ts q → p ≤ q

-- why nodes have no text
abbrev pub IsShowFault : Trees → ShowFault → Type 0
IsShowFault ts (NotUtf8 p) = LowestBadText ts p
IsShowFault ts OutOfMemory = Unit {0}
