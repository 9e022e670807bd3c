-- The notation of a deterministic encoding (RFC 8949 sections 4.2 and 8). Its heads are the shortest and its lengths definite, so it has no indicator and no string in chunks.
use Rattle.std.specs.Prelude.{◌≡◌, ℕ, suc, List, [], ◌∷◌, ◌++◌, codes, decimal}
use Rattle.cborn_edn.specs.Common.{flat_map, IsUtf8, encode_lower, Tree, Uint, Nint, Bytes as ByteNode, Text as TextNode, Items, Pairs as PairNode, Tagged, Simple, Trees, no_item as no_node, more, Entries, no_entry, entry}
use Rattle.cborn_edn.specs.Shown.{escaped, shown_simple, joined_by}

-- An integer is in decimal, a byte string in hexadecimal, a text string in double quotes, and what an array, a map or a tag holds in brackets. There is no string in chunks, so what is said of one counts for nothing.
abbrev mutual
  pub plain : Tree → List ℕ
  plain (Uint p w n) = decimal n
  plain (Nint p w n) = codes "-" ++ decimal (suc n)
  plain (ByteNode p w x) = codes "h'" ++ (encode_lower x ++ codes "'")
  plain (TextNode p w x) = codes "\"" ++ (flat_map escaped x ++ codes "\"")
  plain (Items p s ts) = codes "[" ++ (joined_by (codes ", ") (plain_items ts) ++ codes "]")
  plain (PairNode p s es) = codes "{" ++ (joined_by (codes ", ") (plain_pairs es) ++ codes "}")
  plain (Tagged p w n t) = decimal n ++ (codes "(" ++ (plain t ++ codes ")"))
  plain (Simple p n) = shown_simple n
  plain _ = []

  pub plain_items : Trees → List (List ℕ)
  plain_items no_node = []
  plain_items (more t ts) = plain t ∷ plain_items ts

  pub plain_pairs : Entries → List (List ℕ)
  plain_pairs no_entry = []
  plain_pairs (entry k v es) = (plain k ++ (codes ": " ++ plain v)) ∷ plain_pairs es

-- a sequence: a comma and a line feed between its items, a line feed at the end
abbrev pub plain_lines : Trees → List ℕ
plain_lines no_node = []
plain_lines ts = joined_by (codes ",\n") (plain_items ts) ++ codes "\n"

-- the text of nodes, if it is UTF-8
abbrev pub IsPlain : Trees → List ℕ → Type 0
IsPlain ts x = IsUtf8 x × (x ≡ plain_lines ts)
