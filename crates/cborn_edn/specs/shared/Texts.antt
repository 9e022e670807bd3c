-- A device of the proofs, here and in the crates above: texts of nodes that are all UTF-8, node by node.
use Rattle.std.specs.Prelude.{◌≡◌, List, [], ◌∷◌, true}
use Rattle.cborn_edn.specs.Common.{is_utf8, Chunk, Tree, Text as TextNode, TextChunks, Items, Pairs as PairNode, Tagged, Trees, no_item as no_node, more, Entries, no_entry, entry}

abbrev pub AreTexts : List Chunk → Type 0
AreTexts [] = Unit {0}
AreTexts (c ∷ cs) = (is_utf8 c.bytes ≡ true) × AreTexts cs

abbrev mutual
  pub IsShowable : Tree → Type 0
  IsShowable (TextNode p w x) = is_utf8 x ≡ true
  IsShowable (TextChunks p cs) = AreTexts cs
  IsShowable (Items p s ts) = EachShowable ts
  IsShowable (PairNode p s es) = ArePairsShowable es
  IsShowable (Tagged p w n t) = IsShowable t
  IsShowable _ = Unit {0}

  pub EachShowable : Trees → Type 0
  EachShowable no_node = Unit {0}
  EachShowable (more t ts) = IsShowable t × EachShowable ts

  pub ArePairsShowable : Entries → Type 0
  ArePairsShowable no_entry = Unit {0}
  ArePairsShowable (entry k v es) = IsShowable k × IsShowable v × ArePairsShowable es
