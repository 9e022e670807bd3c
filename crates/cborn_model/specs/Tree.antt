-- Nodes as pure trees: each data item as it is spelled, with its offset and the width of each head. A chunk is a definite string inside an indefinite one (RFC 8949 section 3.2.3).
use Rattle.std.specs.Prelude.{◌∷◌}
use Rattle.cborn_model.specs.Common.{ℕ, suc, max, List, [], Width, Size}
use Rattle.cborn_model.specs.declared.nodes.Chunk.{Chunk}

-- The first number of each is its place: the offset of its head in bytes from the start of the input.
mutual
  pub data Tree : Type 0 where
    Uint : ℕ → Width → ℕ → Tree
    Nint : ℕ → Width → ℕ → Tree
    Bytes : ℕ → Width → List ℕ → Tree
    Text : ℕ → Width → List ℕ → Tree
    ByteChunks : ℕ → List Chunk → Tree
    TextChunks : ℕ → List Chunk → Tree
    Items : ℕ → Size → Trees → Tree
    Pairs : ℕ → Size → Entries → Tree
    Tagged : ℕ → Width → ℕ → Tree → Tree
    Simple : ℕ → ℕ → Tree

  pub data Trees : Type 0 where
    no_item : Trees
    more : Tree → Trees → Trees

  -- the pairs of a map: a key and its value
  pub data Entries : Type 0 where
    no_entry : Entries
    entry : Tree → Tree → Entries → Entries

abbrev pub trees : List Tree → Trees
trees [] = no_item
trees (t ∷ ts) = more t (trees ts)

abbrev pub entries : List (Tree × Tree) → Entries
entries [] = no_entry
entries (e ∷ es) = entry e.0 e.1 (entries es)

abbrev pub count : Trees → ℕ
count no_item = 0
count (more t ts) = suc (count ts)

abbrev pub count_entries : Entries → ℕ
count_entries no_entry = 0
count_entries (entry k v es) = suc (count_entries es)

abbrev pub place : Tree → ℕ
place (Uint p w n) = p
place (Nint p w n) = p
place (Bytes p w b) = p
place (Text p w b) = p
place (ByteChunks p cs) = p
place (TextChunks p cs) = p
place (Items p s ts) = p
place (Pairs p s es) = p
place (Tagged p w n t) = p
place (Simple p n) = p

-- The nesting depth: 0 for a leaf, a string in chunks included; for an array, a map or a tag one more than its deepest child.
abbrev mutual
  pub depth : Tree → ℕ
  depth (Items p s ts) = suc (depth_all ts)
  depth (Pairs p s es) = suc (depth_entries es)
  depth (Tagged p w n t) = suc (depth t)
  depth _ = 0

  pub depth_all : Trees → ℕ
  depth_all no_item = 0
  depth_all (more t ts) = max (depth t) (depth_all ts)

  pub depth_entries : Entries → ℕ
  depth_entries no_entry = 0
  depth_entries (entry k v es) = max (max (depth k) (depth v)) (depth_entries es)
