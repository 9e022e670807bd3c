-- The offsets of a node and of its parts in the bytes that it spells.
use Rattle.std.specs.Prelude.{◌≡◌, ◌+◌, ◌∷◌}
use Rattle.cborn_model.specs.Common.{ℕ, suc, List, [], length, Major, ByteString, TextString, Array, Map, Tag}
use Rattle.cborn_model.specs.declared.nodes.Chunk.{Chunk}
use Rattle.cborn_model.specs.Heads.{Given, head, argument}
use Rattle.cborn_model.specs.Tree.{Tree, Uint, Nint, Bytes, Text, ByteChunks, TextChunks, Items, Pairs, Tagged, Simple, Trees, no_item, more, Entries, no_entry, entry, count, count_entries}
use Rattle.cborn_model.specs.Spelled.{spelled, chunk_bytes}

abbrev pub ChunksPlaced : Major → ℕ → List Chunk → Type 0
ChunksPlaced m p [] = Unit {0}
ChunksPlaced m p (c ∷ cs) = (c.place ≡ p) × ChunksPlaced m (p + length (chunk_bytes m c)) cs

-- The node is at the offset p, and each part at p plus the length of all that the node spells before it.
abbrev mutual
  pub Placed : ℕ → Tree → Type 0
  Placed p (Uint q w n) = q ≡ p
  Placed p (Nint q w n) = q ≡ p
  Placed p (Bytes q w b) = q ≡ p
  Placed p (Text q w b) = q ≡ p
  Placed p (ByteChunks q cs) = (q ≡ p) × ChunksPlaced ByteString (suc p) cs
  Placed p (TextChunks q cs) = (q ≡ p) × ChunksPlaced TextString (suc p) cs
  Placed p (Items q s ts) = (q ≡ p) × PlacedAll (p + length (head Array (argument s (count ts)))) ts
  Placed p (Pairs q s es) = (q ≡ p) × PlacedEntries (p + length (head Map (argument s (count_entries es)))) es
  Placed p (Tagged q w n t) = (q ≡ p) × Placed (p + length (head Tag (Given w n))) t
  Placed p (Simple q n) = q ≡ p

  -- one after another, the first at p
  pub PlacedAll : ℕ → Trees → Type 0
  PlacedAll p no_item = Unit {0}
  PlacedAll p (more t ts) = Placed p t × PlacedAll (p + length (spelled t)) ts

  pub PlacedEntries : ℕ → Entries → Type 0
  PlacedEntries p no_entry = Unit {0}
  PlacedEntries p (entry k v es) = Placed p k × Placed (p + length (spelled k)) v × PlacedEntries (p + length (spelled k) + length (spelled v)) es
