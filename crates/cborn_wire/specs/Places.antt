-- Nodes moved to an offset. Two lists of nodes are equal but for their offsets exactly if they are equal once moved to one offset.
use Rattle.std.specs.Prelude.{ℕ, suc, ◌+◌, List, [], ◌∷◌, length}
use Rattle.cborn_model.specs.declared.nodes.Chunk.{Chunk}
use Rattle.cborn_model.specs.declared.heads.Major.{Major}
use Rattle.cborn_model.specs.declared.heads.Major.TheVariants.{ByteString, TextString, Array, Map, Tag}
use Rattle.cborn_model.specs.Heads.{Given, head, argument}
use Rattle.cborn_model.specs.Tree.{Tree, Uint, Nint, Bytes, Text, ByteChunks, TextChunks, Items, Pairs, Tagged, Simple, Trees, no_item, more, Entries, no_entry, entry, count, count_entries}
use Rattle.cborn_model.specs.Spelled.{chunk_bytes, spelled}

abbrev pub chunks_from : Major → ℕ → List Chunk → List Chunk
chunks_from m p [] = []
chunks_from m p (c ∷ cs) = record c { place = p } ∷ chunks_from m (p + length (chunk_bytes m c)) cs

abbrev mutual
  pub placed_from : ℕ → Tree → Tree
  placed_from p (Uint q w n) = Uint p w n
  placed_from p (Nint q w n) = Nint p w n
  placed_from p (Bytes q w bytes) = Bytes p w bytes
  placed_from p (Text q w bytes) = Text p w bytes
  placed_from p (ByteChunks q cs) = ByteChunks p (chunks_from ByteString (suc p) cs)
  placed_from p (TextChunks q cs) = TextChunks p (chunks_from TextString (suc p) cs)
  placed_from p (Items q s ts) = Items p s (all_from (p + length (head Array (argument s (count ts)))) ts)
  placed_from p (Pairs q s es) = Pairs p s (entries_from (p + length (head Map (argument s (count_entries es)))) es)
  placed_from p (Tagged q w n t) = Tagged p w n (placed_from (p + length (head Tag (Given w n))) t)
  placed_from p (Simple q n) = Simple p n

  pub all_from : ℕ → Trees → Trees
  all_from p no_item = no_item
  all_from p (more t ts) = more (placed_from p t) (all_from (p + length (spelled t)) ts)

  pub entries_from : ℕ → Entries → Entries
  entries_from p no_entry = no_entry
  entries_from p (entry k v es) = entry (placed_from p k) (placed_from (p + length (spelled k)) v) (entries_from (p + length (spelled k) + length (spelled v)) es)
