-- The places of the nodes and chunks of a text, in the order of their heads: each node before what it contains.
use Rattle.std.specs.Prelude.{ℕ, ◌<◌, List, [], ◌∷◌, ◌++◌}
use Rattle.cborn_edn.specs.Common.{AllByRecursion, Chunk, Tree, Uint, Nint, Bytes, Text, ByteChunks, TextChunks, Items, Pairs, Tagged, Simple, Trees, no_item, more, Entries, no_entry, entry}

abbrev pub starts_of_chunks : List Chunk → List ℕ
starts_of_chunks [] = []
starts_of_chunks (c ∷ cs) = c.place ∷ starts_of_chunks cs

abbrev pub unless_bytes : Tree → List ℕ → List ℕ
unless_bytes (Bytes p w b) ps = []
unless_bytes t ps = ps

-- The places of the node and of all nodes and chunks in it, but not of a definite byte string directly under a tag. The byte string of a bignum has the place of its tag, so that there places don't rise.
abbrev mutual
  pub spots : Tree → List ℕ
  spots (Uint p w n) = p ∷ []
  spots (Nint p w n) = p ∷ []
  spots (Bytes p w b) = p ∷ []
  spots (Text p w b) = p ∷ []
  spots (ByteChunks p cs) = p ∷ starts_of_chunks cs
  spots (TextChunks p cs) = p ∷ starts_of_chunks cs
  spots (Items p s ts) = p ∷ spots_all ts
  spots (Pairs p s es) = p ∷ spots_entries es
  spots (Tagged p w n t) = p ∷ unless_bytes t (spots t)
  spots (Simple p n) = p ∷ []

  pub spots_all : Trees → List ℕ
  spots_all no_item = []
  spots_all (more t ts) = spots t ++ spots_all ts

  pub spots_entries : Entries → List ℕ
  spots_entries no_entry = []
  spots_entries (entry k v es) = spots k ++ (spots v ++ spots_entries es)

-- each is less than all after it
abbrev pub IsRising : List ℕ → Type 0
IsRising [] = Unit {0}
IsRising (p ∷ ps) = AllByRecursion (λ q. p < q) ps × IsRising ps
