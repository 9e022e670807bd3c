-- What is spelled is bytes.
use Rattle.std.specs.Prelude.{◌∷◌, ◌++◌}
use Rattle.cborn_wire.proofs.Common.{subst, ℕ, List, [], length, arith, flat_map, AreBytes, Width, Size, Endless, Chunk, Major, Unsigned, Negative, ByteString, TextString, Array, Map, Tag, Other, WidthFits, least, Argument, Given, head, argument, SizeFits, Tree, Uint, Nint, Bytes, Text, ByteChunks, TextChunks, Items, Pairs, Tagged, Simple, Trees, no_item, more, Entries, no_entry, entry, count, count_entries, ending, string, chunk_bytes, spelled, spelled_all, spelled_entries, ChunksFit, Fits, FitsAll, FitsEntries, Wellformed, ArgumentFits, common_steps, nat_tests, simple_fits, bytes-append}
use Rattle.cborn_wire.proofs.Machine.TakesItems.{size_fits}

pub head_bytes : (m : Major) (a : Argument) → ArgumentFits a → AreBytes (head m a)
head_bytes m a h = grind (arith, common_steps, nat_tests)

string_bytes : (m : Major) (w : Width) (b : List ℕ) → WidthFits w (length b) → AreBytes b → AreBytes (string m w b)
string_bytes m w b h k = bytes-append (head m (Given w (length b))) b (head_bytes m (Given w (length b)) h) k

chunks_bytes : (m : Major) (cs : List Chunk) → ChunksFit cs → AreBytes (flat_map (chunk_bytes m) cs)
chunks_bytes m [] h = tt
chunks_bytes m (c ∷ cs) h = bytes-append (chunk_bytes m c) (flat_map (chunk_bytes m) cs) (string_bytes m c.width c.bytes h.0.0 h.0.1) (chunks_bytes m cs h.1)

-- what a head and an ending enclose
inside_bytes : (m : Major) (s : Size) (n : ℕ) (x : List ℕ) → SizeFits s n → AreBytes x → AreBytes (head m (argument s n) ++ x ++ ending s)
inside_bytes m s n x h k = grind (arith, bytes-append, head_bytes, size_fits, common_steps, nat_tests)

mutual
  pub spelled_bytes : (t : Tree) → Fits t → AreBytes (spelled t)
  spelled_bytes (Uint p w n) h = head_bytes Unsigned (Given w n) h
  spelled_bytes (Nint p w n) h = head_bytes Negative (Given w n) h
  spelled_bytes (Bytes p w b) h = string_bytes ByteString w b h.0 h.1
  spelled_bytes (Text p w b) h = string_bytes TextString w b h.0 h.1
  spelled_bytes (ByteChunks p cs) h = inside_bytes ByteString Endless 0 (flat_map (chunk_bytes ByteString) cs) tt (chunks_bytes ByteString cs h)
  spelled_bytes (TextChunks p cs) h = inside_bytes TextString Endless 0 (flat_map (chunk_bytes TextString) cs) tt (chunks_bytes TextString cs h)
  spelled_bytes (Items p s ts) h = inside_bytes Array s (count ts) (spelled_all ts) h.0 (spelled_all_bytes ts h.1)
  spelled_bytes (Pairs p s es) h = inside_bytes Map s (count_entries es) (spelled_entries es) h.0 (spelled_entries_bytes es h.1)
  spelled_bytes (Tagged p w n t) h = bytes-append (head Tag (Given w n)) (spelled t) (head_bytes Tag (Given w n) h.0) (spelled_bytes t h.1)
  spelled_bytes (Simple p n) h = head_bytes Other (Given (least n) n) (simple_fits n h)

  pub spelled_all_bytes : (ts : Trees) → FitsAll ts → AreBytes (spelled_all ts)
  spelled_all_bytes no_item h = tt
  spelled_all_bytes (more t ts) h = bytes-append (spelled t) (spelled_all ts) (spelled_bytes t h.0) (spelled_all_bytes ts h.1)

  pub spelled_entries_bytes : (es : Entries) → FitsEntries es → AreBytes (spelled_entries es)
  spelled_entries_bytes no_entry h = tt
  spelled_entries_bytes (entry k v es) h =
      bytes-append (spelled k ++ spelled v) (spelled_entries es) (bytes-append (spelled k) (spelled v) (spelled_bytes k h.0) (spelled_bytes v h.1)) (spelled_entries_bytes es h.2)

-- What is well-formed is bytes.
pub well_bytes : (limit : ℕ) (ts : Trees) (x : List ℕ) → Wellformed limit ts x → AreBytes x
well_bytes limit ts x h = subst AreBytes h.spells (spelled_all_bytes ts h.fit)
