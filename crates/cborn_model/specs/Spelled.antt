-- The bytes that a node spells (RFC 8949 sections 3.1 to 3.4), and which bytes are well-formed under a nesting limit.
use Rattle.std.specs.Prelude.{◌≡◌, ◌≤◌, ◌∷◌, ◌++◌}
use Rattle.cborn_model.specs.Common.{ℕ, List, [], length, IsTrue, flat_map, Width, Size, Fixed, Endless, Major, Unsigned, Negative, ByteString, TextString, Array, Map, Tag, Other}
use Rattle.cborn_model.specs.declared.nodes.Chunk.{Chunk}
use Rattle.cborn_model.specs.Bytes.{AreBytes}
use Rattle.cborn_model.specs.Heads.{WidthFits, least, is_simple_value, Given, EndlessArgument, head, argument, SizeFits}
use Rattle.cborn_model.specs.Tree.{Tree, Uint, Nint, Bytes, Text, ByteChunks, TextChunks, Items, Pairs, Tagged, Simple, Trees, no_item, more, Entries, no_entry, entry, count, count_entries, depth, depth_all}

-- what follows the contents of an array or a map: the break, if its length is indefinite
abbrev pub ending : Size → List ℕ
ending (Fixed w) = []
ending Endless = head Other EndlessArgument

abbrev pub string : Major → Width → List ℕ → List ℕ
string m w b = head m (Given w (length b)) ++ b

abbrev pub chunk_bytes : Major → Chunk → List ℕ
chunk_bytes m c = string m c.width c.bytes

-- an indefinite string, up to its break
abbrev pub chunks : Major → List Chunk → List ℕ
chunks m cs = head m EndlessArgument ++ flat_map (chunk_bytes m) cs

abbrev mutual
  pub spelled : Tree → List ℕ
  spelled (Uint p w n) = head Unsigned (Given w n)
  spelled (Nint p w n) = head Negative (Given w n)
  spelled (Bytes p w b) = string ByteString w b
  spelled (Text p w b) = string TextString w b
  spelled (ByteChunks p cs) = chunks ByteString cs ++ ending Endless
  spelled (TextChunks p cs) = chunks TextString cs ++ ending Endless
  spelled (Items p s ts) = head Array (argument s (count ts)) ++ spelled_all ts ++ ending s
  spelled (Pairs p s es) = head Map (argument s (count_entries es)) ++ spelled_entries es ++ ending s
  spelled (Tagged p w n t) = head Tag (Given w n) ++ spelled t
  spelled (Simple p n) = head Other (Given (least n) n)

  pub spelled_all : Trees → List ℕ
  spelled_all no_item = []
  spelled_all (more t ts) = spelled t ++ spelled_all ts

  pub spelled_entries : Entries → List ℕ
  spelled_entries no_entry = []
  spelled_entries (entry k v es) = spelled k ++ spelled v ++ spelled_entries es

abbrev pub ChunksFit : List Chunk → Type 0
ChunksFit [] = Unit {0}
ChunksFit (c ∷ cs) = (WidthFits c.width (length c.bytes) × AreBytes c.bytes) × ChunksFit cs

-- The node spells bytes: each argument, length and count fits its width, and no simple value is from 24 to 31.
abbrev mutual
  pub Fits : Tree → Type 0
  Fits (Uint p w n) = WidthFits w n
  Fits (Nint p w n) = WidthFits w n
  Fits (Bytes p w b) = WidthFits w (length b) × AreBytes b
  Fits (Text p w b) = WidthFits w (length b) × AreBytes b
  Fits (ByteChunks p cs) = ChunksFit cs
  Fits (TextChunks p cs) = ChunksFit cs
  Fits (Items p s ts) = SizeFits s (count ts) × FitsAll ts
  Fits (Pairs p s es) = SizeFits s (count_entries es) × FitsEntries es
  Fits (Tagged p w n t) = WidthFits w n × Fits t
  Fits (Simple p n) = IsTrue (is_simple_value n)

  pub FitsAll : Trees → Type 0
  FitsAll no_item = Unit {0}
  FitsAll (more t ts) = Fits t × FitsAll ts

  pub FitsEntries : Entries → Type 0
  FitsEntries no_entry = Unit {0}
  FitsEntries (entry k v es) = Fits k × Fits v × FitsEntries es

-- the bytes spell these nodes, one after another, none deeper than the limit
pub record Wellformed (limit : ℕ) (ts : Trees) (x : List ℕ) : Type 0 where
  pub spells : spelled_all ts ≡ x
  pub fit : FitsAll ts
  pub shallow : depth_all ts ≤ limit

-- What a `Spelled` holds: a node that spells bytes, of depth at most 1,024.
abbrev pub IsSpelled : Tree → Type 0
IsSpelled t = Fits t × (depth t ≤ 1024)
