-- A partial sequence: data items up to some head or string among them (RFC 8949 section 3, RFC 8742).
use Rattle.std.specs.Prelude.{◌≡◌, ◌<◌, ◌∷◌, ◌++◌, if◌then◌else◌}
use Rattle.cborn_model.specs.Common.{ℕ, List, [], length, Bool, true, false, Option, Some, None, Width, Direct, Size, Fixed, Endless, StringKind, OfBytes, OfText}
use Rattle.cborn_model.specs.declared.nodes.Chunk.{Chunk}
use Rattle.cborn_model.specs.Heads.{WidthFits, holds, least}
use Rattle.cborn_model.specs.Tree.{Tree, Uint, Nint, Bytes, Text, ByteChunks, TextChunks, Items, Pairs, Tagged, Simple, trees, entries}

-- What opens a container (sections 3.1 and 3.2), and the offset of its head. An array and a map have a size and, where that is known from the start, the number of their items or pairs. With a width and no number, the width is the least that the head is to have.
pub data Opening : Type 0 where
  an_array : ℕ → Size → Option ℕ → Opening
  a_map : ℕ → Size → Option ℕ → Opening
  a_tag : ℕ → Width → ℕ → Opening
  -- a string of indefinite length
  in_chunks : ℕ → StringKind → Opening

-- `top`: whole nodes, and nothing is open. `inside`: in a partial sequence, an open container with the nodes that are whole in it: the items of an array, the keys and values of a map in turn, the content of a tag, the chunks of a string.
pub data Partial : Type 0 where
  top : List Tree → Partial
  inside : Partial → Opening → List Tree → Partial

-- A definite string of which a part came: the offset of its head, the kind, the width of the head, its length, and its bytes so far.
pub data Part : Type 0 where
  no_part : Part
  part : ℕ → StringKind → Width → ℕ → List ℕ → Part

-- one more node is whole
abbrev pub put : Partial → Tree → Partial
put (top ts) t = top (ts ++ t ∷ [])
put (inside f o ts) t = inside f o (ts ++ t ∷ [])

-- the nodes that are whole, and in nothing that is open
abbrev pub whole : Partial → List Tree
whole (top ts) = ts
whole (inside f o ts) = whole f

-- the pairs of these keys and values
abbrev pub paired : List Tree → List (Tree × Tree)
paired [] = []
paired (k ∷ []) = []
paired (k ∷ v ∷ ts) = (k, v) ∷ paired ts

-- the key whose value is missing
abbrev pub last_key : List Tree → Option Tree
last_key [] = None
last_key (k ∷ []) = Some k
last_key (k ∷ v ∷ ts) = last_key ts

-- a string as a chunk
abbrev pub chunk_of : Tree → Chunk
chunk_of (Bytes p w x) = record { place = p; width = w; bytes = x }
chunk_of (Text p w x) = record { place = p; width = w; bytes = x }
chunk_of _ = record { place = 0; width = Direct; bytes = [] }

abbrev pub chunks_of : List Tree → List Chunk
chunks_of [] = []
chunks_of (t ∷ ts) = chunk_of t ∷ chunks_of ts

-- the content of a tag
abbrev pub last_of : List Tree → Tree
last_of [] = Simple 0 0
last_of (t ∷ []) = t
last_of (t ∷ u ∷ ts) = last_of (u ∷ ts)

-- more than k items or pairs may come
abbrev pub IsMore : Option ℕ → ℕ → Type 0
IsMore (Some n) k = k < n
IsMore None k = Unit {0}

abbrev pub IsString : StringKind → Tree → Type 0
IsString OfBytes (Bytes p w x) = Unit {0}
IsString OfText (Text p w x) = Unit {0}
IsString k t = ⊥

abbrev pub AreStrings : StringKind → List Tree → Type 0
AreStrings k [] = Unit {0}
AreStrings k (t ∷ ts) = IsString k t × AreStrings k ts

-- more of it is to come, or may come
abbrev pub Goes : Opening → List Tree → Type 0
Goes (an_array p s c) ts = IsMore c (length ts)
Goes (a_map p s c) ts = IsMore c (length (paired ts))
Goes (a_tag p w n) ts = ts ≡ []
Goes (in_chunks p k) ts = AreStrings k ts

-- k items or pairs are all that were announced, if they were
abbrev pub IsAll : Option ℕ → ℕ → Type 0
IsAll (Some n) k = k ≡ n
IsAll None k = Unit {0}

-- it may end here
abbrev pub Ends : Opening → List Tree → Type 0
Ends (an_array p s c) ts = IsAll c (length ts)
Ends (a_map p s c) ts = IsAll c (length (paired ts)) × (last_key ts ≡ None)
Ends (a_tag p w n) ts = (t : Tree) × (ts ≡ t ∷ [])
Ends (in_chunks p k) ts = AreStrings k ts

-- an item may be next
abbrev pub TakesItem : Partial → Type 0
TakesItem (inside f (in_chunks p k) ts) = ⊥
TakesItem _ = Unit {0}

-- a string of this kind may be next
abbrev pub TakesString : Partial → StringKind → Type 0
TakesString (inside f (in_chunks p j) ts) k = j ≡ k
TakesString _ k = Unit {0}

-- each open container may go on, and none is in a string of indefinite length
abbrev pub Proper : Partial → Type 0
Proper (top ts) = Unit {0}
Proper (inside f o ts) = Proper f × TakesItem f × Goes o ts

-- an item may be next in such a partial sequence
abbrev pub IsFree : Partial → Type 0
IsFree f = Proper f × TakesItem f

-- the size of an array or a map that ends with k items or pairs
abbrev pub ended_size : Size → Option ℕ → ℕ → Size
ended_size (Fixed w) None k = Fixed (if holds w k then w else least k)
ended_size s c k = s

abbrev pub string_tree : ℕ → StringKind → Width → List ℕ → Tree
string_tree p OfBytes w x = Bytes p w x
string_tree p OfText w x = Text p w x

abbrev pub chunks_tree : ℕ → StringKind → List Chunk → Tree
chunks_tree p OfBytes cs = ByteChunks p cs
chunks_tree p OfText cs = TextChunks p cs

abbrev pub integer_tree : ℕ → Bool → Width → ℕ → Tree
integer_tree p false w n = Uint p w n
integer_tree p true w n = Nint p w n

-- the node of a container that ends with these nodes in it
abbrev pub built : Opening → List Tree → Tree
built (an_array p s c) ts = Items p (ended_size s c (length ts)) (trees ts)
built (a_map p s c) ts = Pairs p (ended_size s c (length (paired ts))) (entries (paired ts))
built (a_tag p w n) ts = Tagged p w n (last_of ts)
built (in_chunks p k) ts = chunks_tree p k (chunks_of ts)

-- the number that a head of this size announces fits it
abbrev pub CountFits : Size → Option ℕ → Type 0
CountFits (Fixed w) (Some n) = WidthFits w n
CountFits (Fixed w) None = Unit {0}
CountFits Endless (Some n) = ⊥
CountFits Endless None = Unit {0}
