-- Why a node means nothing, and where (RFC 8949 sections 3.1, 3.4.3 and 5.6).
use Rattle.std.specs.Prelude.{◌≡◌, ◌<◌, ◌^◌, ◌⊎◌, ◌∷◌}
use Rattle.cborn_judge.specs.Common.{ℕ, List, [], IsUtf8, ⊤, Value, Same, Chunk, Tree, Uint, Nint, Text, TextChunks, Items, Pairs, Tagged, Trees, no_item, more, Entries, no_entry, entry, place, IsFirst, InvalidReason, NotUtf8, BadBignum, DuplicateKey, Invalid, Refused, OutOfMemory, IsByteString, Means}
use Rattle.cborn_judge.specs.Reasons.{flaw_rank}

-- q is this node, or inside it
abbrev mutual
  pub Within : Tree → Tree → Type 0
  Within q (Items p s ts) = (q ≡ Items p s ts) ⊎ WithinAll q ts
  Within q (Pairs p s es) = (q ≡ Pairs p s es) ⊎ WithinEntries q es
  Within q (Tagged p w n t) = (q ≡ Tagged p w n t) ⊎ Within q t
  Within q t = q ≡ t

  pub WithinAll : Tree → Trees → Type 0
  WithinAll q no_item = ⊥
  WithinAll q (more t ts) = Within q t ⊎ WithinAll q ts

  pub WithinEntries : Tree → Entries → Type 0
  WithinEntries q no_entry = ⊥
  WithinEntries q (entry k v es) = Within q k ⊎ Within q v ⊎ WithinEntries q es

-- the node is no integer, or one of at most 64 bits, as each is that a head holds
abbrev pub IsWord : Tree → Type 0
IsWord (Uint p w n) = n < 2 ^ 64
IsWord (Nint p w n) = n < 2 ^ 64
IsWord _ = ⊤

-- both mean items, and these are the same
abbrev pub MeanSame : Tree → Tree → Type 0
MeanSame k l = (a : Value) × (b : Value) × Means k a × Means l b × Same a b

-- the key of one of these pairs, at this place, means the same as k
abbrev pub IsRepeated : Tree → Entries → ℕ → Type 0
IsRepeated k no_entry p = ⊥
IsRepeated k (entry l v es) p = ((p ≡ place l) × MeanSame k l) ⊎ IsRepeated k es p

-- a key at this place means the same as an earlier key
abbrev pub HasRepeat : Entries → ℕ → Type 0
HasRepeat no_entry p = ⊥
HasRepeat (entry k v es) p = IsRepeated k es p ⊎ HasRepeat es p

-- a chunk at this place is not UTF-8
abbrev pub HasBadChunk : List Chunk → ℕ → Type 0
HasBadChunk [] p = ⊥
HasBadChunk (c ∷ cs) p = ((p ≡ c.place) × (IsUtf8 c.bytes → ⊥)) ⊎ HasBadChunk cs p

-- what is wrong with a node itself
abbrev pub FlawAt : Tree → ℕ → InvalidReason → Type 0
FlawAt (Text q w b) p r = (p ≡ q) × (r ≡ NotUtf8) × (IsUtf8 b → ⊥)
FlawAt (TextChunks q cs) p r = (r ≡ NotUtf8) × HasBadChunk cs p
FlawAt (Tagged q w n t) p r = (p ≡ q) × (r ≡ BadBignum) × ((n ≡ 2) ⊎ (n ≡ 3)) × ((b : List ℕ) → IsByteString t b → ⊥)
FlawAt (Pairs q s es) p r = (r ≡ DuplicateKey) × HasRepeat es p
FlawAt _ p r = ⊥

-- something is wrong with a node at or below the root
abbrev pub Flaw : Tree → ℕ → InvalidReason → Type 0
Flaw root p r = (q : Tree) × Within q root × FlawAt q p r

-- no flaw has a lower place, or at this place a lower number
abbrev pub IsFirstFlaw : Tree → ℕ → InvalidReason → Type 0
IsFirstFlaw root = IsFirst flaw_rank (Flaw root)

-- what a refusal says of a node: its first flaw, unless memory was refused
abbrev pub IsRefusal : Tree → Invalid → Type 0
IsRefusal root (Refused p r) = IsFirstFlaw root p r
IsRefusal root OutOfMemory = ⊤

-- of a sequence: the first flaw of the first node that means nothing
abbrev pub IsRefusalOfAll : List Tree → Invalid → Type 0
IsRefusalOfAll [] invalid = invalid ≡ OutOfMemory
IsRefusalOfAll (t ∷ ts) invalid = IsRefusal t invalid ⊎ (((v : Value) × Means t v) × IsRefusalOfAll ts invalid)
