-- What a node means, as an item of the extended generic data model (RFC 8949 sections 2, 3.4.3 and 5.3).
use Rattle.std.specs.Prelude.{◌≡◌, ◌≢◌, ◌⊎◌}
use Rattle.cborn_model.specs.Common.{ℕ, Bool, true, false, List, IsUtf8, ⊤, flat_map, AllByRecursion}
use Rattle.cborn_model.specs.declared.nodes.Chunk.{Chunk}
use Rattle.cborn_model.specs.Bytes.{AreBytes, big_endian, IsShortest}
use Rattle.cborn_model.specs.Value.{Value, Values, Couples, integer, bytes, text, array, dict, tagged, simple, no_values, value, no_pairs, pair}
use Rattle.cborn_model.specs.Valid.{HasNewKeys}
use Rattle.cborn_model.specs.Tree.{Tree, Uint, Nint, Bytes, Text, ByteChunks, TextChunks, Items, Pairs, Tagged, Simple, Trees, no_item, more, Entries, no_entry, entry}

-- the bytes of the chunks, one after another
abbrev pub joined_chunks : List Chunk → List ℕ
joined_chunks = flat_map (λ c. c.bytes)

-- the integer n, or -1 - n where negative, with a magnitude without leading zeros
abbrev pub IsNumber : Bool → ℕ → Value → Type 0
IsNumber negative n v = (m : List ℕ) × AreBytes m × IsShortest m × (big_endian m ≡ n) × (v ≡ integer negative m)

-- b is the content of this byte string, whole or in chunks
abbrev pub IsByteString : Tree → List ℕ → Type 0
IsByteString (Bytes p w c) b = b ≡ c
IsByteString (ByteChunks p cs) b = b ≡ joined_chunks cs
IsByteString _ b = ⊥

-- a bignum's bytes are the big-endian number, and may have leading zeros
abbrev pub IsBignum : Bool → Tree → Value → Type 0
IsBignum negative t v = (b : List ℕ) × IsByteString t b × IsNumber negative (big_endian b) v

-- each chunk by itself is UTF-8
abbrev pub ChunksAreText : List Chunk → Type 0
ChunksAreText = AllByRecursion (λ c. IsUtf8 c.bytes)

abbrev mutual
  pub Means : Tree → Value → Type 0
  Means (Uint p w n) v = IsNumber false n v
  Means (Nint p w n) v = IsNumber true n v
  Means (Bytes p w b) v = v ≡ bytes b
  Means (Text p w b) v = IsUtf8 b × (v ≡ text b)
  Means (ByteChunks p cs) v = v ≡ bytes (joined_chunks cs)
  Means (TextChunks p cs) v = ChunksAreText cs × (v ≡ text (joined_chunks cs))
  Means (Items p s ts) v = (vs : Values) × AllMean ts vs × (v ≡ array vs)
  Means (Pairs p s es) v = (ps : Couples) × EntriesMean es ps × HasNewKeys ps × (v ≡ dict ps)
  Means (Tagged p w n t) v =
      ((n ≡ 2) × IsBignum false t v)
      ⊎ ((n ≡ 3) × IsBignum true t v)
      ⊎ ((n ≢ 2) × (n ≢ 3) × (u : Value) × Means t u × (v ≡ tagged n u))
  Means (Simple p n) v = v ≡ simple n

  -- the meanings in order
  pub AllMean : Trees → Values → Type 0
  AllMean no_item no_values = ⊤
  AllMean (more t ts) (value v vs) = Means t v × AllMean ts vs
  AllMean _ _ = ⊥

  pub EntriesMean : Entries → Couples → Type 0
  EntriesMean no_entry no_pairs = ⊤
  EntriesMean (entry k v es) (pair a b ps) = Means k a × Means v b × EntriesMean es ps
  EntriesMean _ _ = ⊥
