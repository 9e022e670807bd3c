-- Where the spelling of an item departs from its deterministic encoding (RFC 8949 section 4.2). The encoding of the whole is not mentioned.
use Rattle.std.specs.Prelude.{◌≡◌, ◌≢◌, ◌≤◌, ◌⊎◌, ◌∷◌}
use Rattle.cborn_judge.specs.Common.{ℕ, List, [], length, Option, None, Some, ⊤, Ordering, Less, Value, Values, Width, least, Det, Chunk, Size, Fixed, Endless, Tree, Uint, Nint, Bytes, Text, ByteChunks, TextChunks, Items, Pairs, Tagged, Simple, Trees, Entries, no_entry, entry, count, count_entries, place, IsByteString, Means, AllMean, IsFirst, spelled, DefectReason, LongHead, EndlessLength, LooseBignum, KeyOrder}
use Rattle.cborn_judge.specs.Flaws.{Within, WithinAll}
use Rattle.cborn_judge.specs.Reasons.{defect_rank}
use Rattle.cborn_judge.specs.declared.defects.Defect as defect

-- an argument's head that is not the shortest
abbrev pub IsLong : Width → ℕ → Type 0
IsLong w n = w ≢ least n

abbrev pub HasLongChunk : List Chunk → ℕ → Type 0
HasLongChunk [] p = ⊥
HasLongChunk (c ∷ cs) p = ((p ≡ c.place) × IsLong c.width (length c.bytes)) ⊎ HasLongChunk cs p

-- begins with a zero, or fits 64 bits
abbrev pub IsLoose : List ℕ → Type 0
IsLoose [] = ⊤
IsLoose (b ∷ bs) = (b ≡ 0) ⊎ (length (b ∷ bs) ≤ 8)

abbrev pub SizeDefect : Size → ℕ → DefectReason → Type 0
SizeDefect (Fixed w) n r = (r ≡ LongHead) × IsLong w n
SizeDefect Endless n r = r ≡ EndlessLength

abbrev pub ChunksDefect : ℕ → List Chunk → ℕ → DefectReason → Type 0
ChunksDefect q cs p r = ((p ≡ q) × (r ≡ EndlessLength)) ⊎ ((r ≡ LongHead) × HasLongChunk cs p)

module _ (order : List ℕ → List ℕ → Ordering) where
  -- the encoding of what l means is not above that of what k means
  abbrev pub NotAbove : Tree → Tree → Type 0
  NotAbove k l =
      (a : Value) × (b : Value) × (x : List ℕ) × (y : List ℕ)
      × Means k a × Means l b × Det order a x × Det order b y × (order x y ≢ Less)

  -- a key at this place is not above the key k before these pairs, or not above the one before it among them
  abbrev pub Descends : Tree → Entries → ℕ → Type 0
  Descends k no_entry p = ⊥
  Descends k (entry l v es) p = ((p ≡ place l) × NotAbove k l) ⊎ Descends l es p

  abbrev pub HasDescent : Entries → ℕ → Type 0
  HasDescent no_entry p = ⊥
  HasDescent (entry k v es) p = Descends k es p

  -- what departs at a node itself
  abbrev pub DefectAt : Tree → ℕ → DefectReason → Type 0
  DefectAt (Uint q w n) p r = (p ≡ q) × (r ≡ LongHead) × IsLong w n
  DefectAt (Nint q w n) p r = (p ≡ q) × (r ≡ LongHead) × IsLong w n
  DefectAt (Bytes q w b) p r = (p ≡ q) × (r ≡ LongHead) × IsLong w (length b)
  DefectAt (Text q w b) p r = (p ≡ q) × (r ≡ LongHead) × IsLong w (length b)
  DefectAt (ByteChunks q cs) p r = ChunksDefect q cs p r
  DefectAt (TextChunks q cs) p r = ChunksDefect q cs p r
  DefectAt (Items q s ts) p r = (p ≡ q) × SizeDefect s (count ts) r
  DefectAt (Pairs q s es) p r = ((p ≡ q) × SizeDefect s (count_entries es) r) ⊎ ((r ≡ KeyOrder) × HasDescent es p)
  DefectAt (Tagged q w n t) p r =
      (p ≡ q) × (((r ≡ LongHead) × IsLong w n) ⊎ ((r ≡ LooseBignum) × ((n ≡ 2) ⊎ (n ≡ 3)) × (b : List ℕ) × IsByteString t b × IsLoose b))
  DefectAt (Simple q n) p r = ⊥

  -- of a root that means an item
  abbrev pub Defect : Tree → ℕ → DefectReason → Type 0
  Defect root p r = (v : Value) × Means root v × (q : Tree) × Within q root × DefectAt q p r

  -- of a sequence that means items
  abbrev pub SequenceDefect : Trees → ℕ → DefectReason → Type 0
  SequenceDefect ts p r = (vs : Values) × AllMean ts vs × (q : Tree) × WithinAll q ts × DefectAt q p r

  -- no defect has a lower place, or at this place a lower number
  abbrev pub IsFirstDefect : Tree → ℕ → DefectReason → Type 0
  IsFirstDefect root = IsFirst defect_rank (Defect root)

  abbrev pub IsFirstOfSequence : Trees → ℕ → DefectReason → Type 0
  IsFirstOfSequence ts = IsFirst defect_rank (SequenceDefect ts)

  -- the node means an item, and spells its deterministic encoding
  abbrev pub IsDeterministic : Tree → Type 0
  IsDeterministic t = (v : Value) × Means t v × Det order v (spelled t)

  -- the first defect of a node that means an item, if it has one
  abbrev pub IsCheck : Tree → Option defect.Defect → Type 0
  IsCheck root None = ((v : Value) × Means root v) × ((p : ℕ) (r : DefectReason) → Defect root p r → ⊥)
  IsCheck root (Some d) = IsFirstDefect root d.place d.reason
