-- A device of the proofs: what an encoder holds of a partial sequence. Each node that is whole either means something, and then its encoding stands in the buffer, or means nothing. Of public contracts that of `Encoder` alone cites it.
use Rattle.std.specs.Prelude.{◌≡◌, ◌≢◌, ◌+◌, ◌^◌, ◌⊎◌, ◌||◌, ◌∷◌, ◌++◌, ◌%◌, ◌==◌}
use Rattle.cborn_judge.specs.Common.{ℕ, List, [], map, length, Bool, true, false, Option, None, Some, IsPermutation, ⊤, not, AllZip, AllByRecursion, Ordering, Less, InvalidReason, DuplicateKey, DefectReason, KeyOrder, EndlessLength, Major, ByteString, TextString, Array, Map, Tag, Other, StringKind, OfBytes, OfText, IsLeastHead, Means, joined_chunks, Tree, Tagged, trees, entries, place, Partial, top, inside, Opening, an_array, a_map, a_tag, in_chunks, paired, last_of, chunks_of, ended_size, Value, IsProper, Rising, Det, DetSeq, Entry, joined, keys, Container, Level}
use Rattle.cborn_judge.specs.declared.defects.Defect as defect
use Rattle.cborn_judge.specs.Flaws.{WithinAll, FlawAt}
use Rattle.cborn_judge.specs.Defects.{DefectAt}
use Rattle.cborn_judge.specs.Departures.{FindsDefect, LongAt}
use Rattle.cborn_judge.specs.shared.Checked.{DescentAt, SizeAt, LooseAt}
use Rattle.cborn_judge.specs.shared.Judged.{FindsFlaw, RepeatFlaw}
use Rattle.cborn_judge.specs.declared.faults.Flaw as flaw

abbrev pub MeansNothing : Tree → Type 0
MeansNothing t = (v : Value) → Means t v → ⊥

-- ---- a map whose pairs lie one after another

-- a key and its value: the place of the key, and the two encodings, each empty if the node means nothing; so is that of a value that is missing yet
abbrev pub Row : Type 0
Row = ℕ × List ℕ × List ℕ

abbrev pub row_entry : Row → Entry
row_entry r = (r.1, r.2)

abbrev pub row_entries : List Row → List Entry
row_entries = map row_entry

-- where a key and its value lie: the place of the key in the input, and where in the buffer the key begins, where it ends, and where the value ends
abbrev pub Mark : Type 0
Mark = ℕ × ℕ × ℕ × ℕ

-- rows that lie one after another from p on are marked
abbrev pub AreMarked : ℕ → List Row → List Mark → Type 0
AreMarked p [] [] = ⊤
AreMarked p (r ∷ rs) (m ∷ ms) = (m ≡ (r.0, p, p + length r.1, p + length r.1 + length r.2)) × AreMarked (p + length r.1 + length r.2) rs ms
AreMarked p _ _ = ⊥

-- a row with a key at this place follows one with the same key, which means something
abbrev pub IsSameKey : List ℕ → List Row → ℕ → Type 0
IsSameKey k [] p = ⊥
IsSameKey k (r ∷ rs) p = ((p ≡ r.0) × (r.1 ≡ k)) ⊎ IsSameKey k rs p

abbrev pub HasSameKeys : List Row → ℕ → Type 0
HasSameKeys [] p = ⊥
HasSameKeys (r ∷ rs) p = ((r.1 ≢ []) × IsSameKey r.1 rs p) ⊎ HasSameKeys rs p

abbrev pub RowRepeat : List Row → ℕ → InvalidReason → Type 0
RowRepeat rs p r = (r ≡ DuplicateKey) × HasSameKeys rs p

-- each key and each value means something
abbrev pub AreFilled : List Row → Type 0
AreFilled = AllByRecursion (λ (r : Row). (r.1 ≢ []) × (r.2 ≢ []))

-- the keys that mean something
abbrev pub filled_keys : List Row → List (List ℕ)
filled_keys [] = []
filled_keys ((p, [], v) ∷ rs) = filled_keys rs
filled_keys ((p, b ∷ bs, v) ∷ rs) = (b ∷ bs) ∷ filled_keys rs

module _ (order : List ℕ → List ℕ → Ordering) where
  -- the key at this place isn't above the one right before it
  abbrev pub Falls : List ℕ → List Row → ℕ → Type 0
  Falls k [] p = ⊥
  Falls k (r ∷ rs) p = ((p ≡ r.0) × (order k r.1 ≢ Less)) ⊎ Falls r.1 rs p

  abbrev pub HasFall : List Row → ℕ → Type 0
  HasFall [] p = ⊥
  HasFall (r ∷ rs) p = Falls r.1 rs p

  abbrev pub RowDescent : List Row → ℕ → DefectReason → Type 0
  RowDescent rs p r = (r ≡ KeyOrder) × HasFall rs p

  -- in a buffer in which rows lie from p on, which have these marks, their descent was found; without one their keys rise
  abbrev pub FindsDescent : ℕ → List Mark → List ℕ → Option defect.Defect → Type 0
  FindsDescent p ms b o = (y : List ℕ) (rs : List Row) → p ≡ length y → b ≡ y ++ joined (row_entries rs) → AreMarked p rs ms → (o ≡ None → Rising order (filled_keys rs)) × (AreFilled rs → FindsDefect (RowDescent rs) o)

  -- the rows' pairs so arranged that their keys rise
  abbrev pub AreArranged : List Row → List ℕ → Type 0
  AreArranged rs x = (fs : List Entry) × IsPermutation (row_entries rs) fs × Rising order (keys fs) × (x ≡ joined fs)

  -- ---- what the nodes in a container are encoded as

  -- x is the encoding of what the node means
  abbrev pub IsEncodedAs : Tree → List ℕ → Type 0
  IsEncodedAs t x = (v : Value) × Means t v × IsProper v × Det order v x

  -- or it is empty, and the node means nothing
  abbrev pub Coded : Tree → List ℕ → Type 0
  Coded t x = IsEncodedAs t x ⊎ ((x ≡ []) × MeansNothing t)

  -- the encodings of what the nodes mean, one after another
  abbrev pub AreEncodedAs : List Tree → List ℕ → Type 0
  AreEncodedAs ts x = (vs : List Value) × AllZip Means ts vs × AllByRecursion IsProper vs × DetSeq order vs x

  -- the rows of keys and values in turn, of which the last value may be missing
  abbrev pub AreRows : List Tree → List Row → Type 0
  AreRows [] [] = ⊤
  AreRows (k ∷ []) (r ∷ []) = (r.0 ≡ place k) × Coded k r.1 × (r.2 ≡ [])
  AreRows (k ∷ v ∷ ts) (r ∷ rs) = (r.0 ≡ place k) × Coded k r.1 × Coded v r.2 × AreRows ts rs
  AreRows _ _ = ⊥

-- one of them means nothing exactly if it is flawed
abbrev pub IsSound : Bool → List Tree → Type 0
IsSound false ts = (vs : List Value) × AllZip Means ts vs
IsSound true ts = (vs : List Value) → AllZip Means ts vs → ⊥

-- whether the number of nodes is odd
abbrev pub is_odd : List Tree → Bool
is_odd [] = false
is_odd (t ∷ ts) = not (is_odd ts)

-- ---- containers

abbrev pub kind_major : StringKind → Major
kind_major OfBytes = ByteString
kind_major OfText = TextString

-- the major type of a container's head, and the argument if that is known from the start; the input has none
abbrev pub head_of : Container → Major × Option ℕ
head_of Container.Input = (Other, None)
head_of (Container.Array s c) = (Array, c)
head_of (Container.Map s c) = (Map, c)
head_of (Container.Tag w n) = (Tag, Some n)
head_of (Container.Chunks k) = (kind_major k, None)

-- the level of a container in which nothing stands yet
abbrev pub opened : Container → ℕ → ℕ → ℕ → Level
opened a place start pairs = record { container = a; place = place; start = start; content = start; pairs = pairs; count = 0; flawed = false }

-- the level with one more whole node
abbrev pub after : Level → Bool → Level
after l bad = record l { count = (l.count + 1) % 2 ^ 64; flawed = l.flawed || bad }

-- a key came whose value is missing, if it is a map
abbrev pub has_key : Level → Bool
has_key l = l.count % 2 == 1

-- the level of an array with so many more items
abbrev pub after_items : Level → ℕ → Level
after_items l n = record l { count = (l.count + n) % 2 ^ 64 }

abbrev pub are_chunks : Container → Bool
are_chunks (Container.Chunks k) = true
are_chunks _ = false

abbrev pub is_chunks : Level → Bool
is_chunks l = are_chunks l.container

-- a key or, after one, a value was marked, if it is one of a map
abbrev pub IsMarked : Container → Bool → Mark → List Mark → List Mark → Type 0
IsMarked (Container.Map s c) false m old new = new ≡ old ++ m ∷ []
IsMarked (Container.Map s c) true m old new = (ms : List Mark) (p b k n : ℕ) → old ≡ ms ++ (p, b, k, n) ∷ [] → new ≡ ms ++ (p, b, k, m.3) ∷ []
IsMarked _ has_key m old new = new ≡ old

-- what is open at this place
abbrev pub IsOpening : Container → ℕ → Opening → Type 0
IsOpening a q (an_array p s c) = (q ≡ p) × (a ≡ Container.Array s c)
IsOpening a q (a_map p s c) = (q ≡ p) × (a ≡ Container.Map s c)
IsOpening a q (a_tag p w n) = (q ≡ p) × (a ≡ Container.Tag w n)
IsOpening a q (in_chunks p k) = (q ≡ p) × (a ≡ Container.Chunks k)

abbrev pub Opens : Level → Opening → Type 0
Opens l o = IsOpening l.container l.place o

-- what stands in the buffer of a head: the head if its argument is known, else one byte that is replaced by it
abbrev pub IsHeadFront : ℕ → Option ℕ → List ℕ → Type 0
IsHeadFront major (Some n) h = IsLeastHead major n h
IsHeadFront major None h = length h ≡ 1

-- what stands in the buffer before the contents
abbrev pub IsFront : Opening → List ℕ → Type 0
IsFront (an_array p s c) h = IsHeadFront 4 c h
IsFront (a_map p s c) h = IsHeadFront 5 c h
IsFront (a_tag p w n) h = IsLeastHead 6 n h
IsFront (in_chunks p k) h = length h ≡ 1

module _ (order : List ℕ → List ℕ → Ordering) where
  -- x are the contents of a container, and these the marks of its pairs
  abbrev pub Contains : Level → Opening → List Tree → List Mark → List ℕ → Type 0
  Contains l (an_array p s c) ts ms x = (ms ≡ []) × (l.flawed ≡ false → AreEncodedAs order ts x × (l.count ≡ length ts))
  Contains l (a_map p s c) ts ms x = (has_key l ≡ is_odd ts) × (rs : List Row) × AreRows order ts rs × AreMarked l.content rs ms × (x ≡ joined (row_entries rs))
  Contains l (a_tag p w n) ts ms x = (ms ≡ []) × (l.flawed ≡ false → AreEncodedAs order ts x)
  Contains l (in_chunks p k) ts ms x = (ms ≡ []) × (l.flawed ≡ false → x ≡ joined_chunks (chunks_of ts))

  -- z is what stands in the buffer of a container
  pub record Inner (l : Level) (o : Opening) (ts : List Tree) (ms : List Mark) (z : List ℕ) : Type 0 where
    pub front : List ℕ
    pub contents : List ℕ
    pub whole : z ≡ front ++ contents
    pub opens : Opens l o
    pub begins : IsFront o front
    pub content : l.content ≡ l.start + length front
    pub sound : IsSound l.flawed ts
    pub contains : Contains l o ts ms contents

  -- what stands in the buffer of a partial sequence: the levels around the innermost, the outermost first, the innermost, the marks of all, and the bytes
  abbrev pub Stands : List Level → Level → Partial → List Mark → List ℕ → Type 0
  Stands outer l (top ts) ms y = (outer ≡ []) × (ms ≡ []) × (l.container ≡ Container.Input) × IsSound l.flawed ts × (l.flawed ≡ false → AreEncodedAs order ts y)
  Stands outer l (inside f o ts) ms y =
      (os : List Level) × (m : Level) × (x : List ℕ) × (z : List ℕ) × (ns : List Mark) × (own : List Mark)
      × (outer ≡ os ++ m ∷ []) × (y ≡ x ++ z) × (ms ≡ ns ++ own) × (l.start ≡ length x) × (l.pairs ≡ length ns)
      × Stands os m f ns x × Inner l o ts own z

-- ---- flaws and defects

-- what is wrong with the nodes that are whole, at whatever level
module _ {R : Type 0} (at : Tree → ℕ → R → Type 0) where
  abbrev pub Amid : Partial → ℕ → R → Type 0
  Amid (top ts) p r = (q : Tree) × WithinAll q (trees ts) × at q p r
  Amid (inside f o ts) p r = Amid f p r ⊎ ((q : Tree) × WithinAll q (trees ts) × at q p r)

-- what a container adds when it ends
abbrev pub OwnFlaw : Opening → List Tree → ℕ → InvalidReason → Type 0
OwnFlaw (a_map p s c) ts q r = RepeatFlaw (entries (paired ts)) q r
OwnFlaw (a_tag p w n) ts q r = FlawAt (Tagged p w n (last_of ts)) q r
OwnFlaw _ ts q r = ⊥

module _ (order : List ℕ → List ℕ → Ordering) where
  abbrev pub OwnDefect : Opening → List Tree → ℕ → DefectReason → Type 0
  OwnDefect (an_array p s c) ts q r = SizeAt p (ended_size s c (length ts)) (length ts) q r
  OwnDefect (a_map p s c) ts q r = SizeAt p (ended_size s c (length (paired ts))) (length (paired ts)) q r ⊎ DescentAt order (entries (paired ts)) q r
  OwnDefect (a_tag p w n) ts q r = LongAt p w n q r ⊎ LooseAt p n (last_of ts) q r
  OwnDefect (in_chunks p k) ts q r = (q ≡ p) × (r ≡ EndlessLength)

  -- the first flaw, and the first defect if there is no flaw
  abbrev pub Finds : Partial → Option flaw.Flaw → Option defect.Defect → Type 0
  Finds f bad loose = FindsFlaw (Amid FlawAt f) bad × (bad ≡ None → FindsDefect (Amid (DefectAt order) f) loose)
