-- A device of the proofs: the marks that are kept of pairs, and what is read and found where they lie. Only devices cite it.
use Rattle.std.specs.Prelude.{◌≡◌, ◌≢◌, ◌-◌, ◌⊎◌, ◌∷◌, ◌||◌, Bool, nat_lt}
use Rattle.cborn_judge.specs.Common.{ℕ, List, [], map, take, drop, nat_cmp, ordering_then, is_lt, AllByRecursion, IsSortedBy, Ordering, Less, DefectReason, KeyOrder, InvalidReason, DuplicateKey, Mark, NarrowMark, Marks, Narrow, Wide}
use Rattle.cborn_judge.specs.devices.Hints.{Tells}
use Rattle.cborn_judge.specs.devices.Encoding as encoding
use Rattle.cborn_judge.specs.devices.Encoding.{Row}
use Rattle.cborn_judge.specs.declared.pairs.Pairs.{Pairs}

abbrev pub mark_of : Mark → encoding.Mark
mark_of m = (m.place, m.start, m.middle, m.end)

abbrev pub narrow_of : NarrowMark → encoding.Mark
narrow_of m = (m.place, m.start, m.middle, m.end)

abbrev pub all_marks : Marks → List encoding.Mark
all_marks (Narrow ms) = map narrow_of ms.items
all_marks (Wide ms) = map mark_of ms.items

abbrev pub marks_of : Pairs → List encoding.Mark
marks_of p = all_marks p.marks

abbrev pub mark_hint : Mark → ℕ
mark_hint m = m.hint

abbrev pub narrow_hint : NarrowMark → ℕ
narrow_hint m = m.hint

-- ---- what lies where the marks say

abbrev pub between : ℕ → ℕ → List ℕ → List ℕ
between start end b = take (end - start) (drop start b)

abbrev pub key_of : List ℕ → encoding.Mark → List ℕ
key_of b m = between m.1 m.2 b

abbrev pub pair_of : List ℕ → encoding.Mark → List ℕ
pair_of b m = between m.1 m.3 b

abbrev pub row_of : List ℕ → encoding.Mark → Row
row_of b m = (m.0, between m.1 m.2 b, between m.2 m.3 b)

-- ---- hints that are kept

module _ {S : Type 0} (hinted : S → ℕ) where
  module _ (seen : S → encoding.Mark) where
    -- each is the hint for the key
    abbrev pub AreHintedBy : (List ℕ → ℕ) → List ℕ → List S → Type 0
    AreHintedBy hint b = AllByRecursion (λ s. hinted s ≡ hint (key_of b (seen s)))

    abbrev pub AreHinted : (List ℕ → List ℕ → Ordering) → List ℕ → List S → Type 0
    AreHinted order b ss = (hint : List ℕ → ℕ) × Tells order hint × AreHintedBy hint b ss

    -- the second has the higher hint, or else the key that is above the other's
    abbrev pub is_above : (List ℕ → List ℕ → Ordering) → List ℕ → S → S → Bool
    is_above order b s t = nat_lt (hinted s) (hinted t) || is_lt (order (key_of b (seen s)) (key_of b (seen t)))

-- so it is of the marks from an index on
abbrev pub AreAllHinted : (List ℕ → List ℕ → Ordering) → List ℕ → ℕ → Marks → Type 0
AreAllHinted order b from (Narrow ms) = AreHinted narrow_hint narrow_of order b (drop from ms.items)
AreAllHinted order b from (Wide ms) = AreHinted mark_hint mark_of order b (drop from ms.items)

-- ---- what is found where keys follow one another

-- a key and its place
abbrev pub Keyed : Type 0
Keyed = ℕ × List ℕ

abbrev pub keyed : List ℕ → encoding.Mark → Keyed
keyed b m = (m.0, key_of b m)

abbrev pub all_keyed : List ℕ → List encoding.Mark → List Keyed
all_keyed b = map (keyed b)

-- Here k l q p says that a key l at the place q, after k, is found at p, and next what is remembered of the two.
module _ (Here : List ℕ → List ℕ → ℕ → ℕ → Type 0) (next : List ℕ → List ℕ → List ℕ) where
  abbrev pub Met : List ℕ → List Keyed → ℕ → Type 0
  Met k [] p = ⊥
  Met k (x ∷ xs) p = Here k x.1 x.0 p ⊎ Met (next k x.1) xs p

  abbrev pub remembered : List ℕ → List Keyed → List ℕ
  remembered k [] = k
  remembered k (x ∷ xs) = remembered (next k x.1) xs

-- neither is empty, and the key isn't above the one before it
abbrev pub IsFall : (List ℕ → List ℕ → Ordering) → List ℕ → List ℕ → ℕ → ℕ → Type 0
IsFall order k l q p = (k ≢ []) × (l ≢ []) × (p ≡ q) × (order k l ≢ Less)

-- the last of two keys that isn't empty
abbrev pub last_filled : List ℕ → List ℕ → List ℕ
last_filled k [] = k
last_filled k (b ∷ bs) = b ∷ bs

-- the key isn't empty, and is the same as the one before it
abbrev pub IsTie : List ℕ → List ℕ → ℕ → ℕ → Type 0
IsTie k l q p = (l ≢ []) × (k ≡ l) × (p ≡ q)

abbrev pub last_key : List ℕ → List ℕ → List ℕ
last_key k l = l

abbrev pub FallAt : (List ℕ → List ℕ → Ordering) → List ℕ → List ℕ → ℕ → ℕ → DefectReason → Type 0
FallAt order k l q p r = (r ≡ KeyOrder) × IsFall order k l q p

abbrev pub FallsIn : (List ℕ → List ℕ → Ordering) → List ℕ → List encoding.Mark → ℕ → DefectReason → Type 0
FallsIn order b ms p r = (r ≡ KeyOrder) × Met (IsFall order) last_filled [] (all_keyed b ms) p

abbrev pub TieAt : List ℕ → List ℕ → ℕ → ℕ → InvalidReason → Type 0
TieAt k l q p r = (r ≡ DuplicateKey) × IsTie k l q p

abbrev pub TiesIn : List ℕ → List encoding.Mark → ℕ → InvalidReason → Type 0
TiesIn b ms p r = (r ≡ DuplicateKey) × Met IsTie last_key [] (all_keyed b ms) p

-- sorted by the keys, and at equal keys by where they begin
abbrev pub mark_order : (List ℕ → List ℕ → Ordering) → List ℕ → encoding.Mark → encoding.Mark → Ordering
mark_order order b x y = ordering_then (order (key_of b x) (key_of b y)) (nat_cmp x.1 y.1)

abbrev pub AreSorted : (List ℕ → List ℕ → Ordering) → List ℕ → List encoding.Mark → Type 0
AreSorted order b = IsSortedBy (λ x y. is_lt (mark_order order b x y))
