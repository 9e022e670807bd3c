-- Items of the generic data model (RFC 8949 section 2), extended by tags 2 and 3 (RFC 8949 section 3.4.3), as pure data, and when two are the same.
use Rattle.std.specs.Prelude.{◌≡◌, ◌∷◌}
use Rattle.cborn_model.specs.Common.{ℕ, ℤ, pos, negsuc, suc, max, Bool, true, false, List, [], IsPermutation, ⊤}
use Rattle.cborn_model.specs.Bytes.{big_endian}

-- An integer is its sign and the bytes of its magnitude, and a text its bytes in UTF-8.
mutual
  pub data Value : Type 0 where
    integer : Bool → List ℕ → Value
    bytes : List ℕ → Value
    text : List ℕ → Value
    array : Values → Value
    dict : Couples → Value
    tagged : ℕ → Value → Value
    simple : ℕ → Value

  pub data Values : Type 0 where
    no_values : Values
    value : Value → Values → Values

  -- the pairs of a map: a key and its value
  pub data Couples : Type 0 where
    no_pairs : Couples
    pair : Value → Value → Couples → Couples

abbrev pub values_of : List Value → Values
values_of [] = no_values
values_of (v ∷ vs) = value v (values_of vs)

abbrev pub pairs_of : List (Value × Value) → Couples
pairs_of [] = no_pairs
pairs_of (p ∷ ps) = pair p.0 p.1 (pairs_of ps)

abbrev pub listed : Couples → List (Value × Value)
listed no_pairs = []
listed (pair k v ps) = (k, v) ∷ listed ps

abbrev pub value_count : Values → ℕ
value_count no_values = 0
value_count (value v vs) = suc (value_count vs)

abbrev pub pair_count : Couples → ℕ
pair_count no_pairs = 0
pair_count (pair k v ps) = suc (pair_count ps)

-- n, or -1 - n where negative, n being the big-endian number of the magnitude
abbrev pub number : Bool → List ℕ → ℤ
number false magnitude = pos (big_endian magnitude)
number true magnitude = negsuc (big_endian magnitude)

-- Two items are the same (RFC 8949 sections 2, 3.4.3 and 5.6.1): integers by their number, arrays item by item, and maps where some rearrangement of the second's pairs is the same as the first's, pair by pair.
abbrev mutual
  pub Same : Value → Value → Type 0
  Same (integer s m) (integer t n) = number s m ≡ number t n
  Same (bytes b) (bytes c) = b ≡ c
  Same (text b) (text c) = b ≡ c
  Same (array vs) (array ws) = SameValues vs ws
  Same (dict ps) (dict qs) = (rs : List (Value × Value)) × IsPermutation (listed qs) rs × SamePairs ps rs
  Same (tagged t v) (tagged u w) = (t ≡ u) × Same v w
  Same (simple n) (simple m) = n ≡ m
  Same _ _ = ⊥

  -- of one length, and the same one by one
  pub SameValues : Values → Values → Type 0
  SameValues no_values no_values = ⊤
  SameValues (value v vs) (value w ws) = Same v w × SameValues vs ws
  SameValues _ _ = ⊥

  pub SamePairs : Couples → List (Value × Value) → Type 0
  SamePairs no_pairs [] = ⊤
  SamePairs (pair k v ps) (r ∷ rs) = Same k r.0 × Same v r.1 × SamePairs ps rs
  SamePairs _ _ = ⊥

-- The nesting depth with every integer at 0, by which recursions over an item go down.
abbrev mutual
  pub height : Value → ℕ
  height (integer s m) = 0
  height (bytes b) = 0
  height (text b) = 0
  height (array vs) = suc (height_all vs)
  height (dict ps) = suc (height_pairs ps)
  height (tagged t v) = suc (height v)
  height (simple n) = 0

  pub height_all : Values → ℕ
  height_all no_values = 0
  height_all (value v vs) = max (height v) (height_all vs)

  pub height_pairs : Couples → ℕ
  height_pairs no_pairs = 0
  height_pairs (pair k v ps) = max (max (height k) (height v)) (height_pairs ps)
