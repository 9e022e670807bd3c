-- The deterministic encoding of an item (RFC 8949 section 4.2).
use Rattle.std.specs.Prelude.{◌≡◌, ◌^◌, ◌<◌, ◌≤◌, ◌⊎◌, ◌∷◌, ◌++◌}
use Rattle.cborn_det.specs.Common.{ℕ, Bool, true, false, List, [], map, flat_map, length, IsPermutation, IsTrue, ⊤, Ordering, big_endian, IsLeastHead, is_simple_value, Rising, Value, Values, Couples, integer, bytes, text, array, dict, tagged, simple, no_values, value, no_pairs, pair, value_count, pair_count, pairs_of, listed}

-- what a pair of a map encodes to: its key's bytes and its value's
abbrev pub Entry : Type 0
Entry = List ℕ × List ℕ

abbrev pub keys : List Entry → List (List ℕ)
keys = map (λ e. e.0)

abbrev pub joined : List Entry → List ℕ
joined = flat_map (λ e. e.0 ++ e.1)

-- x is the string b of the major type: its shortest head and its bytes
abbrev pub IsString : ℕ → List ℕ → List ℕ → Type 0
IsString major b x = (h : List ℕ) × IsLeastHead major (length b) h × (x ≡ h ++ b)

-- the major type of an integer within 64 bits: 1 if it is negative
abbrev pub major_of : Bool → ℕ
major_of false = 0
major_of true = 1

-- the tag of another integer: 3 if it is negative
abbrev pub bignum_tag : Bool → ℕ
bignum_tag false = 2
bignum_tag true = 3

-- Within 64 bits an integer is a head alone, and otherwise tag 2 or 3 over the bytes of its magnitude (RFC 8949 section 3.4.3).
abbrev pub IsInteger : Bool → List ℕ → List ℕ → Type 0
IsInteger s m x =
    ((big_endian m < 2 ^ 64) × IsLeastHead (major_of s) (big_endian m) x)
    ⊎ ((2 ^ 64 ≤ big_endian m) × (h : List ℕ) × (c : List ℕ) × IsLeastHead 6 (bignum_tag s) h × IsString 2 m c × (x ≡ h ++ c))

-- x is the deterministic encoding. Of a map it is a head and the pairs' encodings, so arranged that those of the keys rise (RFC 8949 sections 4.2.1 and 4.2.3).
abbrev mutual
  pub Det : (List ℕ → List ℕ → Ordering) → Value → List ℕ → Type 0
  Det order (integer s m) x = IsInteger s m x
  Det order (bytes b) x = IsString 2 b x
  Det order (text b) x = IsString 3 b x
  Det order (array vs) x = (h : List ℕ) × (c : List ℕ) × IsLeastHead 4 (value_count vs) h × DetValues order vs c × (x ≡ h ++ c)
  Det order (dict ps) x =
      (h : List ℕ) × (written : List Entry) × (arranged : List Entry) × IsLeastHead 5 (pair_count ps) h
      × DetPairs order ps written × IsPermutation written arranged × Rising order (keys arranged) × (x ≡ h ++ joined arranged)
  Det order (tagged t v) x = (h : List ℕ) × (c : List ℕ) × IsLeastHead 6 t h × Det order v c × (x ≡ h ++ c)
  Det order (simple n) x = IsTrue (is_simple_value n) × IsLeastHead 7 n x

  -- x is the encodings one after another
  pub DetValues : (List ℕ → List ℕ → Ordering) → Values → List ℕ → Type 0
  DetValues order no_values x = x ≡ []
  DetValues order (value v vs) x = (a : List ℕ) × (b : List ℕ) × Det order v a × DetValues order vs b × (x ≡ a ++ b)

  -- the entries are the encodings of each pair's key and value
  pub DetPairs : (List ℕ → List ℕ → Ordering) → Couples → List Entry → Type 0
  DetPairs order no_pairs [] = ⊤
  DetPairs order (pair k v ps) (e ∷ es) = Det order k e.0 × Det order v e.1 × DetPairs order ps es
  DetPairs order _ _ = ⊥

-- the encodings of a sequence, one after another
abbrev pub DetSeq : (List ℕ → List ℕ → Ordering) → List Value → List ℕ → Type 0
DetSeq order [] x = x ≡ []
DetSeq order (v ∷ vs) x = (a : List ℕ) × (b : List ℕ) × Det order v a × DetSeq order vs b × (x ≡ a ++ b)

-- The encoding of a map by its pairs: its head, and the encodings of the pairs, rearranged so that those of the keys rise. The law `by_pairs` says that Det agrees.
abbrev pub DetMap : (List ℕ → List ℕ → Ordering) → Couples → List ℕ → Type 0
DetMap order ps x =
    (h : List ℕ) × (qs : List (Value × Value)) × (es : List Entry) × IsLeastHead 5 (pair_count ps) h
    × IsPermutation (listed ps) qs × DetPairs order (pairs_of qs) es × Rising order (keys es) × (x ≡ h ++ joined es)
