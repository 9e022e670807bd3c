-- A device of the proofs: leaves that a visitor may take several at a time, as they are spelled. Of public contracts those of `Visitor`, and that of `integers_at` of cborn_wire, alone cite it.
use Rattle.std.specs.Prelude.{◌≡◌, ◌+◌, ◌∷◌, ◌++◌}
use Rattle.cborn_model.specs.Common.{ℕ, List, [], length, take, drop, None}
use Rattle.cborn_model.specs.Heads.{least}
use Rattle.cborn_model.specs.Tree.{Tree, Uint, Nint, Bytes, Text, Simple, place}
use Rattle.cborn_model.specs.Spelled.{spelled, Fits}
use Rattle.cborn_model.specs.Partial.{Partial, inside, an_array, a_map, put, last_key}
use Rattle.cborn_model.specs.declared.visitors.LeafPair.{LeafPair}

-- an integer, a string of definite length or a simple value, whose head is the shortest (RFC 8949 section 4.2.1)
abbrev pub HasShortHead : Tree → Type 0
HasShortHead (Uint p w n) = w ≡ least n
HasShortHead (Nint p w n) = w ≡ least n
HasShortHead (Bytes p w b) = w ≡ least (length b)
HasShortHead (Text p w b) = w ≡ least (length b)
HasShortHead (Simple p n) = Unit {0}
HasShortHead t = ⊥

abbrev pub IsInteger : Tree → Type 0
IsInteger (Uint p w n) = Unit {0}
IsInteger (Nint p w n) = Unit {0}
IsInteger t = ⊥

-- the content of a text; of another node nothing
abbrev pub text_in : Tree → List ℕ
text_in (Text p w b) = b
text_in t = []

-- the node at the offset p, which x spells
pub record IsShortLeaf (p : ℕ) (x : List ℕ) (t : Tree) : Type 0 where
  pub placed : place t ≡ p
  pub fits : Fits t
  pub short : HasShortHead t
  pub spells : spelled t ≡ x

-- integers one after another, the first at the offset p, which x spells
abbrev pub AreShortIntegers : ℕ → List ℕ → List Tree → Type 0
AreShortIntegers p x [] = x ≡ []
AreShortIntegers p x (t ∷ ts) = (y : List ℕ) × (z : List ℕ) × (x ≡ y ++ z) × IsInteger t × IsShortLeaf p y t × AreShortIntegers (p + length y) z ts

-- the key at the offset p and its value, which the pair spells
pub record IsShortPair (p : ℕ) (pair : LeafPair) (k v : Tree) : Type 0 where
  pub key : IsShortLeaf p (take pair.key_len pair.spelled.now) k
  pub value : IsShortLeaf (p + pair.key_len) (drop pair.key_len pair.spelled.now) v
  pub key_text : pair.key_text.now ≡ text_in k
  pub value_text : pair.value_text.now ≡ text_in v

-- these nodes are whole, too
abbrev pub puts : Partial → List Tree → Partial
puts f [] = f
puts f (t ∷ ts) = puts (put f t) ts

-- an item of an array is next
abbrev pub InArray : Partial → Type 0
InArray (inside f (an_array p s c) ts) = Unit {0}
InArray f = ⊥

-- a key is next
abbrev pub AtKey : Partial → Type 0
AtKey (inside f (a_map p s c) ts) = last_key ts ≡ None
AtKey f = ⊥
