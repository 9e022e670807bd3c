-- What may come next: the slots, and the fronts of inputs that end at one.
use Rattle.std.specs.Prelude.{◌≡◌, ℕ, ◌+◌, ◌≤◌, List, [], ◌∷◌, ◌++◌, Option, Some, None}
pub use Rattle.cborn_model.specs.declared.visitors.StringKind.{StringKind}
pub use Rattle.cborn_model.specs.declared.visitors.StringKind.TheVariants.{OfBytes, OfText}
use Rattle.cborn_model.specs.declared.heads.Size.{Size}
use Rattle.cborn_model.specs.declared.heads.Size.TheVariants.{Fixed, Endless}
use Rattle.cborn_model.specs.declared.heads.Major.{Major}
use Rattle.cborn_model.specs.declared.heads.Major.TheVariants.{ByteString, TextString, Array, Map, Tag}
use Rattle.cborn_model.specs.Heads.{WidthFits, Argument, Given, EndlessArgument, head}
use Rattle.cborn_model.specs.Tree.{Tree, Trees, trees, depth_all}
use Rattle.cborn_model.specs.Spelled.{spelled_all, FitsAll}
use Rattle.cborn_model.specs.Partial.{Opening, an_array, a_map, a_tag, in_chunks, last_key, Goes}

abbrev pub major_of : StringKind → Major
major_of OfBytes = ByteString
major_of OfText = TextString

-- Where a head is. `item`: at the top, in a definite array, as a key of a definite map, as a tag's content. `value`: a map's value, in either kind of map. `element_or_end`: in an indefinite array. `key_or_end`: a key of an indefinite map. `chunk`: in an indefinite string.
pub data Slot : Type 0 where
  item value element_or_end key_or_end : Slot
  chunk : StringKind → Slot

-- An open container with the nodes that are whole in it: its head was read, and its end wasn't.
pub data OpenContainer : Type 0 where
  opened : Opening → List Tree → OpenContainer

-- the argument in the head of an array or a map
abbrev pub announced : Size → Option ℕ → Argument
announced (Fixed w) (Some n) = Given w n
announced s c = EndlessArgument

-- the bytes of the head that opens it (RFC 8949 sections 3.1 to 3.4)
abbrev pub opening : Opening → List ℕ
opening (an_array p s c) = head Array (announced s c)
opening (a_map p s c) = head Map (announced s c)
opening (a_tag p w n) = head Tag (Given w n)
opening (in_chunks p k) = head (major_of k) EndlessArgument

-- the bytes that it has so far
abbrev pub beginning : OpenContainer → List ℕ
beginning (opened o ts) = opening o ++ spelled_all (trees ts)

-- one inside another, the innermost first
abbrev pub beginnings : List OpenContainer → List ℕ
beginnings [] = []
beginnings (o ∷ os) = beginnings os ++ beginning o

-- in a map, by its number of pairs, if that is known, and the key whose value is missing
abbrev pub slot_in_map : Option ℕ → Option Tree → Slot
slot_in_map c (Some k) = value
slot_in_map (Some n) None = item
slot_in_map None None = key_or_end

abbrev pub slot_in : OpenContainer → Slot
slot_in (opened (an_array p s None) ts) = element_or_end
slot_in (opened (a_map p s c) ts) = slot_in_map c (last_key ts)
slot_in (opened (in_chunks p k) ts) = chunk k
slot_in _ = item

abbrev pub slot : List OpenContainer → Slot
slot [] = item
slot (o ∷ os) = slot_in o

-- how much it adds to the nesting depth
abbrev pub added_depth : Opening → ℕ
added_depth (in_chunks p k) = 0
added_depth _ = 1

-- how many arrays, maps and tags are open
abbrev pub open_depth : List OpenContainer → ℕ
open_depth [] = 0
open_depth (opened o ts ∷ os) = added_depth o + open_depth os

-- The head says a number that fits it, or that the length is indefinite.
abbrev pub Announces : Size → Option ℕ → Type 0
Announces (Fixed w) (Some n) = WidthFits w n
Announces Endless None = Unit {0}
Announces s c = ⊥

abbrev pub HeadFits : Opening → Type 0
HeadFits (an_array p s c) = Announces s c
HeadFits (a_map p s c) = Announces s c
HeadFits (a_tag p w n) = WidthFits w n
HeadFits (in_chunks p k) = Unit {0}

-- the innermost is no indefinite string
abbrev pub IsNoString : List OpenContainer → Type 0
IsNoString (opened (in_chunks p k) ts ∷ os) = ⊥
IsNoString _ = Unit {0}

-- This may be open inside k arrays, maps and tags: it is spelled by bytes, more is to come or may come, and nothing in it is too deep.
abbrev pub MayBegin : ℕ → ℕ → OpenContainer → Type 0
MayBegin limit k (opened o ts) = HeadFits o × Goes o ts × FitsAll (trees ts) × (added_depth o + k + depth_all (trees ts) ≤ limit)

-- each may be open inside those that follow it, and none is inside an indefinite string
abbrev pub AreOpen : ℕ → List OpenContainer → Type 0
AreOpen limit [] = Unit {0}
AreOpen limit (o ∷ os) = MayBegin limit (open_depth os) o × IsNoString os × AreOpen limit os

-- The front f of some input ends at the slot s inside k open arrays, maps and tags: it is complete items, and the beginnings of what is open at its end.
abbrev pub Open : ℕ → List ℕ → Slot → ℕ → Type 0
Open limit f s k = (ts : Trees) × (os : List OpenContainer) × FitsAll ts × (depth_all ts ≤ limit) × AreOpen limit os × (f ≡ spelled_all ts ++ beginnings os) × (s ≡ slot os) × (k ≡ open_depth os)
