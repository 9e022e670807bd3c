-- A device of the proofs: complete items, and what is open after them, as the machine finds them in what it took; each with its offset. No definition cites it.
use Rattle.std.specs.Prelude.{◌≡◌, ℕ, ◌+◌, ◌≤◌, List, [], ◌∷◌, length}
use Rattle.cborn_model.specs.Partial.{Opening, an_array, a_map, a_tag, in_chunks}
use Rattle.cborn_model.specs.Tree.{Trees, trees, depth_all}
use Rattle.cborn_model.specs.Spelled.{spelled_all, FitsAll}
use Rattle.cborn_model.specs.Placed.{PlacedAll}
use Rattle.cborn_wire.specs.Slots.{OpenContainer, opened, opening, beginnings, AreOpen}

-- the offset of its head
abbrev pub place_of : Opening → ℕ
place_of (an_array p s c) = p
place_of (a_map p s c) = p
place_of (a_tag p w n) = p
place_of (in_chunks p k) = p

-- the offsets of what is open

abbrev pub IsPlacedOpen : ℕ → OpenContainer → Type 0
IsPlacedOpen p (opened o ts) = (place_of o ≡ p) × PlacedAll (p + length (opening o)) (trees ts)

abbrev pub ArePlacedOpen : ℕ → List OpenContainer → Type 0
ArePlacedOpen p [] = Unit {0}
ArePlacedOpen p (o ∷ os) = IsPlacedOpen (p + length (beginnings os)) o × ArePlacedOpen p os

-- the complete items and what is open begin at base, and are within the limit
pub record Ground (limit base : ℕ) (ready : Trees) (os : List OpenContainer) : Type 0 where
  pub fit : FitsAll ready
  pub shallow : depth_all ready ≤ limit
  pub placed : PlacedAll base ready
  pub are_open : AreOpen limit os
  pub open_placed : ArePlacedOpen (base + length (spelled_all ready)) os
