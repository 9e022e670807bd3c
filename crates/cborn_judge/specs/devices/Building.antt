-- A device of the proofs: what is built of nodes. No public contract cites it.
use Rattle.std.specs.Prelude.{◌≡◌, ◌⊎◌}
use Rattle.cborn_judge.specs.Common.{ℕ, List, Option, None, Some, item_value, IsByteString, Means, Tree, Tagged, Value, Width, Item}

-- the node means this item if it means any
abbrev pub IsItemOf : Tree → Item → Type 0
IsItemOf t item = (v : Value) → Means t v → item_value item ≡ v

abbrev pub IsPairOf : Tree × Tree → Item × Item → Type 0
IsPairOf n p = IsItemOf n.0 p.0 × IsItemOf n.1 p.1

-- the integer that a tag of this number and content means, or none if it is no bignum
abbrev pub IsBignumItem : ℕ → Tree → Option Item → Type 0
IsBignumItem n t None = (n ≡ 2) ⊎ (n ≡ 3) → (b : List ℕ) → IsByteString t b → ⊥
IsBignumItem n t (Some item) = (p : ℕ) (w : Width) → Means (Tagged p w n t) (item_value item)
