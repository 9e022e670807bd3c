-- What a search among the pairs of a map finds. A device of the comparison: no other definition cites it.
use Rattle.std.specs.Prelude.{◌≡◌, ◌⊎◌, ◌∷◌}
use Rattle.cborn_model.specs.Common.{List, []}
use Rattle.cborn_model.specs.Value.{Value, Same}

-- some pair has this key and this value, or ones that are the same
abbrev pub HasPair : Value × Value → List (Value × Value) → Type 0
HasPair p [] = ⊥
HasPair p (q ∷ qs) = (Same p.0 q.0 × Same p.1 q.1) ⊎ HasPair p qs

-- some pair with a key that is the same as k has the value v
abbrev pub Gives : Value → Value → List (Value × Value) → Type 0
Gives k v [] = ⊥
Gives k v (q ∷ qs) = (Same k q.0 × (v ≡ q.1)) ⊎ Gives k v qs
