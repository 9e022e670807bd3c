-- A device of the proofs: the hint for a key in an order that is known.
use Rattle.std.specs.Prelude.{◌≡◌, ◌+◌, ◌*◌, ◌/◌, ◌^◌, ◌<◌, ◌∷◌, if◌then◌else◌}
use Rattle.cborn_judge.specs.Common.{ℕ, zero, suc, List, [], length, Option, None, Some, nat_lt, Ordering, Less, AreBytes, KnownOrder}

-- the big-endian number of the first n bytes, as if zeros followed
abbrev pub front_of : ℕ → List ℕ → ℕ
front_of zero x = 0
front_of (suc n) [] = 0
front_of (suc n) (b ∷ x) = b * 256 ^ n + front_of n x

-- the length up to 255, and below it the first seven bytes
abbrev pub length_hint : List ℕ → ℕ
length_hint x = if nat_lt (length x) 255 then length x * 2 ^ 56 + front_of 8 x / 256 else 255 * 2 ^ 56

abbrev pub hint_of : Option KnownOrder → List ℕ → ℕ
hint_of None x = 0
hint_of (Some KnownOrder.Bytewise) x = front_of 8 x
hint_of (Some KnownOrder.LengthFirst) x = length_hint x

-- keys rise as their hints do, where these differ
abbrev pub Tells : (List ℕ → List ℕ → Ordering) → (List ℕ → ℕ) → Type 0
Tells order hint = (k l : List ℕ) → AreBytes k → AreBytes l → hint k < hint l → order k l ≡ Less
