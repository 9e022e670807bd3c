-- Bytes, and the whole number that a list of them writes (RFC 8949 sections 3 and 3.4.3).
use Rattle.std.specs.Prelude.{◌+◌, ◌*◌, ◌^◌, ◌<◌, ◌∷◌}
use Rattle.cborn_model.specs.Common.{ℕ, List, [], length, ⊤, AllByRecursion}

-- A byte is a whole number from 0 to 255.
abbrev pub AreBytes : List ℕ → Type 0
AreBytes = AllByRecursion (λ b. b < 256)

-- the number with these big-endian bytes
abbrev pub big_endian : List ℕ → ℕ
big_endian [] = 0
big_endian (b ∷ bs) = b * 256 ^ length bs + big_endian bs

-- no leading zero
abbrev pub IsShortest : List ℕ → Type 0
IsShortest [] = ⊤
IsShortest (b ∷ bs) = 0 < b
