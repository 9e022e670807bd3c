-- A device of the proofs: integers with the shortest heads, as they are told apart by their first five bytes. No definition cites it.
use Rattle.std.specs.Prelude.{◌≡◌, ℕ, ◌+◌, ◌*◌, ◌/◌, ◌%◌, ◌⊎◌, ◌<◌}

-- the number of four bytes, the highest first
abbrev pub top_of : ℕ → ℕ → ℕ → ℕ → ℕ
top_of a b c d = a * 16777216 + b * 65536 + c * 256 + d

-- an integer with this initial byte has a head of this length, which is the shortest if the four bytes after it make at least this number
abbrev pub IsIntegerForm : ℕ → ℕ → ℕ → Type 0
IsIntegerForm first len top =
    (first / 32 < 2)
    × (((first % 32 < 24) × (len ≡ 1))
    ⊎ ((first % 32 ≡ 24) × (len ≡ 2) × (top ≡ 402653184))
    ⊎ ((first % 32 ≡ 25) × (len ≡ 3) × (top ≡ 16777216))
    ⊎ ((first % 32 ≡ 26) × (len ≡ 5) × (top ≡ 65536))
    ⊎ ((first % 32 ≡ 27) × (len ≡ 9) × (top ≡ 1)))
