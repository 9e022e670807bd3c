-- What is written at the end of a buffer, or in the place of a byte.
use Rattle.std.specs.Prelude.{◌≡◌, ◌+◌, ◌++◌}
use Rattle.cborn_det.specs.Common.{ℕ, List, take, drop}

-- new is old, followed by a list of which P holds
abbrev pub Appends : (List ℕ → Type 0) → List ℕ → List ℕ → Type 0
Appends P old new = (x : List ℕ) × P x × (new ≡ old ++ x)

-- new is old with a list of which P holds in the place of the byte at start
abbrev pub Replaces : (List ℕ → Type 0) → ℕ → List ℕ → List ℕ → Type 0
Replaces P start old new = (x : List ℕ) × P x × (new ≡ (take start old ++ x) ++ drop (start + 1) old)
