-- A device of the proofs, here and in the crates above: texts after others, each with a separator before it.
use Rattle.std.specs.Prelude.{ℕ, List, ◌++◌}
use Rattle.cborn_edn.specs.Common.{flat_map}

abbrev pub others : List ℕ → List (List ℕ) → List ℕ
others sep = flat_map (λ text. sep ++ text)
