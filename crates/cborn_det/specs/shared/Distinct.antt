-- A device of the proofs, here and in the crates above: no two entries of a map have the same key. No definition and no public contract cites it.
use Rattle.std.specs.Prelude.{◌≡◌, ◌∷◌}
use Rattle.cborn_det.specs.Common.{List, [], ⊤, AllByRecursion}
use Rattle.cborn_det.specs.Det.{Entry}

-- no two of the keys are equal
abbrev pub HasDistinctKeys : List Entry → Type 0
HasDistinctKeys [] = ⊤
HasDistinctKeys (e ∷ es) = AllByRecursion (λ (g : Entry). e.0 ≡ g.0 → ⊥) es × HasDistinctKeys es
