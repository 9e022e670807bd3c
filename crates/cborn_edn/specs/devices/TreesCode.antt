-- A device of the proofs: nodes as a list. No definition cites it.
use Rattle.std.specs.Prelude.{◌≡◌, List, [], ◌∷◌, refl}
use Rattle.cborn_edn.specs.Common.{ap, Tree, Trees, no_item, more, trees}

abbrev pub listed_trees : Trees → List Tree
listed_trees no_item = []
listed_trees (more t ts) = t ∷ listed_trees ts

pub trees-listed : (ts : Trees) → trees (listed_trees ts) ≡ ts
trees-listed no_item = refl
trees-listed (more t ts) = ap (more t) (trees-listed ts)
