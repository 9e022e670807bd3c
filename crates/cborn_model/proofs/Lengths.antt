-- How many bytes nodes spell.
use Rattle.std.specs.Prelude.{◌≤◌, ◌∷◌}
use Rattle.cborn_model.proofs.Common.{List, [], length, length-append, arith, Fixed, spelled, spelled_all, Tree, Items, Pairs, trees}

pub some_bytes : (t : Tree) → 1 ≤ length (spelled t)
some_bytes (Items p (Fixed w) ts) = omega arith
some_bytes (Pairs p (Fixed w) es) = omega arith
some_bytes _ = omega arith

pub no_more_nodes : (ts : List Tree) → length ts ≤ length (spelled_all (trees ts))
no_more_nodes [] = omega arith
no_more_nodes (t ∷ ts) = omega (arith, some_bytes t, no_more_nodes ts, length-append (spelled t) (spelled_all (trees ts)))
