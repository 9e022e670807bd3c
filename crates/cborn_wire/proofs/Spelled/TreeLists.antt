-- Nodes one after another, as lists of std and as the trees' own.
use Rattle.std.specs.Prelude.{◌≡◌, ◌∷◌, ◌++◌}
use Rattle.cborn_wire.proofs.Common.{refl, sym, ap, ◌∙◌, suc, List, [], length, append_assoc, Tree, Trees, no_item, more, trees, count, spelled, spelled_all, append_trees, snoc, trees-injective, arith, common_steps, nat_tests}

pub trees-append : (ts us : List Tree) → trees (ts ++ us) ≡ append_trees (trees ts) (trees us)
trees-append [] us = refl
trees-append (t ∷ ts) us = ap (more t) (trees-append ts us)

pub trees-push : (ts : List Tree) (t : Tree) → trees (ts ++ t ∷ []) ≡ snoc (trees ts) t
trees-push [] t = refl
trees-push (u ∷ ts) t = ap (more u) (trees-push ts t)

abbrev pub tree_list : Trees → List Tree
tree_list no_item = []
tree_list (more t ts) = t ∷ tree_list ts

pub trees-tree_list : (ts : Trees) → trees (tree_list ts) ≡ ts
trees-tree_list no_item = refl
trees-tree_list (more t ts) = ap (more t) (trees-tree_list ts)

pub tree_count : (ts : Trees) → length (tree_list ts) ≡ count ts
tree_count no_item = refl
tree_count (more t ts) = ap suc (tree_count ts)

-- a list that begins with another, seen from its trees
pub begins_list : (ts us : List Tree) (vs : Trees) → trees us ≡ append_trees (trees ts) vs → us ≡ ts ++ tree_list vs
begins_list ts us vs e = grind (arith, common_steps, nat_tests, trees-injective, trees-tree_list, trees-append)

pub spelled_all-append : (ts us : Trees) → spelled_all (append_trees ts us) ≡ spelled_all ts ++ spelled_all us
spelled_all-append no_item us = refl
spelled_all-append (more t ts) us = ap (λ l. spelled t ++ l) (spelled_all-append ts us) ∙ sym (append_assoc (spelled t) (spelled_all ts) (spelled_all us))
