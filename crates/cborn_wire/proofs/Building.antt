-- The partial sequence that the visitor which builds nodes holds, as it changes.
use Rattle.std.specs.Prelude.{◌≡◌, ◌≤◌, ◌∷◌, ◌++◌}
use Rattle.cborn_wire.proofs.Common.{refl, sym, ap, ◌∙◌, ℕ, List, [], length, Option, Some, append-nil, arith, option_to_list, Size, Tree, trees, entries, depth_all, FitsAll, IsSpelled, a_map, Partial, top, inside, ended_size, flat, within, around, flat_push, paired_with}
use Rattle.cborn_model.specs.Tree as tree
use Rattle.cborn_wire.specs.declared.nodes.OpenNode.{OpenNode}
use Rattle.cborn_wire.specs.devices.OpenNodes.{ended}

pub pair_push : (es : List (Tree × Tree)) (k t : Tree) → flat (es ++ (k, t) ∷ []) ++ [] ≡ (flat es ++ k ∷ []) ++ t ∷ []
pair_push es k t = append-nil (flat (es ++ (k, t) ∷ [])) ∙ sym (flat_push es (k, t))

-- a map ends
pub map_ends : (p : ℕ) (s : Size) (c : Option ℕ) (es : List (Tree × Tree)) (x : Option Tree) (f : Partial)
    → Some (tree.Pairs p (ended_size s c (length es)) (entries es)) ≡ ended (inside f (a_map p s c) (flat es ++ option_to_list x))
map_ends p s c es x f = ap (λ l. Some (tree.Pairs p (ended_size s c (length l)) (entries l))) (sym (paired_with es x).0)

pub around_push : (f : Partial) (ks : List OpenNode) (k : OpenNode) → around f (ks ++ k ∷ []) ≡ within (around f ks) k
around_push f [] k = refl
around_push f (j ∷ ks) k = around_push (within f j) ks k

-- what a list of containers is once the last is removed
pub popped : (ks rest : List OpenNode) (last : OpenNode) → ks ≡ rest ++ last ∷ [] → around (top []) ks ≡ within (around (top []) rest) last
popped ks rest last e = ap (around (top [])) e ∙ around_push (top []) rest last

-- a node among nodes that fit their widths and aren't deep
pub part_spelled : (xs ys : List Tree) (t : Tree) → FitsAll (trees (xs ++ t ∷ ys)) → depth_all (trees (xs ++ t ∷ ys)) ≤ 1024 → IsSpelled t
part_spelled [] ys t fits low = (fits.0, omega (arith, low))
part_spelled (x ∷ xs) ys t fits low = part_spelled xs ys t fits.1 (omega (arith, low))
