-- The definitions over nodes, in std's words: nodes one after another, their number, and how deep they are.
use Rattle.std.specs.Prelude.{◌≡◌, ◌+◌, ◌<◌, ◌≤◌, ◌∷◌, ◌++◌}
use Rattle.cborn_model.proofs.Common.{ℕ, max, List, [], length, take, get_or, refl, sym, ap, ◌∙◌, subst, arith, take_more, Tree, trees, entries, count, count_entries, depth, depth_all, depth_entries, spelled}
use Rattle.std.proofs.lemmas.List.Recursion.{max_push, max_bounds}

abbrev pub spelled_pair : Tree × Tree → List ℕ
spelled_pair p = spelled p.0 ++ spelled p.1

abbrev pub pair_depth : Tree × Tree → ℕ
pair_depth p = max (depth p.0) (depth p.1)

pub count-trees : (xs : List Tree) → count (trees xs) ≡ length xs
count-trees [] = refl
count-trees (x ∷ xs) = omega (arith, count-trees xs)

pub count_entries-entries : (xs : List (Tree × Tree)) → count_entries (entries xs) ≡ length xs
count_entries-entries [] = refl
count_entries-entries (x ∷ xs) = omega (arith, count_entries-entries xs)

pub trees-injective : (xs ys : List Tree) → trees xs ≡ trees ys → xs ≡ ys
trees-injective [] [] e = refl
trees-injective [] (y ∷ ys) e = cc
trees-injective (x ∷ xs) [] e = cc
trees-injective (x ∷ xs) (y ∷ ys) e =
    let first : x ≡ y = cc in
    let others : trees xs ≡ trees ys = cc in rw (first, trees-injective xs ys others)

-- F of a list is the greatest of what `each` says of what is in it.
module _ {A : Type 0} (F : List A → ℕ) (each : A → ℕ) (none : F [] ≡ 0) (step : (x : A) (xs : List A) → F (x ∷ xs) ≡ max (each x) (F xs)) where
  -- as a loop over the list meets it
  pub greatest_more : (xs : List A) (i : ℕ) (x : A) → i < length xs → x ≡ get_or xs i x → F (take (i + 1) xs) ≡ max (F (take i xs)) (each x)
  greatest_more xs i x h e = ap F (take_more xs i x h) ∙ max_push F each none step (take i xs) (get_or xs i x) ∙ ap (λ y. max (F (take i xs)) (each y)) (sym e)

  pub no_greater : (xs : List A) (i : ℕ) (x : A) → i < length xs → x ≡ get_or xs i x → each x ≤ F xs
  no_greater xs i x h e = subst (λ y. each y ≤ F xs) (sym e) (max_bounds F each none step xs i x h)

-- one more child
pub depth-take_more : (xs : List Tree) (i : ℕ) (x : Tree) → i < length xs → x ≡ get_or xs i x → depth_all (trees (take (i + 1) xs)) ≡ max (depth_all (trees (take i xs))) (depth x)
depth-take_more = greatest_more (λ ts. depth_all (trees ts)) depth refl (λ _ _. refl)

pub pair_depth-take_more : (xs : List (Tree × Tree)) (i : ℕ) (x : Tree × Tree) → i < length xs → x ≡ get_or xs i x → depth_entries (entries (take (i + 1) xs)) ≡ max (depth_entries (entries (take i xs))) (max (depth x.0) (depth x.1))
pair_depth-take_more = greatest_more (λ ps. depth_entries (entries ps)) pair_depth refl (λ _ _. refl)

-- a child is no deeper than all of them
pub depth_of_item : (xs : List Tree) (i : ℕ) (x : Tree) → i < length xs → x ≡ get_or xs i x → depth x ≤ depth_all (trees xs)
depth_of_item = no_greater (λ ts. depth_all (trees ts)) depth refl (λ _ _. refl)

pub depth_of_pair : (xs : List (Tree × Tree)) (i : ℕ) (x : Tree × Tree) → i < length xs → x ≡ get_or xs i x → pair_depth x ≤ depth_entries (entries xs)
depth_of_pair = no_greater (λ ps. depth_entries (entries ps)) pair_depth refl (λ _ _. refl)
