-- What is open, the innermost first.
use Rattle.std.specs.Prelude.{◌≡◌, ◌+◌, ◌<◌, ◌∷◌, ◌++◌}
use Rattle.cborn_edn.proofs.Common.{sym, ap, ◌∙◌, ℕ, List, [], length, take, get_or, set, reverse-append, length-reverse, take_more, take_more_set, reverse}

pub reverse-push : {A : Type 0} (xs : List A) (x : A) → reverse (xs ++ x ∷ []) ≡ x ∷ reverse xs
reverse-push xs x = reverse-append xs (x ∷ [])

pub reverse-length : {A : Type 0} (xs : List A) → length (reverse xs) ≡ length xs
reverse-length xs = length-reverse xs

-- the last of the first n is x
pub reverse-at : {A : Type 0} (xs : List A) (i n : ℕ) (x : A) → n ≡ i + 1 → i < length xs → x ≡ get_or xs i x → reverse (take n xs) ≡ x ∷ reverse (take i xs)
reverse-at xs i n x is few at = ap (λ k. reverse (take k xs)) is ∙ ap reverse (take_more xs i x few) ∙ reverse-push (take i xs) (get_or xs i x) ∙ ap (λ y. y ∷ reverse (take i xs)) (sym at)

-- it becomes x
pub reverse-set : {A : Type 0} (xs : List A) (i n : ℕ) (x : A) → n ≡ i + 1 → i < length xs → reverse (take n (set xs i x)) ≡ x ∷ reverse (take i xs)
reverse-set xs i n x is few = ap (λ k. reverse (take k (set xs i x))) is ∙ ap reverse (take_more_set xs i x few) ∙ reverse-push (take i xs) x

pub ruleset innermost = (reverse-push, reverse-length)
