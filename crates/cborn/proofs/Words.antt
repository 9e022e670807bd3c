-- Words of a command line, one after another.
use Rattle.std.proofs.Common.{◌≡◌, ap, ℕ, suc, List, [], ◌∷◌, ◌++◌, Bool, true, false, cond}
use Rattle.std.specs.Borrow.{Bor}
use Rattle.cborn.specs.Words.{is_option, plain_count}

pub plain_option : (xs : List (Bor (List ℕ))) (w : Bor (List ℕ)) → is_option w.now ≡ true → plain_count (xs ++ w ∷ []) ≡ plain_count xs
plain_option [] w e = ap (λ b. cond b 0 1) e
plain_option (x ∷ xs) w e = ap (λ n. cond (is_option x.now) n (suc n)) (plain_option xs w e)

pub plain_name : (xs : List (Bor (List ℕ))) (w : Bor (List ℕ)) → is_option w.now ≡ false → plain_count (xs ++ w ∷ []) ≡ suc (plain_count xs)
plain_name [] w e = ap (λ b. cond b 0 1) e
plain_name (x ∷ xs) w e = go (is_option x.now) (plain_name xs w e)
  where
    go : (b : Bool) → plain_count (xs ++ w ∷ []) ≡ suc (plain_count xs) → cond b (plain_count (xs ++ w ∷ [])) (suc (plain_count (xs ++ w ∷ []))) ≡ suc (cond b (plain_count xs) (suc (plain_count xs)))
    go true h = h
    go false h = ap suc h
