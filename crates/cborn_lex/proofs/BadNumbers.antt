-- A number that is a float is read as one.
use Rattle.std.specs.Prelude.{◌≡◌, ◌∷◌, ◌||◌}
use Rattle.cborn_lex.proofs.Common.{arith, refl, sym, subst, ℕ, List, [], Bool, true, false, not, eqb, ⊎_elim, Err, eqb-true, and_parts, and_left, and_right, not-true, list_all, list_any, is_digit, bytes_eq, codes, BadNumber, FloatLeftOut, begins, are_digits, within, has_prefix, has_any, integer, IsFloat, drop, take}
use Rattle.cborn_lex.specs.Bad as bad
use Rattle.cborn_lex.proofs.GoodBack.{or_cases, never}

pub no_within : (v : ℕ) → within v ≡ Err BadNumber → ⊥
no_within v h1 = grind arith

-- one of some characters that all fail a test fails it
one_fails : (P : ℕ → Bool) (cs : List ℕ) (c : ℕ) → list_all (λ d. not (P d)) cs ≡ true → list_any (λ d. eqb c d) cs ≡ true → P c ≡ false
one_fails P [] c h e = never e
one_fails P (d ∷ cs) c h e =
    let parts = and_parts (not (P d)) (list_all (λ k. not (P k)) cs) h in
    ⊎_elim (λ same. subst (λ k. P k ≡ false) (sym (eqb-true c d same)) (not-true (P d) parts.0)) (λ later. one_fails P cs c parts.1 later) (or_cases (eqb c d) (list_any (λ k. eqb c k) cs) e)

some_fails : (P : ℕ → Bool) (cs x : List ℕ) → list_all (λ d. not (P d)) cs ≡ true → has_any cs x ≡ true → list_all P x ≡ false
some_fails P cs [] h e = never e
some_fails P cs (c ∷ x) h e = ⊎_elim (λ here. and_left (P c) (list_all P x) (one_fails P cs c h here)) (λ later. and_right (P c) (list_all P x) (some_fails P cs x h later)) (or_cases (list_any (λ d. eqb c d) cs) (has_any cs x) e)

no_digits : (base : ℕ) (cs x : List ℕ) → list_all (λ d. not (is_digit d base)) cs ≡ true → has_any cs x ≡ true → are_digits base x ≡ false
no_digits base cs x h e = and_right (begins (λ d. true) x) (list_all (λ d. is_digit d base) x) (some_fails (λ d. is_digit d base) cs x h e)

two_of : (a b : Bool) → (a || (b || false)) ≡ true → (a || b) ≡ true
two_of a b h1 = grind arith

no_base : (a b c d e f : Bool) → (a || (b || (c || (d || (e || (f || false)))))) ≡ false → ((a || b) ≡ false) × ((c || d) ≡ false) × ((e || f) ≡ false)
no_base a b c d e f h1 = grind arith

infinite : (n : Bool) (x : List ℕ) → n ≡ true → has_prefix (codes "Infinity") x ≡ true → integer n x ≡ Err FloatLeftOut
infinite n [] k e = never e
infinite n (c ∷ x) k e =
    let first : eqb c 73 ≡ true = (and_parts (eqb c 73) (bytes_eq (take 7 x) (codes "nfinity")) e).0 in
    subst (λ d. has_prefix (codes "Infinity") (d ∷ x) ≡ true → integer n (d ∷ x) ≡ Err FloatLeftOut) (sym (eqb-true c 73 first)) (λ h. rw (k, h) refl) e

pub float_is : (n : Bool) (x : List ℕ) → IsFloat n x → integer n x ≡ Err FloatLeftOut
float_is n x (bad.hexadecimal b h) = rw (two_of (has_prefix (codes "0x") x) (has_prefix (codes "0X") x) b, no_digits 16 (codes ".pP") (drop 2 x) refl h, h) refl
float_is n x (bad.decimal b k h) =
    let none = no_base (has_prefix (codes "0x") x) (has_prefix (codes "0X") x) (has_prefix (codes "0o") x) (has_prefix (codes "0O") x) (has_prefix (codes "0b") x) (has_prefix (codes "0B") x) k in
    rw (none.0, none.1, none.2, no_digits 10 (codes ".eE") x refl h, b, h) refl
float_is n x (bad.infinite k e) = infinite n x k e
