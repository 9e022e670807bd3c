-- Tokens as a text has them, heads that are bytes, and the bytes of long integers.
use Rattle.std.specs.Prelude.{◌≡◌, ◌^◌, ◌<◌, ◌≤◌, ◌∷◌, ◌++◌, ◌/◌, ◌%◌}
use Rattle.cborn_edn.proofs.Common.{ℕ, List, [], arith, AreBytes, Eight, Major, least, Given, head, Mark, Token, AreModest, width, width_errors, append_assoc, digits_of, digits_of_step}

-- what is known of the tokens between two places of a text
pub modest_left : (x y : List Token) → AreModest (x ++ y) → AreModest x
modest_left [] y h = tt
modest_left (t ∷ x) y h = (h.0, modest_left x y h.1)

pub modest_right : (x y : List Token) → AreModest (x ++ y) → AreModest y
modest_right [] y h = h
modest_right (t ∷ x) y h = modest_right x y h.1

pub modest_both : (x y : List Token) → AreModest x → AreModest y → AreModest (x ++ y)
modest_both [] y h k = k
modest_both (t ∷ x) y h k = (h.0, modest_both x y h.1 k)

pub least_is_eight : (n : ℕ) → 2 ^ 32 ≤ n → least n ≡ Eight
least_is_eight n h = grind arith

pub least_bytes : (k : Major) (n : ℕ) → AreBytes (head k (Given (least n) n))
least_bytes k n = grind arith

pub width_bytes : (k : Major) (p : ℕ) (m : Mark) (n : ℕ) → width_errors p m n ≡ [] → AreBytes (head k (Given (width m n) n))
width_bytes k p m n h1 = grind arith

pub one_digit : (x y z : List ℕ) (n : ℕ) → 0 < n → y ≡ x ++ digits_of 256 (n / 256) → z ≡ y ++ n % 256 ∷ [] → z ≡ x ++ digits_of 256 n
one_digit x y z n h1 h2 h3 = grind (arith, append_assoc, digits_of_step)
