-- What is known where there is no meaning error: an argument, a count or a length below 2^64 fits its width.
use Rattle.std.specs.Prelude.{◌≡◌, ◌^◌, ◌<◌, ◌∷◌, ◌++◌}
use Rattle.cborn_edn.proofs.Common.{arith, refl, ℕ, List, [], length, Bool, true, and_from, WidthFits, SizeFits, Mark, Token, Profile, MeaningError, EdnReason, width, size, unless, width_errors, size_errors, tag_errors, Str, is_nil, mark_errors, IsPiece, ArePieces}
use Rattle.cborn_edn.specs.Grammar.{piece, also}

pub no_left : {A : Type 0} (x y : List A) → x ++ y ≡ [] → x ≡ []
no_left [] y e = refl
no_left (a ∷ x) y e = absurd (let bad : a ∷ (x ++ y) ≡ [] = e in cc)

pub no_right : {A : Type 0} (x y : List A) → x ++ y ≡ [] → y ≡ []
no_right [] y e = e
no_right (a ∷ x) y e = absurd (let bad : a ∷ (x ++ y) ≡ [] = e in cc)

pub nil_is : {A : Type 0} (l : List A) → is_nil l ≡ true → l ≡ []
nil_is l h1 = grind arith

-- the test holds
pub held : (b : Bool) (p : ℕ) (r : EdnReason) → unless b p r ≡ [] → b ≡ true
held b p r h1 = grind arith

pub width_fits : (p : ℕ) (m : Mark) (n : ℕ) → n < 2 ^ 64 → width_errors p m n ≡ [] → WidthFits (width m n) n
width_fits p m n h1 h2 = grind arith

pub size_fits : (p : ℕ) (m : Mark) (n : ℕ) → n < 2 ^ 64 → size_errors p m n ≡ [] → SizeFits (size m n) n
size_fits p m n h1 h2 = grind arith

-- a tag number is below 2^64
pub tag_small : (p : ℕ) (m : Mark) (n : ℕ) → tag_errors p m n ≡ [] → (n < 2 ^ 64) × (width_errors p m n ≡ [])
tag_small p m n h1 = grind arith

-- the length of a string that is known
pub mark_fits : (may_end : Bool) (s : Str) → s.known ≡ true → mark_errors may_end s ≡ [] → length s.bytes < 2 ^ 64 → WidthFits (width s.mark (length s.bytes)) (length s.bytes)
mark_fits may_end s h1 h2 h3 = grind arith

known_piece : {p : Profile} {d : ℕ} {x : List Token} {s : Str} {l : List MeaningError} → IsPiece p d x s l → l ≡ [] → s.known ≡ true
known_piece h1 h2 = grind arith

pub known_pieces : {p : Profile} {d : ℕ} {x : List Token} {s : Str} {l : List MeaningError} → ArePieces p d x s l → l ≡ [] → s.known ≡ true
known_pieces (piece q) e = known_piece q e
known_pieces (also {s = s} {t = t} {l = l} {r = r} ps q) e = and_from s.known t.known (known_pieces ps (no_left l _ e)) (known_piece q (no_left r _ (no_right l _ e)))
