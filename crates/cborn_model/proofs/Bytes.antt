-- Bytes one after another are bytes.
use Rattle.cborn_model.proofs.Common.{ℕ, suc, List, [], get_or, w8, arith, AreBytes}
use Rattle.std.proofs.Common.{Fits, ◌∷◌, ◌++◌}

pub bytes-append : (x y : List ℕ) → AreBytes x → AreBytes y → AreBytes (x ++ y)
bytes-append [] y h k = k
bytes-append (b ∷ x) y h k = (h.0, bytes-append x y h.1 k)

pub bytes-left : (x y : List ℕ) → AreBytes (x ++ y) → AreBytes x
bytes-left [] y h = tt
bytes-left (b ∷ x) y h = (h.0, bytes-left x y h.1)

pub bytes-right : (x y : List ℕ) → AreBytes (x ++ y) → AreBytes y
bytes-right [] y h = h
bytes-right (b ∷ x) y h = bytes-right x y h.1

-- the elements of a slice of bytes are bytes
pub are_bytes : (x : List ℕ) → ((i : ℕ) → Fits w8 (get_or x i 0)) → AreBytes x
are_bytes [] h = tt
are_bytes (b ∷ x) h = (omega (arith, h 0), are_bytes x (λ i. h (suc i)))
