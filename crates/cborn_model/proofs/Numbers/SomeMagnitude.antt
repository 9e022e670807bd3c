-- Each number has a magnitude without leading zeros.
use Rattle.std.specs.Prelude.{◌≡◌, ◌+◌, ◌*◌, ◌<◌, ◌^◌, ◌∷◌, ◌≤◌}
use Rattle.cborn_model.proofs.Common.{ℕ, suc, List, [], length, get_or, ap, arith, pow-suc, lit<, drop, length-drop, mul-le-mul_right, pow-le-pow_right, cases_lt, big_endian, AreBytes, IsShortest}
use Rattle.std.specs.Int.Digits.{number_from_digits_after, digits_of}
use Rattle.std.proofs.lemmas.Int.Digits.{all_below_base_digits_of, first_digits_of, number_digits_of}

-- Horner's sum and the sum of powers are one number.
horner : (a : ℕ) (ds : List ℕ) → number_from_digits_after 256 a ds ≡ a * 256 ^ length ds + big_endian ds
horner a [] = omega arith
horner a (d ∷ ds) =
    let e = horner (a * 256 + d) ds in
    let p : 256 ^ suc (length ds) ≡ 256 ^ length ds * 256 = pow-suc 256 (length ds) in
    let q : a * 256 ^ suc (length ds) ≡ a * (256 ^ length ds * 256) = ap (λ z. a * z) p in
    omega (arith, e)

shortest_first : (m : List ℕ) → 0 < get_or m 0 0 → IsShortest m
shortest_first [] h = tt
shortest_first (b ∷ bs) h = h

digits_are_bytes : (n : ℕ) → AreBytes (digits_of 256 n)
digits_are_bytes n = all_below_base_digits_of 256 n (omega arith)

digits_are_shortest : (n : ℕ) → IsShortest (digits_of 256 n)
digits_are_shortest n = grind (arith, cases_lt, first_digits_of, shortest_first)

number_of_digits : (n : ℕ) → big_endian (digits_of 256 n) ≡ n
number_of_digits n =
    let e = horner 0 (digits_of 256 n) in
    let k = number_digits_of 256 n (omega arith) in
    omega arith

pub magnitude_of : (n : ℕ) → (m : List ℕ) × AreBytes m × IsShortest m × (big_endian m ≡ n)
magnitude_of n = (digits_of 256 n, digits_are_bytes n, digits_are_shortest n, number_of_digits n)

-- with a byte left, a number of more than 56 bits has more than 64
pub number_above : (bs : List ℕ) (i n : ℕ) → i < length bs → 2 ^ 56 ≤ n → n * 256 ^ length (drop i bs) + big_endian (drop i bs) ≡ big_endian bs → 2 ^ 64 ≤ big_endian bs
number_above bs i n l h e =
    let p : 256 ^ 1 ≤ 256 ^ length (drop i bs) = pow-le-pow_right (lit< tt) (let q : 1 ≤ length (drop i bs) = omega (arith, length-drop i bs) in q) in
    let m : 2 ^ 56 * 256 ^ length (drop i bs) ≤ n * 256 ^ length (drop i bs) = mul-le-mul_right (256 ^ length (drop i bs)) h in
    omega (arith, e, p, m)
