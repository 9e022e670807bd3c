-- A number has one magnitude without leading zeros.
use Rattle.std.specs.Prelude.{◌≡◌, ◌+◌, ◌*◌, ◌<◌, ◌≤◌, ◌^◌, ◌∷◌, ◌↔◌}
use Rattle.cborn_model.proofs.Common.{ℕ, suc, inl, inr, List, [], length, refl, sym, ap, subst, arith, Bool, pow-suc, lit<, IsTrue, drop, get_or, mul-le-mul_right, cases_lt, drop_more, pow-le-pow_right, big_endian, AreBytes, IsShortest, number}

-- the high part of a number decides
high_decides : (a b p r s : ℕ) → a < b → r < p → a * p + r ≡ b * p + s → ⊥
high_decides a b p r s l h e = let k : suc a * p ≤ b * p = mul-le-mul_right p l in omega (arith, k)

one_high : (a b p r s : ℕ) → r < p → s < p → a * p + r ≡ b * p + s → (a ≡ b) × (r ≡ s)
one_high a b p r s h k e =
    elim (cases_lt a b) [
      | inl l ↦ absurd (high_decides a b p r s l h e)
      | inr l ↦ elim (cases_lt b a) [ inl m ↦ absurd (high_decides b a p s r m k (sym e)) | inr m ↦ let q : a ≡ b = omega arith in (q, let f : a * p ≡ b * p = ap (λ n. n * p) q in omega arith) ]
    ]

pub below_power : (bs : List ℕ) → AreBytes bs → big_endian bs < 256 ^ length bs
below_power [] h = omega arith
below_power (b ∷ bs) h =
    let low = below_power bs h.1 in
    let top : b * 256 ^ length bs ≤ 255 * 256 ^ length bs = mul-le-mul_right (256 ^ length bs) (let l : b ≤ 255 = omega (arith, h.0) in l) in
    rw (pow-suc) (omega (arith, low, top))

same_long : (cs bs : List ℕ) → AreBytes cs → AreBytes bs → length cs ≡ length bs → big_endian cs ≡ big_endian bs → cs ≡ bs
same_long [] [] h k l e = refl
same_long [] (b ∷ bs) h k l e = absurd (omega arith)
same_long (a ∷ cs) [] h k l e = absurd (omega arith)
same_long (a ∷ cs) (b ∷ bs) h k l e =
    let l' : length cs ≡ length bs = omega arith in
    let p : big_endian cs < 256 ^ length bs = subst (λ n. big_endian cs < 256 ^ n) l' (below_power cs h.1) in
    let e' : a * 256 ^ length bs + big_endian cs ≡ b * 256 ^ length bs + big_endian bs = subst (λ n. a * 256 ^ n + big_endian cs ≡ b * 256 ^ length bs + big_endian bs) l' e in
    let t = one_high a b (256 ^ length bs) (big_endian cs) (big_endian bs) p (below_power bs k.1) e' in
    let first : a ≡ b = t.0 in
    let rest : cs ≡ bs = same_long cs bs h.1 k.1 l' t.1 in
    cc

-- fewer bytes make a lower number
pub fewer : (cs bs : List ℕ) → AreBytes cs → IsShortest bs → length cs < length bs → big_endian cs < big_endian bs
fewer cs bs h1 h2 h3 = grind (arith, below_power, lit<, mul-le-mul_right, pow-le-pow_right)

pub one_magnitude : (cs bs : List ℕ) → AreBytes cs → AreBytes bs → IsShortest cs → IsShortest bs → big_endian cs ≡ big_endian bs → cs ≡ bs
one_magnitude cs bs h k s t e =
    elim (cases_lt (length cs) (length bs)) [
      | inl l ↦ absurd (let q = fewer cs bs h t l in omega arith)
      | inr l ↦ elim (cases_lt (length bs) (length cs)) [ inl m ↦ absurd (let q = fewer bs cs k s m in omega arith) | inr m ↦ same_long cs bs h k (omega arith) e ]
    ]

-- equal numbers have one sign, and one magnitude
pub one_number : (s t : Bool) (m n : List ℕ) → number s m ≡ number t n → (s ≡ t) × (big_endian m ≡ big_endian n)
one_number s t m n h1 = grind arith

pub fits_in : (n i : ℕ) → n < 256 ^ i → i ≤ 8 → n < 2 ^ 64
fits_in n i h l = let m : 256 ^ i ≤ 256 ^ 8 = pow-le-pow_right (lit< tt) l in omega arith

-- one more byte
pub read_more : (bs : List ℕ) (i n : ℕ) (d : ℕ) → i < length bs → n * 256 ^ length (drop i bs) + big_endian (drop i bs) ≡ big_endian bs
    → (n * 256 + get_or bs i d) * 256 ^ length (drop (i + 1) bs) + big_endian (drop (i + 1) bs) ≡ big_endian bs
read_more bs i n d l h =
    let e : n * 256 ^ suc (length (drop (i + 1) bs)) + (get_or bs i d * 256 ^ length (drop (i + 1) bs) + big_endian (drop (i + 1) bs)) ≡ big_endian bs = subst (λ z. n * 256 ^ length z + big_endian z ≡ big_endian bs) (drop_more bs i d l) h in
    let p : 256 ^ suc (length (drop (i + 1) bs)) ≡ 256 ^ length (drop (i + 1) bs) * 256 = pow-suc 256 (length (drop (i + 1) bs)) in
    let q : n * (256 ^ length (drop (i + 1) bs) * 256) + (get_or bs i d * 256 ^ length (drop (i + 1) bs) + big_endian (drop (i + 1) bs)) ≡ big_endian bs = subst (λ z. n * z + (get_or bs i d * 256 ^ length (drop (i + 1) bs) + big_endian (drop (i + 1) bs)) ≡ big_endian bs) p e in
    omega arith

-- more than eight bytes make more than 64 bits
pub large : (bs : List ℕ) → IsShortest bs → 8 < length bs → 2 ^ 64 ≤ big_endian bs
large [] s l = absurd (omega arith)
large (b ∷ bs) s l =
    let m : 256 ^ 8 ≤ 256 ^ length bs = let q : 8 ≤ length bs = omega arith in pow-le-pow_right (lit< tt) q in
    let top : 1 * 256 ^ length bs ≤ b * 256 ^ length bs = mul-le-mul_right (256 ^ length bs) s in
    omega (arith, m, top)

-- so equal magnitudes are equal lists
pub equal_magnitudes : (cs bs : List ℕ) (r : Bool) → (IsTrue r ↔ cs ≡ bs) → AreBytes cs → AreBytes bs → IsShortest cs → IsShortest bs → (IsTrue r ↔ big_endian cs ≡ big_endian bs)
equal_magnitudes cs bs r f h k s t = (λ y. ap big_endian (f.0 y), λ e. f.1 (one_magnitude cs bs h k s t e))
