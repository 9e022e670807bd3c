-- Decimal integers at the front of a text.
use Rattle.std.specs.Prelude.{◌≡◌, ◌+◌, ◌-◌, ◌*◌, ◌<◌, ◌≤◌, ◌^◌, ◌∷◌, ◌++◌, ◌||◌, ◌⊎◌}
use Rattle.cborn_lex.proofs.Common.{refl, sym, ap, ◌∙◌, subst, ℕ, zero, suc, List, [], length, take, drop, get_or, ne_eqb, Bool, true, false, not, eqb, Ok, inl, inr, arith, append_assoc, pow-suc, and_parts, and_from, cond-true, lt-ltb, ltb-true, eqb-true, cases_Bool, cases_lt, false≢true, take_more, drop_more, take-append-drop, list_all-append, digit_value_digit, is_ascii_alphabetic, list_all, is_digit, digit_value, codes, bytes_eq, is_numeral, begins, number, within, integer, has_prefix, are_digits, BeginsDecimal, Front, mark_of, number_front, IsRun, IsNumber, ReadsNumber}
use Rattle.std.proofs.lemmas.Str.Parse.{digit_from_value}
use Rattle.cborn_lex.proofs.TwoParts.{passes, passes_at}

number-append : (b n : ℕ) (xs ys : List ℕ) → number b n (xs ++ ys) ≡ number b (number b n xs) ys
number-append b n [] ys = refl
number-append b n (x ∷ xs) ys = number-append b (n * b + digit_value x) xs ys

pub digit_more : (n len : ℕ) (tail : List ℕ) → len < length tail → 48 ≤ get_or tail len 0 → get_or tail len 0 ≤ 57 → list_all (λ d. is_digit d 10) (take len tail) ≡ true → number 10 0 (take len tail) ≡ n
    → (list_all (λ d. is_digit d 10) (take (len + 1) tail) ≡ true) × (number 10 0 (take (len + 1) tail) ≡ n * 10 + (get_or tail len 0 - 48))
digit_more n len tail h lo hi a v =
    let c = get_or tail len 0 in
    let e : take (len + 1) tail ≡ take len tail ++ c ∷ [] = take_more tail len 0 h in
    let d : digit_value c + 48 ≡ c = digit_value_digit c (lo, hi) in
    let is : is_digit c 10 ≡ true = lt-ltb (digit_value c) 10 (omega (arith, d)) in
    let minus : digit_value c ≡ c - 48 = omega (arith, d) in (
      ap (list_all (λ b. is_digit b 10)) e ∙ (list_all-append (λ b. is_digit b 10) (take len tail) (c ∷ []) ∙ and_from _ _ a (and_from _ _ is refl)),
      ap (number 10 0) e ∙ (number-append 10 0 (take len tail) (c ∷ []) ∙ (λ i. v i * 10 + minus i)),
    )

-- at most 19 digits are below 2 ^ 64

pub below_more : (n len d : ℕ) → n < 10 ^ len → d ≤ 9 → n * 10 + d < 10 ^ (len + 1)
below_more n len d h k =
    let one : len + 1 ≡ suc len = omega arith in
    let step : 10 ^ (len + 1) ≡ 10 ^ len * 10 = ap (λ m. 10 ^ m) one ∙ pow-suc 10 len in
    omega (arith, step, h, k)

grows : (len k : ℕ) → 10 ^ len ≤ 10 ^ (len + k)
grows len zero = let same : len + 0 ≡ len = omega arith in omega (arith, ap (λ m. 10 ^ m) same)
grows len (suc k) =
    let one : len + suc k ≡ suc (len + k) = omega arith in
    let step : 10 ^ (len + suc k) ≡ 10 ^ (len + k) * 10 = ap (λ m. 10 ^ m) one ∙ pow-suc 10 (len + k) in
    let less = grows len k in
    omega (arith, step, less)

pub fits_more : (n len : ℕ) → n < 10 ^ len → len < 19 → n * 10 + 9 < 2 ^ 64
fits_more n len h l =
    let less = grows len (18 - len) in
    let far : len + (18 - len) ≡ 18 = omega (arith, l) in
    let most : 10 ^ (len + (18 - len)) ≡ 1000000000000000000 = ap (λ m. 10 ^ m) far in
    omega (arith, less, most, h)

-- what the digits are

digit_passes : (q : ℕ → Bool) (c : ℕ) → passes q 48 10 ≡ true → is_digit c 10 ≡ true → q c ≡ true
digit_passes q c t h = let r = digit_from_value c (ltb-true (digit_value c) 10 h) in passes_at q 48 10 c t r.0 (omega (arith, r.1))

pub digit_numeral : (c d : ℕ) → c ≡ 48 + d → d ≤ 9 → is_numeral c ≡ true
digit_numeral c d e l = passes_at is_numeral 48 10 c refl (omega (arith, e)) (omega (arith, e, l))

pub letter_numeral : (c : ℕ) → is_digit c 10 ≡ false → (is_ascii_alphabetic c || eqb c 46) ≡ is_numeral c
letter_numeral c h1 = grind arith

pub digits_pass : (q : ℕ → Bool) (ds : List ℕ) → passes q 48 10 ≡ true → list_all (λ d. is_digit d 10) ds ≡ true → list_all q ds ≡ true
digits_pass q [] t h = refl
digits_pass q (c ∷ ds) t h = let hs = and_parts (is_digit c 10) (list_all (λ d. is_digit d 10) ds) h in and_from (q c) (list_all q ds) (digit_passes q c t hs.0) (digits_pass q ds t hs.1)

plain_integer : (negative : Bool) (c : ℕ) (ds : List ℕ) → eqb c 48 ≡ false → list_all (λ d. is_digit d 10) (c ∷ ds) ≡ true → integer negative (c ∷ ds) ≡ within (number 10 0 (c ∷ ds))
plain_integer negative c ds h1 h2 = grind arith

pub long_value : (negative : Bool) (len : ℕ) (body : List ℕ) → 0 < len → len ≤ length body → (get_or body 0 0 ≡ 48 → ⊥) → list_all (λ d. is_digit d 10) (take len body) ≡ true → integer negative (take len body) ≡ within (number 10 0 (take len body))
long_value negative zero body s w z a = absurd (omega (arith, s))
long_value negative (suc l) [] s w z a = absurd (omega (arith, w))
long_value negative (suc l) (c ∷ y) s w z a = plain_integer negative c (take l y) (ne_eqb c 48 z) a

zero_alone : (negative : Bool) (c : ℕ) (ds : List ℕ) → c ≡ 48 → ds ≡ [] → integer negative (c ∷ ds) ≡ Ok (number 10 0 (c ∷ ds))
zero_alone negative c ds e f = rw (e, f) refl

value_of : (negative : Bool) (n l c : ℕ) (y : List ℕ) → n < 2 ^ 64 → list_all (λ d. is_digit d 10) (c ∷ take l y) ≡ true → number 10 0 (c ∷ take l y) ≡ n → (0 < l → c ≡ 48 → ⊥) → integer negative (c ∷ take l y) ≡ Ok n
value_of negative n l c y h a v lone = elim (cases_Bool (eqb c 48)) [
  | inl e ↦ alone l a v lone (eqb-true c 48 e)
  | inr e ↦ plain_integer negative c (take l y) e a ∙ (ap within v ∙ (cond-true _ _ _ (lt-ltb n (2 ^ 128) (omega (arith, h)))))
]
  where
    alone : (l : ℕ) → list_all (λ d. is_digit d 10) (c ∷ take l y) ≡ true → number 10 0 (c ∷ take l y) ≡ n → (0 < l → c ≡ 48 → ⊥) → c ≡ 48 → integer negative (c ∷ take l y) ≡ Ok n
    alone zero a v lone e = zero_alone negative c [] e refl ∙ ap Ok v
    alone (suc l) a v lone e = absurd (lone (omega arith) e)

pub decimal_value : (negative : Bool) (n len : ℕ) (tail : List ℕ) → (len ≡ 0 → ⊥) → len ≤ length tail → n < 2 ^ 64 → list_all (λ d. is_digit d 10) (take len tail) ≡ true → number 10 0 (take len tail) ≡ n → (1 < len → get_or tail 0 0 ≡ 48 → ⊥) → integer negative (take len tail) ≡ Ok n
decimal_value negative n zero tail s w h a v lone = absurd (s refl)
decimal_value negative n (suc l) [] s w h a v lone = absurd (omega (arith, w))
decimal_value negative n (suc l) (c ∷ y) s w h a v lone = value_of negative n l c y h a v (λ k. lone (omega (arith, k)))

pub decimal_run : (len : ℕ) (tail : List ℕ) → list_all (λ d. is_digit d 10) (take len tail) ≡ true → (len < length tail → is_numeral (get_or tail len 0) ≡ false) → IsRun is_numeral (take len tail) (drop len tail)
decimal_run len tail a f = record { pass = digits_pass is_numeral (take len tail) refl a; ends = ends tail len f }
  where
    ends : (tail : List ℕ) (len : ℕ) → (len < length tail → is_numeral (get_or tail len 0) ≡ false) → begins is_numeral (drop len tail) ≡ false
    ends [] zero f = refl
    ends [] (suc l) f = refl
    ends (c ∷ y) zero f = f (omega arith)
    ends (c ∷ y) (suc l) f = ends y l (λ h. f (omega (arith, h)))

-- Where no decimal integer is.

begins_at : (p : ℕ → Bool) (m : ℕ) (x : List ℕ) → m < length x → begins p (drop m x) ≡ p (get_or x m 0)
begins_at p m x h = ap (begins p) (drop_more x m 0 h)

digit_at : (len m : ℕ) (x : List ℕ) → list_all (λ d. is_digit d 10) (take len x) ≡ true → m < len → m < length x → is_digit (get_or x m 0) 10 ≡ true
digit_at len m [] a h l = absurd (omega (arith, l))
digit_at zero m (c ∷ x) a h l = absurd (omega (arith, h))
digit_at (suc len) zero (c ∷ x) a h l = (and_parts (is_digit c 10) (list_all (λ d. is_digit d 10) (take len x)) a).0
digit_at (suc len) (suc m) (c ∷ x) a h l = digit_at len m x (and_parts (is_digit c 10) (list_all (λ d. is_digit d 10) (take len x)) a).1 (omega (arith, h)) (omega (arith, l))

not_lone : (len : ℕ) (x : List ℕ) → 1 < len → len ≤ length x → get_or x 0 0 ≡ 48 → (bytes_eq (take len x) (codes "0") || not (has_prefix (codes "0") (take len x))) ≡ true → ⊥
not_lone zero x h w e l = omega (arith, h)
not_lone (suc zero) x h w e l = omega (arith, h)
not_lone (suc (suc len)) [] h w e l = omega (arith, w)
not_lone (suc (suc len)) (c ∷ []) h w e l = omega (arith, w)
not_lone (suc (suc len)) (c ∷ d ∷ x) h w e l =
    let none : (bytes_eq (c ∷ d ∷ take len x) (codes "0") || not (has_prefix (codes "0") (c ∷ d ∷ take len x))) ≡ false = rw e refl in
    false≢true (sym none ∙ l)

-- len digits are there and no more up to 19, and these are no decimal integer: none, or with a leading zero, or a number that goes on
pub no_decimal : (len : ℕ) (x : List ℕ) → len ≤ length x → list_all (λ d. is_digit d 10) (take len x) ≡ true → (len < 19 → len < length x → is_digit (get_or x len 0) 10 ≡ false) → (len ≡ 0) ⊎ (((1 < len) × (get_or x 0 0 ≡ 48)) ⊎ ((len < length x) × (is_numeral (get_or x len 0) ≡ true))) → (m : ℕ) → BeginsDecimal x m → ⊥
no_decimal len x w a s why m d = elim (cases_lt m len) [
  | inl less ↦
      let near : m < length x = omega (arith, less, w) in
      false≢true (sym d.ends ∙ begins_at is_numeral m x near ∙ digit_passes is_numeral (get_or x m 0) refl (digit_at len m x a less near))
  | inr more ↦ elim (cases_lt len m) [
    | inl less ↦
        let near : len < length x = omega (arith, less, d.within) in
        false≢true (sym (s (omega (arith, less, d.few)) near) ∙ digit_at m len x (and_parts (begins (λ c. true) (take m x)) (list_all (λ c. is_digit c 10) (take m x)) d.digits).1 less near)
    | inr same ↦
        let e : m ≡ len = omega (arith, more, same) in
        same_len (subst (λ (k : ℕ). BeginsDecimal x k) e d) why
  ]
]
  where
    same_len : BeginsDecimal x len → (len ≡ 0) ⊎ (((1 < len) × (get_or x 0 0 ≡ 48)) ⊎ ((len < length x) × (is_numeral (get_or x len 0) ≡ true))) → ⊥
    same_len d (inl e) =
        let none : are_digits 10 (take len x) ≡ false = ap (λ k. are_digits 10 (take k x)) e in
        false≢true (sym none ∙ d.digits)
    same_len d (inr (inl (h, e))) = not_lone len x h w e d.lone
    same_len d (inr (inr (h, n))) = false≢true (sym d.ends ∙ begins_at is_numeral len x h ∙ n)

-- the first digit apart

digit_apart : (k c : ℕ) (x : List ℕ) (a : Front) (tagged : Bool) (body mark tag : List ℕ) → is_numeral c ≡ true → IsNumber false tagged body mark tag (take k (c ∷ x)) (drop k (c ∷ x)) → a ≡ number_front false tagged (mark_of mark) (integer false body) → (1 ≤ k) × ReadsNumber false (c ∷ []) (take (k - 1) x) (drop (k - 1) x) a
digit_apart k c x a tagged [] mark tag h n e =
    let all : c ∷ x ≡ mark ++ (tag ++ drop k (c ∷ x)) = sym (take-append-drop k (c ∷ x)) ∙ ap (λ y. y ++ drop k (c ∷ x)) n.whole ∙ append_assoc mark tag (drop k (c ∷ x)) in
    absurd (false≢true (sym n.run.ends ∙ ap (begins is_numeral) (sym all) ∙ h))
digit_apart zero c x a tagged (d ∷ body) mark tag h n e = let w = n.whole in cc
digit_apart (suc l) c x a tagged (d ∷ body) mark tag h n e =
    let same : c ≡ d = ap (λ (y : List ℕ). get_or y 0 0) n.whole in
    let rest : take l x ≡ body ++ (mark ++ tag) = ap (drop 1) n.whole in
    let one : suc l - 1 ≡ l = omega arith in
    let reads : ReadsNumber false (c ∷ []) (take l x) (drop l x) a = (
      tagged,
      body,
      mark,
      tag,
      record { run = record { pass = (and_parts (is_numeral d) (list_all is_numeral body) n.run.pass).1; ends = n.run.ends }; indicator = n.indicator; tagging = n.tagging; whole = rest },
      e ∙ ap (λ b. number_front false tagged (mark_of mark) (integer false (b ∷ body))) (sym same),
    ) in
    (omega arith, subst (λ (j : ℕ). ReadsNumber false (c ∷ []) (take j x) (drop j x) a) (sym one) reads)

pub digit_first : (k : ℕ) (text tail : List ℕ) (a : Front) → 0 < length text → tail ≡ drop 1 text → 48 ≤ get_or text 0 0 → get_or text 0 0 ≤ 57 → ReadsNumber false [] (take k text) (drop k text) a → (1 ≤ k) × ReadsNumber false (take 1 text) (take (k - 1) tail) (drop (k - 1) tail) a
digit_first k [] tail a s e lo hi r = absurd (omega (arith, s))
digit_first k (c ∷ x) tail a s e lo hi (tagged, body, mark, tag, n, f) =
    let d = digit_apart k c x a tagged body mark tag (passes_at is_numeral 48 10 c refl lo (omega (arith, hi))) n f in
    (d.0, subst (λ (y : List ℕ). ReadsNumber false (c ∷ []) (take (k - 1) y) (drop (k - 1) y) a) (sym e) d.1)
