-- Numbers and tags of the fixed notation, as pieces.
use Rattle.std.specs.Prelude.{◌≡◌, ◌+◌, ◌^◌, ◌<◌, ◌%◌, ◌∷◌, ◌++◌, ◌||◌}
use Rattle.cborn_edn.proofs.Common.{refl, sym, ap, ◌∙◌, subst, ℕ, suc, List, [], length, get_or, Bool, true, false, not, eqb, inl, inr, Ok, Some, decimal, append-nil, arith, and_from, and_right, cond-true, cond-false, ne_eqb, cases_lt, decimal_digit, decimal_is_IsNumeral_wide, decimal_by_steps_wide, codes, list_all, is_digit, digit_value, Mark, Class, Number, TagOpen, Read, begins, is_numeral, are_digits, within, has_prefix, number_front, signed, Start, digit, start_of, ReadsFrom, ReadsNumber, token, nowhere, indicator, length-append, ProfileOne, passes, passes_at, digit_starts, within_back}
use Rattle.std.proofs.Math.ListN.{get_or-append}
use Rattle.std.proofs.lemmas.Str.Parse.{digit_from_value}
use Rattle.std.specs.Str.Parse.{AllDigits, digits_value_after}
use Rattle.cborn_lex.specs.Numbers.{number, integer}
use Rattle.cborn_edn.proofs.Lexed.Chained.{Chained, one_token}
use Rattle.cborn_edn.proofs.Lexed.MarkTexts.{IsMark, Closes, mark_is, indicates}

-- What holds of each digit.

digit_passes : (q : ℕ → Bool) (c : ℕ) → passes q 48 10 ≡ true → digit_value c < 10 → q c ≡ true
digit_passes q c t h = let r = digit_from_value c h in passes_at q 48 10 c t r.0 (omega (arith, r.1))

pub digits_pass : (q : ℕ → Bool) (ds : List ℕ) → passes q 48 10 ≡ true → AllDigits 10 ds → list_all q ds ≡ true
digits_pass q [] t h = refl
digits_pass q (c ∷ ds) t h = and_from (q c) (list_all q ds) (digit_passes q c t h.0) (digits_pass q ds t h.1)

pub starts : (c : ℕ) → digit_value c < 10 → start_of c ≡ digit
starts c h = let r = digit_from_value c h in digit_starts c r.0 (omega (arith, r.1))

-- What digits without a leading zero stand for.

value : (n : ℕ) (ds : List ℕ) → number 10 n ds ≡ digits_value_after 10 n ds
value n ds = grind arith

pub plain_integer : (negative : Bool) (c : ℕ) (ds : List ℕ) → eqb c 48 ≡ false → AllDigits 10 (c ∷ ds) → integer negative (c ∷ ds) ≡ within (number 10 0 (c ∷ ds))
plain_integer negative c ds e h =
    let hex : (has_prefix (codes "0x") (c ∷ ds) || has_prefix (codes "0X") (c ∷ ds)) ≡ false = rw e refl in
    let octal : (has_prefix (codes "0o") (c ∷ ds) || has_prefix (codes "0O") (c ∷ ds)) ≡ false = rw e refl in
    let binary : (has_prefix (codes "0b") (c ∷ ds) || has_prefix (codes "0B") (c ∷ ds)) ≡ false = rw e refl in
    let all : are_digits 10 (c ∷ ds) ≡ true = digits_pass (λ d. is_digit d 10) (c ∷ ds) refl h in
    cond-false _ _ _ hex ∙ (cond-false _ _ _ octal ∙ (cond-false _ _ _ binary ∙ (cond-true _ _ _ all ∙ rw e refl)))

-- a number's decimal text
abbrev pub Decimal : ℕ → Type 0
Decimal n = (first : ℕ) × (rest : List ℕ) × (decimal n ≡ first ∷ rest) × AllDigits 10 (first ∷ rest) × ((negative : Bool) → integer negative (first ∷ rest) ≡ Ok n)

small_decimal : (n : ℕ) (ds : List ℕ) → 0 < n → n < 2 ^ 128 → decimal n ≡ ds → 48 < get_or ds 0 0 → AllDigits 10 ds → digits_value_after 10 0 ds ≡ n → Decimal n
small_decimal n [] some small e h d v = absurd (omega arith)
small_decimal n (c ∷ ds) some small e h d v = (c, ds, e, d, λ negative. plain_integer negative c ds (ne_eqb c 48 (λ f. omega (arith, h, f))) d ∙ (ap within (value 0 (c ∷ ds) ∙ v) ∙ within_back n small))

pub decimal_text : (n : ℕ) → n < 2 ^ 65 → Decimal n
decimal_text n h = elim (cases_lt 0 n) [
  | inl some ↦
      let r = decimal_is_IsNumeral_wide n (omega arith) in
      small_decimal n (decimal n) some (omega arith) refl ((decimal_by_steps_wide (λ m ds. (0 < length ds) × (0 < m → 48 < get_or ds 0 0)) (λ m l. (omega arith, λ a. omega arith)) (λ m ds l h. (omega (arith, length-append ds ((48 + m % 10) ∷ [])), λ a. omega (arith, get_or-append ds ((48 + m % 10) ∷ []) 0 0 h.0, h.1 (omega arith)))) n (omega arith)).1 some) r.0.1 r.1
  | inr none ↦
      let e : n ≡ 0 = omega arith in
      subst Decimal (sym e) (48, [], decimal_digit 0 (omega arith), (omega arith, tt), λ negative. refl)
]

-- Numbers, and the numbers of tags.

no_numeral : (m : Mark) (z : List ℕ) → IsMark m → begins is_numeral z ≡ false → begins is_numeral (indicator m ++ z) ≡ false
no_numeral m z h1 h2 = grind arith

reads_number : (negative : Bool) (first body : List ℕ) (n : ℕ) (m : Mark) (z : List ℕ) → IsMark m → Closes z → AllDigits 10 body → integer negative (first ++ body) ≡ Ok n → ReadsNumber negative first (body ++ indicator m) z (Read (signed negative n m))
reads_number negative first body n m z h k d e = (
  false,
  body,
  indicator m,
  [],
  record {
    run = record { pass = digits_pass is_numeral body refl d; ends = no_numeral m z h k.no_numeral };
    indicator = indicates m z h k.no_word k.no_mark;
    tagging = (refl, and_right (not negative) _ k.no_paren);
    whole = ap (λ x. body ++ x) (sym (append-nil (indicator m)));
  },
  sym (ap (λ o. number_front negative false o (integer negative (first ++ body))) (mark_is m h) ∙ ap (number_front negative false (Some m)) e),
)

reads_tag : (first body : List ℕ) (n : ℕ) (m : Mark) (z : List ℕ) → IsMark m → AllDigits 10 body → integer false (first ++ body) ≡ Ok n → ReadsNumber false first (body ++ (indicator m ++ codes "(")) z (Read (TagOpen n m))
reads_tag first body n m z h1 h2 h3 = grind (arith, digits_pass, indicates, mark_is, no_numeral)

pub number_text : (n : ℕ) (m : Mark) (z : List ℕ) → n < 2 ^ 65 → IsMark m → Closes z → Chained (decimal n ++ indicator m) z (token nowhere (Number false n m) ∷ [])
number_text n m z l h k =
    let d = decimal_text n l in
    subst (λ (x : List ℕ). Chained (x ++ indicator m) z (token nowhere (Number false n m) ∷ [])) (sym d.2)
    (one_token (Number false n m) (d.0 ∷ (d.1 ++ indicator m)) z
    (subst (λ (s : Start). ReadsFrom s ProfileOne d.0 (d.1 ++ indicator m) z (Read (Number false n m))) (sym (starts d.0 d.3.0))
    (reads_number false (d.0 ∷ []) d.1 n m z h k d.3.1 (d.4 false))))

-- n is one more than the argument, so it isn't 0
pub negative_text : (n : ℕ) (m : Mark) (z : List ℕ) → suc n < 2 ^ 65 → IsMark m → Closes z → Chained (codes "-" ++ (decimal (suc n) ++ indicator m)) z (token nowhere (Number true (suc n) m) ∷ [])
negative_text n m z l h k =
    let d = decimal_text (suc n) l in
    subst (λ (x : List ℕ). Chained (codes "-" ++ (x ++ indicator m)) z (token nowhere (Number true (suc n) m) ∷ [])) (sym d.2)
    (one_token (Number true (suc n) m) (45 ∷ ((d.0 ∷ d.1) ++ indicator m)) z
    (subst (λ (c : Class). ReadsNumber true [] ((d.0 ∷ d.1) ++ indicator m) z (Read c)) (below n m) (reads_number true [] (d.0 ∷ d.1) (suc n) m z h k d.3 (d.4 true))))
  where
    below : (n : ℕ) (m : Mark) → signed true (suc n) m ≡ Number true (suc n) m
    below n m = let e : eqb (suc n) 0 ≡ false = ne_eqb (suc n) 0 (λ f. omega (arith, f)) in ap (λ b. Number (not b) (suc n) m) e

pub tag_text : (n : ℕ) (m : Mark) (z : List ℕ) → n < 2 ^ 65 → IsMark m → Chained (decimal n ++ (indicator m ++ codes "(")) z (token nowhere (TagOpen n m) ∷ [])
tag_text n m z l h =
    let d = decimal_text n l in
    subst (λ (x : List ℕ). Chained (x ++ (indicator m ++ codes "(")) z (token nowhere (TagOpen n m) ∷ [])) (sym d.2)
    (one_token (TagOpen n m) (d.0 ∷ (d.1 ++ (indicator m ++ codes "("))) z
    (subst (λ (s : Start). ReadsFrom s ProfileOne d.0 (d.1 ++ (indicator m ++ codes "(")) z (Read (TagOpen n m))) (sym (starts d.0 d.3.0))
    (reads_tag (d.0 ∷ []) d.1 n m z h d.3.1 (d.4 false))))

-- a number doesn't begin as an indicator does
pub decimal_begins : (n : ℕ) (z : List ℕ) → n < 2 ^ 65 → begins (λ c. eqb c 95) (decimal n ++ z) ≡ false
decimal_begins n z l =
    let d = decimal_text n l in
    ap (λ x. begins (λ c. eqb c 95) (x ++ z)) d.2 ∙ no_mark d.0 d.3.0
  where
    no_mark : (c : ℕ) → digit_value c < 10 → eqb c 95 ≡ false
    no_mark c h = let r = digit_from_value c h in ne_eqb c 95 (λ e. omega (arith, r.1, e))
