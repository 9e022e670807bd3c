-- A word and what follows it, and a string after its quote, as slices.
use Rattle.std.specs.Prelude.{◌≡◌, ◌+◌, ◌<◌, ◌≤◌, ◌∷◌, ◌++◌, ◌*◌, ◌^◌}
use Rattle.cborn_lex.proofs.Common.{sym, ap, ◌∙◌, subst, ℕ, List, [], length, take, drop, get_or, Bool, true, eqb, arith, append_assoc, add-one, inl, inr, Option, take-append-drop, length-append, length-take-le, length-drop, drop_more, Mark, LexReason, Class, Front, is_word, begins, Bad, mark_of, marked, IsRun, IsIndicator, IsAfterWord, ReadsWord, IsPrefixed, prefix_of, Closed, IsString, eqb-true, EmbedClose, Ok, Err, mul-le-mul_left, cond-true, cond-false, lt-ltb, le-ltb, drop_all, digit_value, NumberTooLarge, number, within}
use Rattle.cborn_lex.proofs.Sliced.Pieces.{front_is}

pub word_text : (text tail : List ℕ) (n : ℕ) → 0 < length text → tail ≡ drop 1 text → take (n + 1) text ≡ get_or text 0 0 ∷ take n tail
word_text text tail n h1 h2 = grind arith

pub word_made : (c n m : ℕ) (word tail after : List ℕ) (a : Front) → word ≡ c ∷ take n tail → after ≡ drop n tail → n ≤ length tail → IsRun is_word (take n tail) (drop n tail) → m ≤ length after → IsAfterWord word (take m after) (drop m after) a
    → (n + m ≤ length tail) × ReadsWord c (take (n + m) tail) (drop (n + m) tail) a
word_made c n m word tail after a e f h run k is =
    let parts : tail ≡ (take n tail ++ take m (drop n tail)) ++ drop m (drop n tail) = sym (take-append-drop n tail) ∙ (ap (λ x. take n tail ++ x) (sym (take-append-drop m (drop n tail))) ∙ sym (append_assoc (take n tail) (take m (drop n tail)) (drop m (drop n tail)))) in
    let fits : m ≤ length (drop n tail) = omega (arith, ap length f) in
    let s = front_is (n + m) tail (take n tail ++ take m (drop n tail)) (drop m (drop n tail)) parts (omega (arith, length-append (take n tail) (take m (drop n tail)), length-take-le n tail h, length-take-le m (drop n tail) fits)) in (
      omega (arith, length-drop n tail),
      (
        take n tail,
        take m (drop n tail),
        rw s.1 (subst (λ (x : List ℕ). IsRun is_word (take n tail) x) (sym (take-append-drop m (drop n tail))) run),
        s.0,
        rw s.1 (subst (λ (w : List ℕ). IsAfterWord w (take m (drop n tail)) (drop m (drop n tail)) a) e (subst (λ (x : List ℕ). IsAfterWord word (take m x) (drop m x) a) f is)),
      ),
    )

-- one character, and then what holds of the rest
pub prefix_made : (word after tail : List ℕ) (n : ℕ) (a : Front) → begins (λ c. eqb c 39) after ≡ true → tail ≡ drop 1 after → n ≤ length tail → IsPrefixed (prefix_of word) (take n tail) (drop n tail) a
    → (n + 1 ≤ length after) × IsAfterWord word (take (n + 1) after) (drop (n + 1) after) a
prefix_made word after tail n a h1 h2 h3 h4 = grind arith

-- a content, a quote and an indicator
module _ (whole : List ℕ → Bool) (q i m : ℕ) (tail content after : List ℕ) (inside : whole (take i tail) ≡ true) (fits : i < length tail) (quote : get_or tail i 0 ≡ q) (content_is : content ≡ take i tail) (after_is : after ≡ drop (i + 1) tail) (mark_fits : m ≤ length after) (indicator : IsIndicator (take m after) (drop m after)) where
  closed : (i + 1 + m ≤ length tail) × Closed whole q content (take m after) (take (i + 1 + m) tail) (drop (i + 1 + m) tail)
  closed =
      let fit : m ≤ length (drop (i + 1) tail) = omega (arith, ap length after_is) in
      let beyond : drop i tail ≡ q ∷ drop (i + 1) tail = drop_more tail i 0 fits ∙ ap (λ c. c ∷ drop (i + 1) tail) quote in
      let parts : tail ≡ (take i tail ++ q ∷ take m after) ++ drop m after =
      sym (take-append-drop i tail) ∙ (ap (λ x. take i tail ++ x) (beyond ∙ ap (λ x. q ∷ x) (sym after_is ∙ sym (take-append-drop m after))) ∙ sym (append_assoc (take i tail) (q ∷ take m after) (drop m after))) in
      let short : i ≤ length tail = omega arith in
      let s = front_is (i + 1 + m) tail (take i tail ++ q ∷ take m after) (drop m after) parts (omega (arith, length-append (take i tail) (q ∷ take m after), length-take-le i tail short, length-take-le m after mark_fits)) in
      (omega (arith, length-drop (i + 1) tail), rw content_is (record { inside = inside; text = s.0; indicator = rw s.1 indicator }))

  module _ (unclosed : List ℕ → Bool) (Is : List ℕ → List ℕ → Type 0) (r : LexReason) (k : List ℕ → Mark → Class) (a : Front) where
    pub string_ok : (bytes : List ℕ) (mark : Option Mark) → Is content bytes → a ≡ marked (k bytes) mark → mark ≡ mark_of (take m after) → (i + 1 + m ≤ length tail) × IsString whole unclosed q Is r k (take (i + 1 + m) tail) (drop (i + 1 + m) tail) a
    string_ok bytes mark is e f = (closed.0, inl (content, take m after, closed.1, inl (bytes, is, e ∙ ap (marked (k bytes)) f)))

    pub string_bad : ((bytes : List ℕ) → Is content bytes → ⊥) → a ≡ Bad r → (i + 1 + m ≤ length tail) × IsString whole unclosed q Is r k (take (i + 1 + m) tail) (drop (i + 1 + m) tail) a
    string_bad f e = (closed.0, inl (content, take m after, closed.1, inr (f, e)))

-- `>>` and its indicator
pub close_made : (tail after : List ℕ) (n : ℕ) (a : Front) → begins (λ c. eqb c 62) tail ≡ true → after ≡ drop 1 tail → IsIndicator (take n after) (drop n after) → a ≡ marked EmbedClose (mark_of (take n after))
    → (mark : List ℕ) × (take (n + 1) tail ≡ 62 ∷ mark) × IsIndicator mark (drop (n + 1) tail) × (a ≡ marked EmbedClose (mark_of mark))
close_made [] after n a h e k f = cc
close_made (c ∷ x) after n a h e k f =
    let same : after ≡ x = e in
    let front : c ≡ 62 = eqb-true c 62 h in
    (take n x, rw add-one (ap (λ d. d ∷ take n x) front), rw add-one (subst (λ (y : List ℕ). IsIndicator (take n y) (drop n y)) same k), subst (λ (y : List ℕ). a ≡ marked EmbedClose (mark_of (take n y))) same f)

-- The number that digits spell.

number_grows : (base n : ℕ) (ds : List ℕ) → 1 ≤ base → n ≤ number base n ds
number_grows base n [] h = omega arith
number_grows base n (d ∷ ds) h = omega (arith, mul-le-mul_left n h, number_grows base (n * base + digit_value d) ds h)

pub too_large : (base n i : ℕ) (ds : List ℕ) → 1 ≤ base → i < length ds → number base n (drop i ds) ≡ number base 0 ds → 2 ^ 128 ≤ n * base + digit_value (get_or ds i 0) → Err NumberTooLarge ≡ within (number base 0 ds)
too_large base n i ds h1 h2 h3 h4 = grind (arith, cond-false, drop_more, le-ltb, number_grows)

pub all_read : (base n i : ℕ) (ds : List ℕ) → length ds ≤ i → n < 2 ^ 128 → number base n (drop i ds) ≡ number base 0 ds → Ok n ≡ within (number base 0 ds)
all_read base n i ds h1 h2 h3 = grind (arith, cond-true, drop_all, lt-ltb)
