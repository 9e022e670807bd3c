-- Fronts in two parts: a kind, and the number or the content that goes with it.
use Rattle.std.specs.Prelude.{◌≡◌, ◌&&◌, ◌<◌, ◌≤◌, ◌∷◌, ◌++◌, ◌+◌}
use Rattle.cborn_lex.proofs.Common.{refl, sym, ◌∙◌, subst, ℕ, zero, suc, List, [], append-nil, length, take, drop, get_or, Bool, true, false, eqb, inl, inr, Option, None, Result, Ok, Err, IfOk, arith, false≢true, eq-eqb, and_right, and_parts, cases_lt, cond-false, Mark, Class, Front, Read, marked, mark_of, is_word, Profile, IsIndicator, IsRun, Start, digit, start_of, ReadsFrom, Prefix, prefix_of, IsPrefixed, ReadsWord, class_of, content_of, StandsFor, front_view, FrontStandsFor}
use Rattle.cborn_lex.specs.declared.classes.Kind.{Kind}
use Rattle.cborn_lex.specs.declared.fronts.Front.{Front as FrontIn}
use Rattle.cborn_lex.specs.declared.classes.Class.TheVariants as classes

nothing_in : (k : Kind) (n : ℕ) → content_of (class_of k n []) ≡ []
nothing_in k n = grind arith

-- where nothing was appended
pub nothing_appended : (f : FrontIn) (n : ℕ) (old new : List ℕ) → new ≡ old → FrontStandsFor f n old new (front_view n [] f)
nothing_appended f n old new h1 = grind (arith, append-nil, nothing_in)

-- a string
pub string_appended : (f : FrontIn) (n : ℕ) (x old new : List ℕ) (k : Mark → Class) (m : Option Mark) → ((a : Mark) → content_of (k a) ≡ x) → front_view n x f ≡ marked k m → new ≡ old ++ x → FrontStandsFor f n old new (marked k m)
string_appended f n x old new k m h1 h2 h3 = grind arith

-- an underscore and two characters of words, or more
pub long_mark : (x : List ℕ) (n : ℕ) → 2 < length x → get_or x 0 0 ≡ 95 → is_word (get_or x 1 0) ≡ true → is_word (get_or x 2 0) ≡ true → IsIndicator (take n x) (drop n x) → None ≡ mark_of (take n x)
long_mark [] n l u h k i = absurd (omega (arith, l))
long_mark (a ∷ []) n l u h k i = absurd (omega (arith, l))
long_mark (a ∷ b ∷ []) n l u h k i = absurd (omega (arith, l))
long_mark (a ∷ b ∷ c ∷ y) zero l u h k i = absurd (false≢true (sym i ∙ eq-eqb a 95 u))
long_mark (a ∷ b ∷ c ∷ y) (suc zero) l u h k i = absurd (false≢true (sym i.1.ends ∙ h))
long_mark (a ∷ b ∷ c ∷ y) (suc (suc zero)) l u h k i = absurd (false≢true (sym i.1.ends ∙ k))
long_mark (a ∷ b ∷ c ∷ y) (suc (suc (suc n))) l u h k i =
    sym (cond-false _ _ _ (and_right (eqb a 95) _ refl) ∙ (cond-false _ _ _ (and_right (eqb a 95) _ (and_right (eqb b 48) _ refl)) ∙ (cond-false _ _ _ (and_right (eqb a 95) _ (and_right (eqb b 49) _ refl))
    ∙ (cond-false _ _ _ (and_right (eqb a 95) _ (and_right (eqb b 50) _ refl)) ∙ cond-false _ _ _ (and_right (eqb a 95) _ (and_right (eqb b 51) _ refl))))))

-- an underscore and all characters of words after it
pub underscored : (x : List ℕ) (n : ℕ) → 0 < length x → get_or x 0 0 ≡ 95 → IsRun is_word (take n (drop 1 x)) (drop n (drop 1 x)) → IsIndicator (take (n + 1) x) (drop (n + 1) x)
underscored x n h1 h2 h3 = grind arith

-- a front that begins with the character c, where nothing was appended
pub from_plain : (profile : Profile) (c d n m : ℕ) (tail old : List ℕ) (f : FrontIn) → c ≡ d → n ≤ length tail → ReadsFrom (start_of d) profile d (take n tail) (drop n tail) (front_view m [] f)
    → (n ≤ length tail) × ((a : Front) × ReadsFrom (start_of c) profile c (take n tail) (drop n tail) a × FrontStandsFor f m old old a)
from_plain profile c d n m tail old f e h r = (h, (front_view m [] f, subst (λ (b : ℕ). ReadsFrom (start_of b) profile b (take n tail) (drop n tail) (front_view m [] f)) (sym e) r, nothing_appended f m old old refl))

-- the class, where its content alone was appended
pub same_class : (k : Kind) (n : ℕ) (old new : List ℕ) (c : Class) → old ≡ [] → StandsFor k n old new c → class_of k n new ≡ c
same_class k n old new c h1 h2 = grind arith

-- Digits.

abbrev pub passes : (ℕ → Bool) → ℕ → ℕ → Bool
passes p lo zero = true
passes p lo (suc n) = p lo && passes p (suc lo) n

pub passes_at : (p : ℕ → Bool) (lo n c : ℕ) → passes p lo n ≡ true → lo ≤ c → c < lo + n → p c ≡ true
passes_at p lo zero c h l k = absurd (omega arith)
passes_at p lo (suc n) c h l k =
    let hs = and_parts (p lo) (passes p (suc lo) n) h in
    elim (cases_lt lo c) [
      | inl above ↦ passes_at p (suc lo) n c hs.1 (omega arith) (omega arith)
      | inr same ↦ let e : c ≡ lo = omega arith in rw e hs.0
    ]

abbrev is_digit_start : Start → Bool
is_digit_start digit = true
is_digit_start _ = false

digit_start : (s : Start) → is_digit_start s ≡ true → s ≡ digit
digit_start s h1 = grind arith

pub digit_starts : (c : ℕ) → 48 ≤ c → c ≤ 57 → start_of c ≡ digit
digit_starts c h k = digit_start (start_of c) (passes_at (λ d. is_digit_start (start_of d)) 48 10 c refl h (omega (arith, k)))

-- the same of a string, which may want memory
pub quoted_from : {E : Type 0} (profile : Profile) (c d m : ℕ) (tail old new : List ℕ) (r : Result (FrontIn × ℕ) E) → c ≡ d → IfOk r (λ r. (r.1 ≤ length tail) × ((a : Front) × ReadsFrom (start_of d) profile d (take r.1 tail) (drop r.1 tail) a × ((n : ℕ) → FrontStandsFor r.0 n old new a)))
    → IfOk r (λ r. (r.1 ≤ length tail) × ((a : Front) × ReadsFrom (start_of c) profile c (take r.1 tail) (drop r.1 tail) a × FrontStandsFor r.0 m old new a))
quoted_from profile c d m tail old new (Err x) e h = tt
quoted_from profile c d m tail old new (Ok (f, n)) e h = let t = h.1 in (h.0, (t.0, subst (λ (b : ℕ). ReadsFrom (start_of b) profile b (take n tail) (drop n tail) t.0) (sym e) t.1, t.2 m))

-- Prefixes.

pub prefix_known : {E : Type 0} (p : Prefix) (word tail old new : List ℕ) (r : Result (FrontIn × ℕ) E) → prefix_of word ≡ p → IfOk r (λ r. (r.1 ≤ length tail) × ((a : Front) × IsPrefixed p (take r.1 tail) (drop r.1 tail) a × ((n : ℕ) → FrontStandsFor r.0 n old new a)))
    → IfOk r (λ r. (r.1 ≤ length tail) × ((a : Front) × IsPrefixed (prefix_of word) (take r.1 tail) (drop r.1 tail) a × ((n : ℕ) → FrontStandsFor r.0 n old new a)))
prefix_known p word tail old new r e h = subst (λ (q : Prefix). IfOk r (λ r. (r.1 ≤ length tail) × ((a : Front) × IsPrefixed q (take r.1 tail) (drop r.1 tail) a × ((n : ℕ) → FrontStandsFor r.0 n old new a)))) (sym e) h

-- `simple(`

pub simple_word : (c : ℕ) (tail : List ℕ) → 6 ≤ length tail → c ≡ 115 → get_or tail 0 0 ≡ 105 → get_or tail 1 0 ≡ 109 → get_or tail 2 0 ≡ 112 → get_or tail 3 0 ≡ 108 → get_or tail 4 0 ≡ 101 → get_or tail 5 0 ≡ 40 → ReadsWord c (take 6 tail) (drop 6 tail) (Read classes.SimpleOpen)
simple_word c (a ∷ b ∷ d ∷ e ∷ f ∷ g ∷ z) l h0 h1 h2 h3 h4 h5 h6 = rw (h0, h1, h2, h3, h4, h5, h6) (105 ∷ 109 ∷ 112 ∷ 108 ∷ 101 ∷ [], 40 ∷ [], record { pass = refl; ends = refl }, refl, inr (refl, refl, refl, refl))
simple_word c _ l h0 h1 h2 h3 h4 h5 h6 = absurd (omega (arith, l))
