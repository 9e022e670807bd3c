-- Integers that are told apart by the form of their initial bytes.
use Rattle.std.specs.Prelude.{◌≡◌, ◌+◌, ◌*◌, ◌/◌, ◌%◌, ◌<◌, ◌≤◌, ◌∷◌, ◌++◌}
use Rattle.cborn_wire.proofs.Common.{ℕ, zero, suc, inl, inr, List, [], length, take, drop, get_or, refl, sym, ap, ◌∙◌, subst, arith, append_assoc, append-nil, length-append, length-drop, Width, Direct, One, Two, Four, Eight, AreBytes, least, Tree, Uint, Nint, IsInteger, IsShortLeaf, AreShortIntegers, Head, IsHeadOf, Next, info_at, width_bytes, number, nat_tests, least_direct, least_one, common_steps}
use Rattle.cborn_wire.specs.declared.heads.Argument.TheVariants as arguments
use Rattle.cborn_wire.specs.devices.ShortIntegers.{IsIntegerForm, top_of}
use Rattle.cborn_wire.proofs.HeadReading.HeadSteps.{head_front}
use Rattle.cborn_wire.proofs.Visiting.Leaves.{given_direct, given_wide}

-- a head of a width, as it is read
abbrev wide_of : List ℕ → Width → Head
wide_of x w = record { major = get_or x 0 0 / 32; argument = arguments.Given w (number w (take (width_bytes w) (drop 1 x))) }

wide_read : (x : List ℕ) (w : Width) → AreBytes x → get_or x 0 0 / 32 < 2 → info_at (get_or x 0 0 % 32) ≡ Next w → 1 + width_bytes w ≤ length x → IsHeadOf x (wide_of x w) (1 + width_bytes w)
wide_read x w are m i l = (given_wide x (drop 1 x) w (number w (take (width_bytes w) (drop 1 x))) (width_bytes w) refl are (omega arith) (omega arith) i (omega (arith, length-drop 1 x)) refl refl).head

least_two : (n : ℕ) → 256 ≤ n → n < 65536 → Two ≡ least n
least_two n p q = grind (arith, nat_tests)

least_four : (n : ℕ) → 65536 ≤ n → n < 4294967296 → Four ≡ least n
least_four n p q = grind (arith, nat_tests)

least_eight : (n : ℕ) → 4294967296 ≤ n → Eight ≡ least n
least_eight n p = grind (arith, nat_tests)

-- a list of nine bytes or more
abbrev Nine : ℕ → ℕ → ℕ → ℕ → ℕ → ℕ → ℕ → ℕ → ℕ → List ℕ → List ℕ
Nine f a b c d e g h i y = f ∷ a ∷ b ∷ c ∷ d ∷ e ∷ g ∷ h ∷ i ∷ y

module _ (p : ℕ) where
  -- an integer with the shortest head is at the offset p, of which this is the length
  abbrev Found : List ℕ → ℕ → Type 0
  Found x len = (t : Tree) × IsInteger t × IsShortLeaf p (take len x) t

  integer_read : (x : List ℕ) (w : Width) (n len q : ℕ) → q < 2 → IsHeadOf x (record { major = q; argument = arguments.Given w n }) len → w ≡ least n → Found x len
  integer_read x w n len zero low i l = (Uint p w n, tt, record { placed = refl; fits = i.fits; short = l; spells = sym (head_front x (record { major = 0; argument = arguments.Given w n }) len i) })
  integer_read x w n len (suc zero) low i l = (Nint p w n, tt, record { placed = refl; fits = i.fits; short = l; spells = sym (head_front x (record { major = 1; argument = arguments.Given w n }) len i) })
  integer_read x w n len (suc (suc q)) low i l = absurd (omega arith)

  wide_found : (x : List ℕ) (w : Width) (n len : ℕ) → AreBytes x → get_or x 0 0 / 32 < 2 → info_at (get_or x 0 0 % 32) ≡ Next w → 1 + width_bytes w ≤ length x → n ≡ number w (take (width_bytes w) (drop 1 x)) → w ≡ least n → len ≡ 1 + width_bytes w → Found x len
  wide_found x w n len are m i l e s k =
      subst (λ (j : ℕ). Found x j) (sym k)
      (integer_read x w (number w (take (width_bytes w) (drop 1 x))) (1 + width_bytes w) (get_or x 0 0 / 32) m (wide_read x w are m i l) (s ∙ ap least e))

  form_found : (f a b c d e g h i len top : ℕ) (y : List ℕ) → AreBytes (Nine f a b c d e g h i y) → IsIntegerForm f len top → top ≤ top_of a b c d → Found (Nine f a b c d e g h i y) len
  form_found f a b c d e g h i len top y are form over =
      elim form.1 [
        | inl s ↦ subst (λ (j : ℕ). Found (Nine f a b c d e g h i y) j) (sym s.1)
            (integer_read (Nine f a b c d e g h i y) Direct (f % 32) 1 (f / 32) form.0 (given_direct (Nine f a b c d e g h i y) are (omega arith) s.0).head (sym (least_direct (f % 32) s.0)))
        | inr (inl s) ↦ wide_found (Nine f a b c d e g h i y) One a len are form.0 (ap info_at s.0) (omega arith) refl (sym (least_one a (omega (arith, over, s.2, are.1.1.0, are.1.1.1.0, are.1.1.1.1.0)) are.1.0)) s.1
        | inr (inr (inl s)) ↦ wide_found (Nine f a b c d e g h i y) Two (a * 256 + b) len are form.0 (ap info_at s.0) (omega arith) refl
            (least_two (a * 256 + b) (omega (arith, over, s.2, are.1.1.0, are.1.1.1.0, are.1.1.1.1.0)) (omega (arith, are.1.0, are.1.1.0))) s.1
        | inr (inr (inr (inl s))) ↦ wide_found (Nine f a b c d e g h i y) Four (a * 16777216 + b * 65536 + c * 256 + d) len are form.0 (ap info_at s.0) (omega arith) refl
            (least_four (a * 16777216 + b * 65536 + c * 256 + d) (omega (arith, over, s.2)) (omega (arith, are.1.0, are.1.1.0, are.1.1.1.0, are.1.1.1.1.0))) s.1
        | inr (inr (inr (inr s))) ↦ wide_found (Nine f a b c d e g h i y) Eight (number Eight (a ∷ b ∷ c ∷ d ∷ e ∷ g ∷ h ∷ i ∷ [])) len are form.0 (ap info_at s.0) (omega arith) refl
            (least_eight (number Eight (a ∷ b ∷ c ∷ d ∷ e ∷ g ∷ h ∷ i ∷ [])) (omega (arith, over, s.2))) s.1
      ]

  pub integer_found : (x : List ℕ) (len top : ℕ) → AreBytes x → 9 ≤ length x → IsIntegerForm (get_or x 0 0) len top → top ≤ top_of (get_or x 1 0) (get_or x 2 0) (get_or x 3 0) (get_or x 4 0) → (t : Tree) × IsInteger t × IsShortLeaf p (take len x) t
  integer_found (f ∷ a ∷ b ∷ c ∷ d ∷ e ∷ g ∷ h ∷ i ∷ y) len top are l form over = form_found f a b c d e g h i len top y are form over
  integer_found x len top are l form over = absurd (omega arith)

-- one more integer

pub integers_more : (p : ℕ) (x y : List ℕ) (ts : List Tree) (t : Tree) → AreShortIntegers p x ts → IsInteger t → IsShortLeaf (p + length x) y t → AreShortIntegers p (x ++ y) (ts ++ t ∷ [])
integers_more p x y [] t are is short = grind (arith, common_steps, nat_tests, append-nil)
integers_more p x y (u ∷ ts) t (a, b, cut, first, here, are) is short = (
  a,
  b ++ y,
  ap (λ l. l ++ y) cut ∙ append_assoc a b y,
  first,
  here,
  integers_more (p + length a) b y ts t are is (subst (λ n. IsShortLeaf n y t) (omega (arith, ap length cut, length-append a b)) short),
)
