-- A content is the letters of one text, or of none.
use Rattle.std.specs.Prelude.{◌≡◌, ◌<◌, ◌∷◌, ◌++◌, ◌&&◌, ◌⊎◌}
use Rattle.cborn_lex.proofs.Common.{refl, sym, ap, ◌∙◌, subst, ℕ, zero, suc, List, [], length, Bool, true, false, not, cond, eqb, leb, inl, inr, Option, Some, None, arith, cond-true, cond-false, and_parts, and_from, eqb-true, not-true, or_parts, or_from, list_all, flat_map, is_escape, are_hex, is_high, is_low, code, four, IsText, Letter, raw, escaped, unit, pair, written, meant, is_letter, HasLetters}
use Rattle.cborn_lex.specs.Strings as text

-- What a content stands for is what its letters mean.

letter_more : (q : ℕ) (l : Letter) (x y : List ℕ) → is_letter q l ≡ true → HasLetters q x y → HasLetters q (written l ++ x) (meant l ++ y)
letter_more q l x y h t = record { letters = l ∷ t.letters; allowed = and_from _ _ h t.allowed; whole = ap (λ z. written l ++ z) t.whole; value = ap (λ z. meant l ++ z) t.value }

pub has_letters : (q : ℕ) {x y : List ℕ} → IsText q x y → HasLetters q x y
has_letters q text.nothing = record { letters = []; allowed = refl; whole = refl; value = refl }
has_letters q (text.raw c x y h t) = letter_more q (raw c) x y h (has_letters q t)
has_letters q (text.escaped e x y h t) = letter_more q (escaped e) x y h (has_letters q t)
has_letters q (text.unit a b c d x y h t) = letter_more q (unit a b c d) x y h (has_letters q t)
has_letters q (text.pair a b c d e f g i x y h t) = letter_more q (pair a b c d e f g i) x y h (has_letters q t)

letters_are : (q : ℕ) (ls : List Letter) → list_all (is_letter q) ls ≡ true → IsText q (flat_map written ls) (flat_map meant ls)
letters_are q [] h = text.nothing
letters_are q (raw c ∷ ls) h = let hs = and_parts (is_letter q (raw c)) (list_all (is_letter q) ls) h in text.raw c _ _ hs.0 (letters_are q ls hs.1)
letters_are q (escaped e ∷ ls) h = let hs = and_parts (is_letter q (escaped e)) (list_all (is_letter q) ls) h in text.escaped e _ _ hs.0 (letters_are q ls hs.1)
letters_are q (unit a b c d ∷ ls) h = let hs = and_parts (is_letter q (unit a b c d)) (list_all (is_letter q) ls) h in text.unit a b c d _ _ hs.0 (letters_are q ls hs.1)
letters_are q (pair a b c d e f g i ∷ ls) h = let hs = and_parts (is_letter q (pair a b c d e f g i)) (list_all (is_letter q) ls) h in text.pair a b c d e f g i _ _ hs.0 (letters_are q ls hs.1)

pub is_text : (q : ℕ) (x y : List ℕ) → HasLetters q x y → IsText q x y
is_text q x y t = subst (λ (c : List ℕ). IsText q c y) (sym t.whole) (subst (IsText q (flat_map written t.letters)) (sym t.value) (letters_are q t.letters t.allowed))

-- the letter at the front, and what follows it
abbrev pub low_at : ℕ → ℕ → ℕ → ℕ → List ℕ → Option (Letter × List ℕ)
low_at a b c d (s ∷ u ∷ e ∷ f ∷ g ∷ h ∷ x) = cond ((eqb s 92 && eqb u 117) && (are_hex e f g h && is_low (code e f g h))) (Some (pair a b c d e f g h, x)) None
low_at a b c d _ = None

abbrev pub unit_at : List ℕ → Option (Letter × List ℕ)
unit_at (a ∷ b ∷ c ∷ d ∷ x) = cond (are_hex a b c d) (cond (is_high (code a b c d)) (low_at a b c d x) (cond (is_low (code a b c d)) None (Some (unit a b c d, x)))) None
unit_at _ = None

abbrev pub escape_at : ℕ → List ℕ → Option (Letter × List ℕ)
escape_at q [] = None
escape_at q (e ∷ x) = cond (is_escape q e) (Some (escaped e, x)) (cond (eqb e 117) (unit_at x) None)

abbrev pub letter_at : ℕ → List ℕ → Option (Letter × List ℕ)
letter_at q [] = None
letter_at q (c ∷ x) = cond (eqb c 92) (escape_at q x) (cond (leb 32 c) (Some (raw c, x)) None)

pub letter_is : (q : ℕ) (l : Letter) (x : List ℕ) → is_letter q l ≡ true → letter_at q (written l ++ x) ≡ Some (l, x)
letter_is q l x h1 = grind (arith, and_parts, cond-false, cond-true, not-true, or_parts)

pub record LetterAt (q : ℕ) (x : List ℕ) (l : Letter) (y : List ℕ) : Type 0 where
  pub allowed : is_letter q l ≡ true
  pub whole : x ≡ written l ++ y

abbrev pub MatchAt : ℕ → List ℕ → Option (Letter × List ℕ) → Type 0
MatchAt q x None = Unit {0}
MatchAt q x (Some r) = LetterAt q x r.0 r.1

-- a choice, by its test
chosen : (q : ℕ) (x : List ℕ) (b : Bool) (r s : Option (Letter × List ℕ)) → (b ≡ true → MatchAt q x r) → (b ≡ false → MatchAt q x s) → MatchAt q x (cond b r s)
chosen q x b r s h1 h2 = grind arith

low_at_is : (q a b c d : ℕ) (x : List ℕ) → are_hex a b c d ≡ true → is_high (code a b c d) ≡ true → MatchAt q (four a b c d ++ x) (low_at a b c d x)
low_at_is q a b c d (s ∷ u ∷ e ∷ f ∷ g ∷ h ∷ x) k l =
    chosen q _ ((eqb s 92 && eqb u 117) && (are_hex e f g h && is_low (code e f g h))) _ _
    (λ t.
    let ts = and_parts (eqb s 92 && eqb u 117) (are_hex e f g h && is_low (code e f g h)) t in
    let us = and_parts (eqb s 92) (eqb u 117) ts.0 in
    record { allowed = and_from _ _ (and_from _ _ k l) ts.1; whole = rw (eqb-true s 92 us.0, eqb-true u 117 us.1) refl })
    (λ t. tt)
low_at_is q a b c d _ k l = tt

unit_at_is : (q : ℕ) (x : List ℕ) → MatchAt q (92 ∷ 117 ∷ x) (unit_at x)
unit_at_is q (a ∷ b ∷ c ∷ d ∷ x) =
    chosen q _ (are_hex a b c d) _ _
    (λ k. chosen q _ (is_high (code a b c d)) _ _
    (λ l. low_at_is q a b c d x k l)
    (λ l. chosen q _ (is_low (code a b c d)) _ _ (λ m. tt) (λ m. record { allowed = and_from _ _ k (ap not (or_from _ _ l m)); whole = refl })))
    (λ k. tt)
unit_at_is q _ = tt

escape_at_is : (q : ℕ) (x : List ℕ) → MatchAt q (92 ∷ x) (escape_at q x)
escape_at_is q [] = tt
escape_at_is q (e ∷ x) =
    chosen q _ (is_escape q e) _ _ (λ h. record { allowed = h; whole = refl }) (λ h. chosen q _ (eqb e 117) _ _ (λ k. (subst (λ (d : ℕ). MatchAt q (92 ∷ d ∷ x) (unit_at x)) (sym (eqb-true e 117 k)) (unit_at_is q x))) (λ k. tt))

escape_of : (q c : ℕ) (x : List ℕ) → eqb c 92 ≡ true → MatchAt q (c ∷ x) (escape_at q x)
escape_of q c x h = subst (λ (d : ℕ). MatchAt q (d ∷ x) (escape_at q x)) (sym (eqb-true c 92 h)) (escape_at_is q x)

pub letter_at_is : (q : ℕ) (x : List ℕ) → MatchAt q x (letter_at q x)
letter_at_is q x = grind (arith, and_from, chosen, eqb, escape_of, leb, not)

some_parts : (l m : Letter) (y z : List ℕ) (o : Option (Letter × List ℕ)) → o ≡ Some (l, y) → o ≡ Some (m, z) → (l ≡ m) × (y ≡ z)
some_parts l m y z o e h = let p : (l, y) ≡ (m, z) = cc in (ap (λ (r : Letter × List ℕ). r.0) p, ap (λ (r : Letter × List ℕ). r.1) p)

no_some : (l : Letter) (y : List ℕ) (o : Option (Letter × List ℕ)) → o ≡ Some (l, y) → o ≡ None → ⊥
no_some l y o e h = cc

one_letter : (q : ℕ) (l m : Letter) (y z : List ℕ) → is_letter q l ≡ true → is_letter q m ≡ true → written l ++ y ≡ written m ++ z → (l ≡ m) × (y ≡ z)
one_letter q l m y z h k e = some_parts l m y z (letter_at q (written m ++ z)) (ap (letter_at q) (sym e) ∙ letter_is q l y h) (letter_is q m z k)

no_letter : (q : ℕ) (l : Letter) (y : List ℕ) → is_letter q l ≡ true → [] ≡ written l ++ y → ⊥
no_letter q l y h e = no_some l y (letter_at q (written l ++ y)) (letter_is q l y h) (ap (letter_at q) (sym e))

-- letters determine a text, and a text determines them
pub one_letters : (q : ℕ) (ls ms : List Letter) → list_all (is_letter q) ls ≡ true → list_all (is_letter q) ms ≡ true → flat_map written ls ≡ flat_map written ms → ls ≡ ms
one_letters q [] [] h k e = refl
one_letters q [] (m ∷ ms) h k e = absurd (no_letter q m (flat_map written ms) (and_parts _ _ k).0 e)
one_letters q (l ∷ ls) [] h k e = absurd (no_letter q l (flat_map written ls) (and_parts _ _ h).0 (sym e))
one_letters q (l ∷ ls) (m ∷ ms) h k e =
    let hs = and_parts (is_letter q l) (list_all (is_letter q) ls) h in
    let ks = and_parts (is_letter q m) (list_all (is_letter q) ms) k in
    let both = one_letter q l m (flat_map written ls) (flat_map written ms) hs.0 ks.0 e in
    let tails = one_letters q ls ms hs.1 ks.1 both.1 in
    ap (λ n. n ∷ ls) both.0 ∙ ap (λ ns. m ∷ ns) tails

pub text_one : (q : ℕ) (x b d : List ℕ) → IsText q x b → IsText q x d → b ≡ d
text_one q x b d s t =
    let h = has_letters q s in
    let k = has_letters q t in
    h.value ∙ (ap (flat_map meant) (one_letters q h.letters k.letters h.allowed k.allowed (sym h.whole ∙ k.whole)) ∙ sym k.value)

pub record Letters (q : ℕ) (x : List ℕ) : Type 0 where
  pub letters : List Letter
  pub allowed : list_all (is_letter q) letters ≡ true
  pub whole : x ≡ flat_map written letters

abbrev pub NoLetters : ℕ → List ℕ → Type 0
NoLetters q x = (ls : List Letter) → list_all (is_letter q) ls ≡ true → x ≡ flat_map written ls → ⊥

pub longer : (l : Letter) (y : List ℕ) → length y < length (written l ++ y)
longer l y = grind arith

pub no_letters : (q c : ℕ) (x : List ℕ) → letter_at q (c ∷ x) ≡ None → NoLetters q (c ∷ x)
no_letters q c x e [] h k = cc
no_letters q c x e (l ∷ ls) h k = no_some l (flat_map written ls) (letter_at q (c ∷ x)) (ap (letter_at q) k ∙ letter_is q l (flat_map written ls) (and_parts _ _ h).0) e

pub no_more : (q : ℕ) (l : Letter) (x y : List ℕ) → LetterAt q x l y → NoLetters q y → NoLetters q x
no_more q l x y r none [] h k = no_letter q l y r.allowed (sym k ∙ r.whole)
no_more q l x y r none (m ∷ ms) h k =
    let hs = and_parts (is_letter q m) (list_all (is_letter q) ms) h in
    none ms hs.1 (one_letter q l m y (flat_map written ms) r.allowed hs.0 (sym r.whole ∙ k)).1

cons_letters : (q : ℕ) (l : Letter) (x y : List ℕ) → LetterAt q x l y → Letters q y ⊎ NoLetters q y → Letters q x ⊎ NoLetters q x
cons_letters q l x y r (inl t) = inl (record { letters = l ∷ t.letters; allowed = and_from _ _ r.allowed t.allowed; whole = r.whole ∙ ap (λ z. written l ++ z) t.whole })
cons_letters q l x y r (inr none) = inr (no_more q l x y r none)

letters_from : (q c : ℕ) (x : List ℕ) (o : Option (Letter × List ℕ)) → letter_at q (c ∷ x) ≡ o → MatchAt q (c ∷ x) o → ((y : List ℕ) → length y < length (c ∷ x) → Letters q y ⊎ NoLetters q y) → Letters q (c ∷ x) ⊎ NoLetters q (c ∷ x)
letters_from q c x None e h f = inr (no_letters q c x e)
letters_from q c x (Some (l, y)) e h f = cons_letters q l (c ∷ x) y h (f y (let k = longer l y in omega (arith, ap length h.whole)))

letters_below : (q n : ℕ) (x : List ℕ) → length x < n → Letters q x ⊎ NoLetters q x
letters_below q zero x h = absurd (omega arith)
letters_below q (suc n) [] h = inl (record { letters = []; allowed = refl; whole = refl })
letters_below q (suc n) (c ∷ x) h = letters_from q c x (letter_at q (c ∷ x)) refl (letter_at_is q (c ∷ x)) (λ y k. letters_below q n y (omega arith))

text_of : (q : ℕ) (x : List ℕ) → Letters q x ⊎ NoLetters q x → ((bytes : List ℕ) × IsText q x bytes) ⊎ ((bytes : List ℕ) → IsText q x bytes → ⊥)
text_of q x (inl t) = inl (flat_map meant t.letters, is_text q x (flat_map meant t.letters) (record { letters = t.letters; allowed = t.allowed; whole = t.whole; value = refl }))
text_of q x (inr none) = inr (λ bytes t. let h = has_letters q t in none h.letters h.allowed h.whole)

pub text_cases : (q : ℕ) (x : List ℕ) → ((bytes : List ℕ) × IsText q x bytes) ⊎ ((bytes : List ℕ) → IsText q x bytes → ⊥)
text_cases q x = text_of q x (letters_below q (suc (length x)) x (omega arith))
