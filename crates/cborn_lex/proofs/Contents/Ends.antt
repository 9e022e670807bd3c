-- The loop that looks for a string's closing quote.
use Rattle.std.specs.Prelude.{◌≡◌, ◌+◌, ◌<◌, ◌≤◌, ◌∷◌, ◌++◌}
use Rattle.cborn_lex.proofs.Common.{refl, sym, ap, ◌∙◌, ℕ, List, [], length, take, get_or, true, false, not, eqb, inl, inr, arith, append-nil, append_assoc, and_parts, and_from, eq-eqb, ne_eqb, not-true, cases_Bool, false≢true, take_more, take_all, is_not, is_content, is_unclosed}
use Rattle.cborn_lex.proofs.OneFront.Quotes.{content_cons, content_taken, content_plain, unclosed_taken, unclosed_plain}

pub content_then : (q : ℕ) (x y : List ℕ) → is_content q x ≡ true → is_content q y ≡ true → is_content q (x ++ y) ≡ true
content_then q [] y h k = k
content_then q (a ∷ []) y h k = let hs = and_parts (not (eqb a 92)) (is_not q a) h in content_cons q a y (not-true _ hs.0) (not-true _ hs.1) k
content_then q (a ∷ b ∷ x) y h k = elim (cases_Bool (eqb a 92)) [
  | inl e ↦ content_taken q a b (x ++ y) e ∙ content_then q x y (sym (content_taken q a b x e) ∙ h) k
  | inr e ↦ let hs = and_parts (is_not q a) (is_content q (b ∷ x)) (sym (content_plain q a b x e) ∙ h) in content_plain q a b (x ++ y) e ∙ and_from _ _ hs.0 (content_then q (b ∷ x) y hs.1 k)
]

unclosed_cons : (q a : ℕ) (y : List ℕ) → eqb a 92 ≡ false → is_not q a ≡ true → is_unclosed q y ≡ true → is_unclosed q (a ∷ y) ≡ true
unclosed_cons q a y h1 h2 h3 = grind arith

pub unclosed_then : (q : ℕ) (x y : List ℕ) → is_content q x ≡ true → is_unclosed q y ≡ true → is_unclosed q (x ++ y) ≡ true
unclosed_then q [] y h k = k
unclosed_then q (a ∷ []) y h k = let hs = and_parts (not (eqb a 92)) (is_not q a) h in unclosed_cons q a y (not-true _ hs.0) hs.1 k
unclosed_then q (a ∷ b ∷ x) y h k = elim (cases_Bool (eqb a 92)) [
  | inl e ↦ unclosed_taken q a b (x ++ y) e ∙ unclosed_then q x y (sym (content_taken q a b x e) ∙ h) k
  | inr e ↦ let hs = and_parts (is_not q a) (is_content q (b ∷ x)) (sym (content_plain q a b x e) ∙ h) in unclosed_plain q a b (x ++ y) e ∙ and_from _ _ hs.0 (unclosed_then q (b ∷ x) y hs.1 k)
]

pub one_more : (q at : ℕ) (tail : List ℕ) → at < length tail → is_content q (take at tail) ≡ true → (get_or tail at 0 ≡ 92 → ⊥) → (get_or tail at 0 ≡ q → ⊥) → is_content q (take (at + 1) tail) ≡ true
one_more q at tail h k e f = ap (is_content q) (take_more tail at 0 h) ∙ content_then q (take at tail) (get_or tail at 0 ∷ []) k (and_from _ _ (ap not (ne_eqb _ 92 e)) (ap not (ne_eqb _ q f)))

pub two_more : (q at : ℕ) (tail : List ℕ) → at + 1 < length tail → is_content q (take at tail) ≡ true → get_or tail at 0 ≡ 92 → is_content q (take (at + 2) tail) ≡ true
two_more q at tail h k e =
    let near : at < length tail = omega arith in
    let two : at + 1 + 1 ≡ at + 2 = omega arith in
    let first : take (at + 1) tail ≡ take at tail ++ get_or tail at 0 ∷ [] = take_more tail at 0 near in
    let both : take (at + 2) tail ≡ take at tail ++ get_or tail at 0 ∷ get_or tail (at + 1) 0 ∷ [] = ap (λ n. take n tail) (sym two) ∙ (take_more tail (at + 1) 0 h ∙ rw first (simp append_assoc)) in
    ap (is_content q) both ∙ content_then q (take at tail) (get_or tail at 0 ∷ get_or tail (at + 1) 0 ∷ []) k (content_taken q (get_or tail at 0) (get_or tail (at + 1) 0) [] (eq-eqb _ 92 e))

pub ends : (q at : ℕ) (tail : List ℕ) → length tail ≤ at → is_content q (take at tail) ≡ true → is_unclosed q tail ≡ true
ends q at tail h k = ap (is_unclosed q) (sym (append-nil (take at tail) ∙ take_all at tail h)) ∙ unclosed_then q (take at tail) [] k refl

pub ends_escaped : (q at : ℕ) (tail : List ℕ) → eqb q 92 ≡ false → at < length tail → length tail ≤ at + 1 → is_content q (take at tail) ≡ true → get_or tail at 0 ≡ 92 → is_unclosed q tail ≡ true
ends_escaped q at tail ne h l k e =
    let all : tail ≡ take at tail ++ get_or tail at 0 ∷ [] = sym (take_all (at + 1) tail l) ∙ take_more tail at 0 h in
    ap (is_unclosed q) all ∙ unclosed_then q (take at tail) (get_or tail at 0 ∷ []) k (rw e (ap not (slash q ne)))
  where
    slash : (q : ℕ) → eqb q 92 ≡ false → eqb 92 q ≡ false
    slash q ne = ne_eqb 92 q (λ f. false≢true (sym ne ∙ eq-eqb q 92 (sym f)))
