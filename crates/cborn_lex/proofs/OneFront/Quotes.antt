-- Where a quoted string ends.
use Rattle.std.specs.Prelude.{◌≡◌, ◌∷◌, ◌++◌, ◌&&◌, ◌⊎◌}
use Rattle.cborn_lex.proofs.Common.{arith, refl, sym, ap, ◌∙◌, ℕ, List, [], true, false, not, cond, eqb, inl, inr, Option, Some, None, cond-false, and_parts, and_from, eqb-true, not-true, cases_Bool, is_not, is_content, is_unclosed, after}
use Rattle.cborn_lex.proofs.OneFront.Runs.{Found, Closer}

abbrev content_at : ℕ → List ℕ → Option (List ℕ)
content_at q [] = None
content_at q (c ∷ []) = cond (eqb c q) (Some []) None
content_at q (c ∷ d ∷ x) = cond (eqb c 92) (after (c ∷ d ∷ []) (content_at q x)) (cond (eqb c q) (Some []) (after (c ∷ []) (content_at q (d ∷ x))))

plain_char : (q c : ℕ) (d : ℕ) (x : List ℕ) → eqb c 92 ≡ false → eqb c q ≡ false → content_at q (c ∷ d ∷ x) ≡ after (c ∷ []) (content_at q (d ∷ x))
plain_char q c d x e h = rw (e, h) refl

taken_char : (q c : ℕ) (d : ℕ) (x : List ℕ) → eqb c 92 ≡ true → content_at q (c ∷ d ∷ x) ≡ after (c ∷ d ∷ []) (content_at q x)
taken_char q c d x e = rw e refl

-- what the tests of a first character say
pub content_taken : (q c d : ℕ) (x : List ℕ) → eqb c 92 ≡ true → is_content q (c ∷ d ∷ x) ≡ is_content q x
content_taken q c d x e = rw e refl

pub content_plain : (q c d : ℕ) (x : List ℕ) → eqb c 92 ≡ false → is_content q (c ∷ d ∷ x) ≡ (is_not q c && is_content q (d ∷ x))
content_plain q c d x e = rw e refl

pub unclosed_taken : (q c d : ℕ) (x : List ℕ) → eqb c 92 ≡ true → is_unclosed q (c ∷ d ∷ x) ≡ is_unclosed q x
unclosed_taken q c d x e = rw e refl

pub unclosed_plain : (q c d : ℕ) (x : List ℕ) → eqb c 92 ≡ false → is_unclosed q (c ∷ d ∷ x) ≡ (is_not q c && is_unclosed q (d ∷ x))
unclosed_plain q c d x e = rw e refl

pub content_cons : (q c : ℕ) (x : List ℕ) → eqb c 92 ≡ false → eqb c q ≡ false → is_content q x ≡ true → is_content q (c ∷ x) ≡ true
content_cons q c x h1 h2 h3 = grind arith

module _ (q : ℕ) (ne : eqb q 92 ≡ false) where
  at_quote : (x : List ℕ) → content_at q (q ∷ x) ≡ Some []
  at_quote x = grind arith

  content_is : (c x : List ℕ) → is_content q c ≡ true → content_at q (c ++ q ∷ x) ≡ Some c
  content_is [] x h = at_quote x
  content_is (a ∷ []) x h =
      let hs = and_parts (not (eqb a 92)) (is_not q a) h in
      plain_char q a q x (not-true _ hs.0) (not-true _ hs.1) ∙ ap (after (a ∷ [])) (at_quote x)
  content_is (a ∷ b ∷ c) x h = elim (cases_Bool (eqb a 92)) [
    | inl e ↦ taken_char q a b (c ++ q ∷ x) e ∙ ap (after (a ∷ b ∷ [])) (content_is c x (sym (content_taken q a b c e) ∙ h))
    | inr e ↦ let hs = and_parts (is_not q a) (is_content q (b ∷ c)) (sym (content_plain q a b c e) ∙ h) in
        plain_char q a b (c ++ q ∷ x) e (not-true _ hs.0) ∙ ap (after (a ∷ [])) (content_is (b ∷ c) x hs.1)
  ]

  unclosed_is : (y : List ℕ) → is_unclosed q y ≡ true → content_at q y ≡ None
  unclosed_is [] h = refl
  unclosed_is (a ∷ []) h = cond-false (eqb a q) _ _ (not-true _ h)
  unclosed_is (a ∷ b ∷ y) h = elim (cases_Bool (eqb a 92)) [
    | inl e ↦ taken_char q a b y e ∙ ap (after (a ∷ b ∷ [])) (unclosed_is y (sym (unclosed_taken q a b y e) ∙ h))
    | inr e ↦ let hs = and_parts (is_not q a) (is_unclosed q (b ∷ y)) (sym (unclosed_plain q a b y e) ∙ h) in
        plain_char q a b y e (not-true _ hs.0) ∙ ap (after (a ∷ [])) (unclosed_is (b ∷ y) hs.1)
  ]

  at_front : (c : ℕ) (y : List ℕ) → eqb c q ≡ true → Found (is_content q) q (c ∷ y)
  at_front c y e = record { content = []; after = y; inside = refl; text = ap (λ d. d ∷ y) (eqb-true c q e) }

  find_taken : (c d : ℕ) (x : List ℕ) → eqb c 92 ≡ true → Found (is_content q) q x ⊎ (is_unclosed q x ≡ true) → Found (is_content q) q (c ∷ d ∷ x) ⊎ (is_unclosed q (c ∷ d ∷ x) ≡ true)
  find_taken c d x e (inl r) = inl (record { content = c ∷ d ∷ r.content; after = r.after; inside = content_taken q c d r.content e ∙ r.inside; text = ap (λ y. c ∷ d ∷ y) r.text })
  find_taken c d x e (inr h) = inr (unclosed_taken q c d x e ∙ h)

  find_plain : (c d : ℕ) (x : List ℕ) → eqb c 92 ≡ false → eqb c q ≡ false → Found (is_content q) q (d ∷ x) ⊎ (is_unclosed q (d ∷ x) ≡ true) → Found (is_content q) q (c ∷ d ∷ x) ⊎ (is_unclosed q (c ∷ d ∷ x) ≡ true)
  find_plain c d x e h (inl r) = inl (record { content = c ∷ r.content; after = r.after; inside = content_cons q c r.content e h r.inside; text = ap (λ y. c ∷ y) r.text })
  find_plain c d x e h (inr k) = inr (unclosed_plain q c d x e ∙ and_from _ _ (ap not h) k)

  find : (y : List ℕ) → Found (is_content q) q y ⊎ (is_unclosed q y ≡ true)
  find [] = inr refl
  find (c ∷ []) = elim (cases_Bool (eqb c q)) [ inl e ↦ inl (at_front c [] e) | inr e ↦ inr (ap not e) ]
  find (c ∷ d ∷ x) = elim (cases_Bool (eqb c 92)) [
    | inl e ↦ find_taken c d x e (find x)
    | inr e ↦ elim (cases_Bool (eqb c q)) [ inl h ↦ inl (at_front c (d ∷ x) h) | inr h ↦ find_plain c d x e h (find (d ∷ x)) ]
  ]

  quoted_apart : (c x : List ℕ) → is_content q c ≡ true → is_unclosed q (c ++ q ∷ x) ≡ true → ⊥
  quoted_apart c x h k =
      let l = content_is c x h in
      let r = unclosed_is (c ++ q ∷ x) k in
      cc

  pub quoted : Closer (is_content q) (is_unclosed q) q
  quoted = record { find = find; one = (λ c d x y h k e. let l = content_is c x h in let r = content_is d y k in let m = ap (content_at q) e in cc); apart = quoted_apart }
