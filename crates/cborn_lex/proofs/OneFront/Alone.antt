-- The front of a text is one thing.
use Rattle.std.specs.Prelude.{◌≡◌, ◌∷◌, ◌++◌, ◌&&◌}
use Rattle.cborn_lex.proofs.Common.{arith, refl, sym, ap, ◌∙◌, subst, ℕ, List, [], Bool, true, false, eqb, inl, inr, Option, append_assoc, append-nil, and_from, eqb-true, both_ways, true≢false, list_all, bytes_eq, codes, Profile, One, Two, Mark, LexReason, BadEscape, BadHex, BadBase64, Class, EmbedClose, Text, Bytes, Front, is_not, begins, mark_of, marked, IsText, IsHex, IsBase64, Lacks, ContentGives, Closed, IsString, Prefix, hexadecimal, base64, unknown, prefix_of, IsPrefixed, IsAfterWord, ReadsWord, IsTag, ReadsNumber, double, simple, Start, white, slash, hash, less, greater, paren, letter, minus, digit, other, single, opening, start_of, paren_front, ReadsFrom, Reads}
use Rattle.cborn_lex.specs.Forms.{Through}
use Rattle.cborn_lex.proofs.OneFront.Runs.{rest, one_run, one_indicator, Closer, plain}
use Rattle.cborn_lex.proofs.OneFront.Found.{UpTo}
use Rattle.cborn_lex.proofs.OneFront.Quotes.{quoted}
use Rattle.cborn_lex.proofs.Contents.Texts.{text_one}
use Rattle.cborn_lex.proofs.Contents.Hexes.{hex_one}
use Rattle.cborn_lex.proofs.Contents.Base64s.{base64_one}

abbrev pub Same : List ℕ → List ℕ → Front → Front → Type 0
Same s t a b = (s ≡ t) × (a ≡ b)

pub same_head : {a b : ℕ} {x y : List ℕ} → a ∷ x ≡ b ∷ y → (a ≡ b) × (x ≡ y)
same_head e = (cc, cc)

fixed : (s t r : List ℕ) (a b f : Front) → (s ≡ r) × (a ≡ f) → (t ≡ r) × (b ≡ f) → Same s t a b
fixed s t r a b f h k = (h.0 ∙ sym k.0, h.1 ∙ sym k.1)

through_text : (q : ℕ) (body s z : List ℕ) → Through q body s → s ++ z ≡ body ++ q ∷ z
through_text q body s z h = ap (λ x. x ++ z) h.whole ∙ append_assoc body (q ∷ []) z

pub all_text : (s z : List ℕ) → z ≡ [] → s ++ z ≡ s
all_text s z h = ap (λ x. s ++ x) h ∙ append-nil s

not_both : (q : ℕ) (body s z t w : List ℕ) → Through q body s → Lacks q t w → s ++ z ≡ t ++ w → ⊥
not_both q body s z t w h k e =
    let same = sym (all_text t w k.all) ∙ (sym e ∙ through_text q body s z h) in
    (plain q).apart body z h.none (ap (list_all (is_not q)) (sym same) ∙ k.none)

up_to : (q : ℕ) (f g : Front) (s z t w : List ℕ) (a b : Front) → UpTo q f g s z a → UpTo q f g t w b → s ++ z ≡ t ++ w → Same s t a b
up_to q f g s z t w a b (inl (body, h, i)) (inl (inside, k, j)) e =
    let same = (plain q).one body inside z w h.none k.none (sym (through_text q body s z h) ∙ (e ∙ through_text q inside t w k)) in
    (h.whole ∙ (ap (λ x. x ++ q ∷ []) same ∙ sym k.whole), i ∙ sym j)
up_to q f g s z t w a b (inl (body, h, i)) (inr (k, j)) e = absurd (not_both q body s z t w h k e)
up_to q f g s z t w a b (inr (h, i)) (inl (body, k, j)) e = absurd (not_both q body t w s z k h (sym e))
up_to q f g s z t w a b (inr (h, i)) (inr (k, j)) e = (sym (all_text s z h.all) ∙ (e ∙ all_text t w k.all), i ∙ sym j)

-- Strings.

one_gives : (Is : List ℕ → Type 0) (r : LexReason) (k : List ℕ → Mark → Class) (m : Option Mark) (a b : Front) → ((x y : List ℕ) → Is x → Is y → x ≡ y) → ContentGives Is r k m a → ContentGives Is r k m b → a ≡ b
one_gives Is r k m a b one (inl (x, i, e)) (inl (y, j, f)) = e ∙ (ap (λ u. marked (k u) m) (one x y i j) ∙ sym f)
one_gives Is r k m a b one (inl (x, i, e)) (inr (never, f)) = absurd (never x i)
one_gives Is r k m a b one (inr (never, e)) (inl (y, j, f)) = absurd (never y j)
one_gives Is r k m a b one (inr (never, e)) (inr (also, f)) = e ∙ sym f

closed_text : (whole : List ℕ → Bool) (q : ℕ) (content mark s z : List ℕ) → Closed whole q content mark s z → s ++ z ≡ content ++ q ∷ (mark ++ z)
closed_text whole q content mark s z h = ap (λ x. x ++ z) h.text ∙ append_assoc content (q ∷ mark) z

module _ (whole unclosed : List ℕ → Bool) (q : ℕ) (closer : Closer whole unclosed q) (Is : List ℕ → List ℕ → Type 0) (r : LexReason) (k : List ℕ → Mark → Class) where
  no_end : (content mark s z t w : List ℕ) → Closed whole q content mark s z → unclosed t ≡ true → w ≡ [] → s ++ z ≡ t ++ w → ⊥
  no_end content mark s z t w h u n e =
      let same = sym (all_text t w n) ∙ (sym e ∙ closed_text whole q content mark s z h) in
      closer.apart content (mark ++ z) h.inside (ap unclosed (sym same) ∙ u)

  string : (s z t w : List ℕ) (a b : Front) → ((x b d : List ℕ) → Is x b → Is x d → b ≡ d) → IsString whole unclosed q Is r k s z a → IsString whole unclosed q Is r k t w b → s ++ z ≡ t ++ w → Same s t a b
  string s z t w a b one (inl (content, mark, h, i)) (inl (inside, sign, j, l)) e =
      let texts = sym (closed_text whole q content mark s z h) ∙ (e ∙ closed_text whole q inside sign t w j) in
      let same = closer.one content inside (mark ++ z) (sign ++ w) h.inside j.inside texts in
      let marks = one_indicator mark sign z w h.indicator j.indicator (same_head (rest content inside (q ∷ (mark ++ z)) (q ∷ (sign ++ w)) same texts)).1 in
      let moved = subst (λ (x : List ℕ). ContentGives (Is x) r k (mark_of sign) b) (sym same) l in (
        h.text ∙ (ap (λ x. x ++ q ∷ mark) same ∙ (ap (λ x. inside ++ q ∷ x) marks ∙ sym j.text)),
        one_gives (Is content) r k (mark_of sign) a b (one content) (subst (λ (x : List ℕ). ContentGives (Is content) r k (mark_of x) a) marks i) moved,
      )
  string s z t w a b one (inl (content, mark, h, i)) (inr (u, n, f)) e = absurd (no_end content mark s z t w h u n e)
  string s z t w a b one (inr (u, n, f)) (inl (content, mark, h, i)) e = absurd (no_end content mark t w s z h u n (sym e))
  string s z t w a b one (inr (u, n, f)) (inr (v, m, g)) e = (sym (all_text s z n) ∙ (e ∙ all_text t w m), f ∙ sym g)

prefixed : (p : Prefix) (s z t w : List ℕ) (a b : Front) → IsPrefixed p s z a → IsPrefixed p t w b → s ++ z ≡ t ++ w → Same s t a b
prefixed hexadecimal s z t w a b h k e = string _ _ 39 (plain 39) IsHex BadHex (Bytes false) s z t w a b hex_one h k e
prefixed base64 s z t w a b h k e = string _ _ 39 (plain 39) IsBase64 BadBase64 (Bytes false) s z t w a b base64_one h k e
prefixed unknown s z t w a b h k e = fixed s t [] a b _ h k

-- Words.

test_at : (p : ℕ → Bool) (c : ℕ) (z s : List ℕ) → begins p z ≡ false → z ≡ c ∷ s → p c ≡ true → ⊥
test_at p c z s h e k = both_ways (p c) (ap (begins p) (sym e) ∙ h) k

two_codes : (c d : ℕ) → c ≡ d → eqb c 39 ≡ true → eqb d 40 ≡ true → ⊥
two_codes c d e h k = let i : 39 ≡ 40 = sym (eqb-true c 39 h) ∙ (e ∙ eqb-true d 40 k) in true≢false (ap (λ n. eqb n 39) i)

no_simple : (word : List ℕ) (c : ℕ) (z s : List ℕ) → (bytes_eq word (codes "simple") && begins (λ d. eqb d 40) z) ≡ false → z ≡ c ∷ s → eqb c 40 ≡ true → bytes_eq word (codes "simple") ≡ true → ⊥
no_simple word c z s h e k is = both_ways _ h (and_from _ _ is (ap (begins (λ d. eqb d 40)) e ∙ k))

after_word : (word s z t w : List ℕ) (a b : Front) → IsAfterWord word s z a → IsAfterWord word t w b → s ++ z ≡ t ++ w → Same s t a b
after_word word [] z [] w a b h k e = (refl, h.2 ∙ sym k.2)
after_word word [] z (d ∷ t) w a b h (inl k) e = absurd (test_at (λ c. eqb c 39) d z (t ++ w) h.0 e k.0)
after_word word [] z (d ∷ t) w a b h (inr k) e = absurd (no_simple word d z (t ++ w) h.1 e k.0 k.1)
after_word word (c ∷ s) z [] w a b (inl h) k e = absurd (test_at (λ d. eqb d 39) c w (s ++ z) k.0 (sym e) h.0)
after_word word (c ∷ s) z [] w a b (inr h) k e = absurd (no_simple word c w (s ++ z) k.1 (sym e) h.0 h.1)
after_word word (c ∷ s) z (d ∷ t) w a b (inl h) (inl k) e =
    let es = same_head e in
    let r = prefixed (prefix_of word) s z t w a b h.1 k.1 es.1 in
    (ap (λ x. x ∷ s) es.0 ∙ ap (λ x. d ∷ x) r.0, r.1)
after_word word (c ∷ s) z (d ∷ t) w a b (inl h) (inr k) e = absurd (two_codes c d (same_head e).0 h.0 k.0)
after_word word (c ∷ s) z (d ∷ t) w a b (inr h) (inl k) e = absurd (two_codes d c (sym (same_head e).0) k.0 h.0)
after_word word (c ∷ s) z (d ∷ t) w a b (inr h) (inr k) e =
    (ap (λ x. x ∷ s) (same_head e).0 ∙ ap (λ x. d ∷ x) (h.2 ∙ sym k.2), h.3 ∙ sym k.3)

word_text : (word after s z : List ℕ) → s ≡ word ++ after → s ++ z ≡ word ++ (after ++ z)
word_text word after s z h = ap (λ x. x ++ z) h ∙ append_assoc word after z

words : (c : ℕ) (s z t w : List ℕ) (a b : Front) → ReadsWord c s z a → ReadsWord c t w b → s ++ z ≡ t ++ w → Same s t a b
words c s z t w a b h1 h2 h3 = grind (arith, after_word, one_run, rest, word_text)

-- Numbers.

tags : (negative p q : Bool) (s z t w : List ℕ) → IsTag negative p s z → IsTag negative q t w → s ++ z ≡ t ++ w → (s ≡ t) × (p ≡ q)
tags negative p q s z t w h1 h2 h3 = grind arith

number_text : (body mark tag s z : List ℕ) → s ≡ body ++ (mark ++ tag) → s ++ z ≡ body ++ (mark ++ (tag ++ z))
number_text body mark tag s z h = ap (λ x. x ++ z) h ∙ simp append_assoc

numbers : (negative : Bool) (first s z t w : List ℕ) (a b : Front) → ReadsNumber negative first s z a → ReadsNumber negative first t w b → s ++ z ≡ t ++ w → Same s t a b
numbers negative first s z t w a b h1 h2 h3 = grind (arith, number_text, one_indicator, one_run, rest, tags)

-- All kinds.

greater_text : (s z mark : List ℕ) → s ≡ 62 ∷ mark → s ++ z ≡ 62 ∷ (mark ++ z)
greater_text s z mark h = ap (λ x. x ++ z) h

pub one_from : (k : Start) (profile : Profile) (c : ℕ) (s z t w : List ℕ) (a b : Front) → ReadsFrom k profile c s z a → ReadsFrom k profile c t w b → s ++ z ≡ t ++ w → Same s t a b
one_from white profile c s z t w a b h k e = fixed s t [] a b _ h k
one_from slash profile c s z t w a b h k e = up_to 47 _ _ s z t w a b h k e
one_from hash One c s z t w a b h k e = fixed s t [] a b _ h k
one_from hash Two c s z t w a b h k e = up_to 10 _ _ s z t w a b h k e
one_from (single l) profile c s z t w a b h k e = fixed s t [] a b _ h k
one_from (opening l) profile c s z t w a b h k e = let r = one_indicator s t z w h.0 k.0 e in (r, h.1 ∙ (ap (λ x. marked l (mark_of x)) r ∙ sym k.1))
one_from less profile c s z t w a b (inl h) (inl k) e = fixed s t _ a b _ h k
one_from less profile c s z t w a b (inl h) (inr k) e = absurd (test_at (λ d. eqb d 60) 60 w z k.1 (ap (λ x. x ++ w) (sym k.0) ∙ (sym e ∙ ap (λ x. x ++ z) h.0)) refl)
one_from less profile c s z t w a b (inr h) (inl k) e = absurd (test_at (λ d. eqb d 60) 60 z w h.1 (ap (λ x. x ++ z) (sym h.0) ∙ (e ∙ ap (λ x. x ++ w) k.0)) refl)
one_from less profile c s z t w a b (inr h) (inr k) e = (h.0 ∙ sym k.0, h.2 ∙ sym k.2)
one_from greater profile c s z t w a b (inl (mark, h, i, j)) (inl (sign, k, l, m)) e =
    let r = one_indicator mark sign z w i l (same_head (sym (greater_text s z mark h) ∙ (e ∙ greater_text t w sign k))).1 in
    (h ∙ (ap (λ x. 62 ∷ x) r ∙ sym k), j ∙ (ap (λ x. marked EmbedClose (mark_of x)) r ∙ sym m))
one_from greater profile c s z t w a b (inl (mark, h, i, j)) (inr k) e = absurd (test_at (λ d. eqb d 62) 62 w (mark ++ z) k.1 (ap (λ x. x ++ w) (sym k.0) ∙ (sym e ∙ greater_text s z mark h)) refl)
one_from greater profile c s z t w a b (inr h) (inl (sign, k, l, m)) e = absurd (test_at (λ d. eqb d 62) 62 z (sign ++ w) h.1 (ap (λ x. x ++ z) (sym h.0) ∙ (e ∙ greater_text t w sign k)) refl)
one_from greater profile c s z t w a b (inr h) (inr k) e = (h.0 ∙ sym k.0, h.2 ∙ sym k.2)
one_from paren profile c s z t w a b h k e = let r = one_indicator s t z w h.0 k.0 e in (r, h.1 ∙ (ap paren_front r ∙ sym k.1))
one_from double profile c s z t w a b h k e = string _ _ 34 (quoted 34 refl) (IsText 34) BadEscape Text s z t w a b (text_one 34) h k e
one_from simple profile c s z t w a b h k e = string _ _ 39 (quoted 39 refl) (IsText 39) BadEscape (Bytes true) s z t w a b (text_one 39) h k e
one_from minus profile c s z t w a b h k e = numbers true [] s z t w a b h k e
one_from digit profile c s z t w a b h k e = numbers false (c ∷ []) s z t w a b h k e
one_from letter profile c s z t w a b h k e = words c s z t w a b h k e
one_from other profile c s z t w a b h k e = fixed s t [] a b _ h k

pub one_front : (profile : Profile) (s z t w : List ℕ) (a b : Front) → Reads profile s z a → Reads profile t w b → s ++ z ≡ t ++ w → Same s t a b
one_front profile [] z t w a b h k e = absurd h
one_front profile (c ∷ s) z [] w a b h k e = absurd k
one_front profile (c ∷ s) z (d ∷ t) w a b h k e =
    let es = same_head e in
    let r = one_from (start_of d) profile d s z t w a b (subst (λ (x : ℕ). ReadsFrom (start_of x) profile x s z a) es.0 h) k es.1 in
    (ap (λ x. x ∷ s) es.0 ∙ ap (λ x. d ∷ x) r.0, r.1)
