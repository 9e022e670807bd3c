-- What Good.antt takes as white space, a comment or a token reads as that by Forms.antt.
use Rattle.std.specs.Prelude.{◌≡◌, ◌<◌, ◌≤◌, ◌^◌, ◌∷◌, ◌++◌, ◌&&◌, ◌||◌, ◌⊎◌}
use Rattle.cborn_lex.proofs.Common.{refl, sym, ap, ◌∙◌, subst, ℕ, List, [], Bool, true, false, eqb, inl, inr, Option, Some, None, Ok, append-nil, arith, eqb-true, and_parts, or_parts, lt-ltb, list_all, is_digit, codes, Profile, Two, Mark, Class, ArrayOpen, MapOpen, EmbedClose, Text, Bytes, TagOpen, Word, Front, WhiteSpace, Read, is_white, is_word, is_numeral, is_not, begins, mark_of, marked, are_digits, number, within, has_prefix, integer, signed, number_front, white, hash, digit, start_of, ReadsFrom, Reads, IsMark, IsLiteral, IsNumeral, IsName, IsCoded, Takes, drop}
use Rattle.cborn_lex.specs.Good as good
use Rattle.cborn_lex.proofs.TwoParts.{digit_starts}

abbrev pub front_of : Option Class → Front
front_of None = WhiteSpace
front_of (Some k) = Read k

-- Digits.

far : (d k : ℕ) → d < k → eqb d k ≡ false
far d k h1 = grind arith

pub and_false : (b : Bool) → (b && false) ≡ false
and_false b = grind arith

pub or_cases : (a b : Bool) → (a || b) ≡ true → (a ≡ true) ⊎ (b ≡ true)
or_cases a b h1 = grind arith

pub never : {A : Type 0} → false ≡ true → A
never e = absurd (let f : false ≡ true = e in cc)

-- a decimal digit
in_ten : (c : ℕ) → is_digit c 10 ≡ true → (48 ≤ c) × (c ≤ 57)
in_ten c h1 = grind arith

-- two characters at the front
second : (b : ℕ) (x : List ℕ) → has_prefix (48 ∷ b ∷ []) x ≡ true → (y : List ℕ) × (x ≡ 48 ∷ b ∷ y)
second b [] e = never e
second b (c ∷ []) e = never (and_parts (eqb c 48) false e).1
second b (c ∷ d ∷ y) e =
    let h = and_parts (eqb c 48) (eqb d b && true) e in
    let k = and_parts (eqb d b) true h.1 in
    (y, ap (λ n. n ∷ d ∷ y) (eqb-true c 48 h.0) ∙ ap (λ n. 48 ∷ n ∷ y) (eqb-true d b k.0))

no_prefix : (b : ℕ) (x : List ℕ) → are_digits 10 x ≡ true → 57 < b → has_prefix (48 ∷ b ∷ []) x ≡ false
no_prefix b [] e h = refl
no_prefix b (c ∷ []) e h = and_false (eqb c 48)
no_prefix b (c ∷ d ∷ y) e h =
    let two = and_parts (is_digit c 10) (is_digit d 10 && list_all (λ n. is_digit n 10) y) e in
    let one = and_parts (is_digit d 10) (list_all (λ n. is_digit n 10) y) two.1 in
    rw (far d b (omega (arith, h, (in_ten d one.0).1))) (and_false (eqb c 48))

pub within_back : (n : ℕ) → n < 2 ^ 128 → within n ≡ Ok n
within_back n h = rw (lt-ltb n (2 ^ 128) h) refl

-- a literal is read as its value, if that is below 2^128
pub literal_is : (negative : Bool) (x : List ℕ) (v : ℕ) → IsLiteral x v → integer negative x ≡ within v
literal_is negative x v (good.decimal y d z) =
    rw (no_prefix 120 y d (omega arith), no_prefix 88 y d (omega arith), no_prefix 111 y d (omega arith), no_prefix 79 y d (omega arith), no_prefix 98 y d (omega arith), no_prefix 66 y d (omega arith), d, z) refl
literal_is negative x v (good.hexadecimal y a d) = rw (a, d) refl
literal_is negative x v (good.octal y a d) = go (or_cases (has_prefix (codes "0o") y) (has_prefix (codes "0O") y) a)
  where
    go : (has_prefix (codes "0o") y ≡ true) ⊎ (has_prefix (codes "0O") y ≡ true) → integer negative y ≡ within (number 8 0 (drop 2 y))
    go (inl e) = let s = second 111 y e in subst (λ l. are_digits 8 (drop 2 l) ≡ true → integer negative l ≡ within (number 8 0 (drop 2 l))) (sym s.1) (λ f. rw f refl) d
    go (inr e) = let s = second 79 y e in subst (λ l. are_digits 8 (drop 2 l) ≡ true → integer negative l ≡ within (number 8 0 (drop 2 l))) (sym s.1) (λ f. rw f refl) d
literal_is negative x v (good.binary y a d) = go (or_cases (has_prefix (codes "0b") y) (has_prefix (codes "0B") y) a)
  where
    go : (has_prefix (codes "0b") y ≡ true) ⊎ (has_prefix (codes "0B") y ≡ true) → integer negative y ≡ within (number 2 0 (drop 2 y))
    go (inl e) = let s = second 98 y e in subst (λ l. are_digits 2 (drop 2 l) ≡ true → integer negative l ≡ within (number 2 0 (drop 2 l))) (sym s.1) (λ f. rw f refl) d
    go (inr e) = let s = second 66 y e in subst (λ l. are_digits 2 (drop 2 l) ≡ true → integer negative l ≡ within (number 2 0 (drop 2 l))) (sym s.1) (λ f. rw f refl) d

pub value : (negative : Bool) (x : List ℕ) (v : ℕ) → IsLiteral x v → v < 2 ^ 128 → integer negative x ≡ Ok v
value negative x v l h = literal_is negative x v l ∙ within_back v h

-- its first character is a digit
abbrev pub Begins : List ℕ → Type 0
Begins x = (first : ℕ) × (others : List ℕ) × (x ≡ first ∷ others) × (start_of first ≡ digit)

prefixed : (b d : ℕ) (x : List ℕ) → (has_prefix (48 ∷ b ∷ []) x || has_prefix (48 ∷ d ∷ []) x) ≡ true → Begins x
prefixed b d x h1 = grind arith

decimals : (x : List ℕ) → are_digits 10 x ≡ true → Begins x
decimals x h1 = grind (arith, and_parts, digit_starts, in_ten, never)

pub first_digit : (x : List ℕ) (v : ℕ) → IsLiteral x v → Begins x
first_digit x v (good.decimal y d z) = decimals y d
first_digit x v (good.hexadecimal y a d) = prefixed 120 88 y a
first_digit x v (good.octal y a d) = prefixed 111 79 y a
first_digit x v (good.binary y a d) = prefixed 98 66 y a

front_is : (negative tagged : Bool) (mark x z : List ℕ) (v : ℕ) (m : Mark) → IsNumeral x mark z v m → number_front negative tagged (mark_of mark) (integer negative x) ≡ number_front negative tagged (Some m) (Ok v)
front_is negative tagged mark x z v m n = rw (n.indicator.1, value negative x v n.literal n.bounded) refl

module _ (p : Profile) where
  start_white : (c : ℕ) → is_white c ≡ true → start_of c ≡ white
  start_white c e = rw e refl

  numeral : (c : ℕ) (y s z : List ℕ) (v : ℕ) (m : Mark) → start_of c ≡ digit → IsNumeral (c ∷ y) s z v m → begins (λ d. eqb d 40) z ≡ false → Reads p ((c ∷ y) ++ s) z (Read (signed false v m))
  numeral c y s z v m st n e =
      subst (λ k. ReadsFrom k p c (y ++ s) z (Read (signed false v m))) (sym st)
      (false, y, s, [], record { run = record { pass = (and_parts (is_numeral c) (list_all is_numeral y) n.run.pass).1; ends = n.run.ends }; indicator = n.indicator.0; tagging = (refl, e); whole = ap (λ l. y ++ l) (sym (append-nil s)) }, sym (front_is false false s (c ∷ y) z v m n))

  tagged : (c : ℕ) (y s z : List ℕ) (v : ℕ) (m : Mark) → start_of c ≡ digit → IsNumeral (c ∷ y) s (40 ∷ z) v m → Reads p ((c ∷ y) ++ (s ++ 40 ∷ [])) z (Read (TagOpen v m))
  tagged c y s z v m st n =
      subst (λ k. ReadsFrom k p c (y ++ (s ++ 40 ∷ [])) z (Read (TagOpen v m))) (sym st)
      (true, y, s, 40 ∷ [], record { run = record { pass = (and_parts (is_numeral c) (list_all is_numeral y) n.run.pass).1; ends = n.run.ends }; indicator = n.indicator.0; tagging = (refl, refl, refl, refl); whole = refl }, sym (front_is false true s (c ∷ y) (40 ∷ z) v m n))

  coded : (w x b s z : List ℕ) (m : Mark) → IsCoded w x b → list_all (is_not 39) x ≡ true → IsMark s z m → Reads p (w ++ (39 ∷ x ++ 39 ∷ s)) z (Read (Bytes false b m))
  coded w x b s z m (good.hex y d is) n i = ([], 39 ∷ y ++ 39 ∷ s, record { pass = refl; ends = refl }, refl, inl (refl, inl (y, s, record { inside = n; text = refl; indicator = i.0 }, inl (d, is, ap (marked (Bytes false d)) (sym i.1)))))
  coded w x b s z m (good.base64 y d is) n i = (54 ∷ 52 ∷ [], 39 ∷ y ++ 39 ∷ s, record { pass = refl; ends = refl }, refl, inl (refl, inl (y, s, record { inside = n; text = refl; indicator = i.0 }, inl (d, is, ap (marked (Bytes false d)) (sym i.1)))))

  word : (w z : List ℕ) (n : ℕ) → IsName w n → begins is_word z ≡ false → begins (λ c. eqb c 39) z ≡ false → Reads p w z (Read (Word n))
  word w z n good.is_false e f = (codes "alse", [], record { pass = refl; ends = e }, refl, (f, refl, refl))
  word w z n good.is_true e f = (codes "rue", [], record { pass = refl; ends = e }, refl, (f, refl, refl))
  word w z n good.is_null e f = (codes "ull", [], record { pass = refl; ends = e }, refl, (f, refl, refl))
  word w z n good.is_undefined e f = (codes "ndefined", [], record { pass = refl; ends = e }, refl, (f, refl, refl))

  two : (s z : List ℕ) (a : Front) → p ≡ Two → ReadsFrom hash Two 35 s z a → ReadsFrom hash p 35 s z a
  two s z a e h = subst (λ q. ReadsFrom hash q 35 s z a) (sym e) h

  -- LAW: what is taken reads
  pub read : {s z : List ℕ} {o : Option Class} → Takes p s z o → Reads p s z (front_of o)
  read (good.white c z e) = subst (λ k. ReadsFrom k p c [] z WhiteSpace) (sym (start_white c e)) (refl, refl)
  read (good.comment x z n) = inl (x, record { none = n; whole = refl }, refl)
  read (good.line x z e n) = two (x ++ 10 ∷ []) z WhiteSpace e (inl (x, record { none = n; whole = refl }, refl))
  read (good.last_line x e n) = two x [] WhiteSpace e (inr (record { none = n; all = refl }, refl))
  read (good.array_open s z m i) = (i.0, ap (marked ArrayOpen) (sym i.1))
  read (good.array_close z) = (refl, refl)
  read (good.map_open s z m i) = (i.0, ap (marked MapOpen) (sym i.1))
  read (good.map_close z) = (refl, refl)
  read (good.embed_open z) = inl (refl, refl)
  read (good.embed_close s z m i) = inl (s, refl, i.0, ap (marked EmbedClose) (sym i.1))
  read (good.chunk_open z e) = ((refl, record { pass = refl; ends = e }), refl)
  read (good.paren_close z) = (refl, refl)
  read (good.comma z) = (refl, refl)
  read (good.colon z) = (refl, refl)
  read (good.text x b s z m w is i) = inl (x, s, record { inside = w; text = refl; indicator = i.0 }, inl (b, is, ap (marked (Text b)) (sym i.1)))
  read (good.bytes x b s z m w is i) = inl (x, s, record { inside = w; text = refl; indicator = i.0 }, inl (b, is, ap (marked (Bytes true b)) (sym i.1)))
  read (good.coded w x b s z m c n i) = coded w x b s z m c n i
  read (good.word w z n i e) = let h = or_parts (begins is_word z) (begins (λ c. eqb c 39) z) e in word w z n i h.0 h.1
  read (good.simple z) = (codes "imple", 40 ∷ [], record { pass = refl; ends = refl }, refl, inr (refl, refl, refl, refl))
  read (good.negative x s z v m n) =
      (false, x, s, [], record { run = n.run; indicator = n.indicator.0; tagging = (refl, refl); whole = ap (λ l. x ++ l) (sym (append-nil s)) }, sym (front_is true false s x z v m n))
  read (good.positive x s z v m n e) =
      let b = first_digit x v n.literal in
      subst (λ y. IsNumeral y s z v m → Reads p (y ++ s) z (Read (signed false v m))) (sym b.2) (λ k. numeral b.0 b.1 s z v m b.3 k e) n
  read (good.tag x s z v m n) =
      let b = first_digit x v n.literal in
      subst (λ y. IsNumeral y s (40 ∷ z) v m → Reads p (y ++ (s ++ 40 ∷ [])) z (Read (TagOpen v m))) (sym b.2) (λ k. tagged b.0 b.1 s z v m b.3 k) n
