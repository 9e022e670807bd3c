-- What fails for a reason by Bad.antt reads as bad for it by Forms.antt.
use Rattle.std.specs.Prelude.{◌≡◌, ◌<◌, ◌≤◌, ◌^◌, ◌∷◌, ◌++◌, ◌&&◌, ◌⊎◌}
use Rattle.cborn_lex.proofs.Common.{refl, sym, ap, ◌∙◌, subst, ℕ, List, [], Bool, true, false, cond, eqb, ltb, inl, inr, Some, None, Result, Ok, Err, append-nil, arith, eqb-true, and_parts, or_parts, or_from, false_from_ne_true, leb-true, ltb-true, append_cancel_right, list_all, is_ascii_digit, is_ascii_alphabetic, is_in_range, bytes_eq, codes, nat_le, Profile, Mark, Absent, Endless, Wide, LexReason, UnexpectedCharacter, UnclosedString, BadEscape, BadHex, BadBase64, UnknownPrefix, BadIndicator, BadNumber, NumberTooLarge, FloatLeftOut, Class, ArrayOpen, MapOpen, EmbedClose, Text, Bytes, Bad, is_word, is_numeral, is_not, begins, mark_of, marked, within, integer, number_front, word_front, is_content, is_unclosed, IsText, IsRun, IsIndicator, unknown, prefix_of, IsPrefixed, hash, digit, letter, other, start_of, ReadsFrom, Reads, IsLiteral, IsName, IsCoded, Takes, is_quote, is_start, IsWord, is_float_word, IsPrefix, IsNoInteger, Fails}
use Rattle.cborn_model.specs.declared.heads.Width.TheVariants as width
use Rattle.cborn_lex.specs.Good as good
use Rattle.cborn_lex.specs.Bad as bad
use Rattle.cborn_lex.proofs.TwoParts.{digit_starts}
use Rattle.cborn_lex.proofs.GoodBack.{or_cases, never, first_digit, literal_is, value}
use Rattle.cborn_lex.proofs.GoodFronts.{judge, assoc, same_bytes}
use Rattle.cborn_lex.proofs.BadNumbers.{float_is}
use Rattle.cborn_lex.proofs.OneFront.Quotes.{quoted}
use Rattle.cborn_lex.proofs.OneFront.Runs.{cut, marks, Found}
use Rattle.cborn_lex.proofs.OneFront.Found.{tagging}

-- a front that reads as bad
pub record BadFront (p : Profile) (y : List ℕ) (r : LexReason) : Type 0 where
  pub front : List ℕ
  pub rest : List ℕ
  pub whole : y ≡ front ++ rest
  pub reads : Reads p front rest (Bad r)

-- Starts.

apart : (P : ℕ → Bool) (c k : ℕ) → P c ≡ true → P k ≡ false → eqb c k ≡ false
apart P c k e f = false_from_ne_true (eqb c k) (λ s. absurd (let t : true ≡ false = sym e ∙ ap P (eqb-true c k s) ∙ f in cc))

starts_letter : (c : ℕ) → is_ascii_alphabetic c ≡ true → start_of c ≡ letter
starts_letter c e =
    let denied : (k : ℕ) → is_ascii_alphabetic k ≡ false → eqb c k ≡ false = λ k f. apart is_ascii_alphabetic c k e f in
    rw (denied 32 refl, denied 9 refl, denied 10 refl, denied 13 refl, denied 47 refl, denied 35 refl, denied 91 refl, denied 123 refl, denied 93 refl, denied 125 refl, denied 41 refl, denied 44 refl, denied 58 refl, denied 60 refl, denied 62 refl, denied 40 refl, denied 34 refl, denied 39 refl, denied 45 refl, no_digit c e, e) refl
  where
    high : (c : ℕ) → (is_in_range 65 90 c ≡ true) ⊎ (is_in_range 97 122 c ≡ true) → 57 < c
    high c (inl h) = let low = leb-true 65 c (and_parts (nat_le 65 c) (nat_le c 90) h).0 in omega (arith, low)
    high c (inr h) = let low = leb-true 97 c (and_parts (nat_le 97 c) (nat_le c 122) h).0 in omega (arith, low)

    no_digit : (c : ℕ) → is_ascii_alphabetic c ≡ true → is_ascii_digit c ≡ false
    no_digit c e = false_from_ne_true (is_ascii_digit c) (λ d. absurd (let low = leb-true c 57 (and_parts (nat_le 48 c) (nat_le c 57) d).1 in let up = high c (or_cases (is_in_range 65 90 c) (is_in_range 97 122 c) e) in omega (arith, low, up)))

starts_other : (c : ℕ) → is_start c ≡ false → start_of c ≡ other
starts_other c h1 = grind (arith, eqb-true, false_from_ne_true, or_from, or_parts)

-- Numbers.

abbrev failure : LexReason → Result ℕ LexReason
failure r = Err r

pub no_integer_is : (n : Bool) (x : List ℕ) (r : LexReason) → IsNoInteger n x r → integer n x ≡ Err r
no_integer_is n x r (bad.float f) = float_is n x f
no_integer_is n x r (bad.large v l h) = literal_is n x v l ∙ too_large v h
  where
    too_large : (v : ℕ) → 2 ^ 128 ≤ v → within v ≡ Err NumberTooLarge
    too_large v h = go (ltb v (2 ^ 128)) refl
      where
        go : (b : Bool) → ltb v (2 ^ 128) ≡ b → cond b (Ok v) (Err NumberTooLarge) ≡ Err NumberTooLarge
        go true e = absurd (let l = ltb-true v (2 ^ 128) e in omega (arith, l, h))
        go false e = refl
no_integer_is n x r (bad.bad nf nl) = go (integer n x) refl
  where
    only : (s : LexReason) → IsNoInteger n x s → failure s ≡ failure BadNumber
    only s (bad.float f) = absurd (nf f)
    only s (bad.large v l h) = absurd (nl v l)
    only s (bad.bad f l) = refl

    go : (a : Result ℕ LexReason) → integer n x ≡ a → integer n x ≡ Err BadNumber
    go (Ok v) e = absurd (nl v (judge n x (Ok v) e).0)
    go (Err s) e = e ∙ only s (judge n x (Err s) e)

bad_front : (n tagged : Bool) (v : ℕ) → number_front n tagged None (Ok v) ≡ Bad BadIndicator
bad_front n tagged v = grind arith

-- a number ends before an indicator
mark_ends : (m z : List ℕ) → IsIndicator m z → mark_of m ≡ None → begins is_numeral (m ++ z) ≡ false
mark_ends m z h1 h2 = grind arith

-- The last character of a text, or d.
abbrev last_of : ℕ → List ℕ → ℕ
last_of d [] = d
last_of d (c ∷ x) = last_of c x

last_append : (d : ℕ) (x y : List ℕ) → last_of d (x ++ y) ≡ last_of (last_of d x) y
last_append d [] y = refl
last_append d (c ∷ x) y = last_append c x y

ends_three : (f s : List ℕ) → f ≡ s ++ codes "_3" → last_of 0 f ≡ 51
ends_three f s e = ap (last_of 0) e ∙ last_append 0 s (codes "_3")

-- an indicator at the end of a text that ends in _3 is that one, where the rest doesn't end so
split : (f t s : List ℕ) (m : Mark) → mark_of t ≡ Some m → ((u : List ℕ) → f ≡ u ++ codes "_3" → ⊥) → f ++ t ≡ s ++ codes "_3" → f ≡ s
split f t s m e denied w = go (bytes_eq t []) (bytes_eq t (codes "_")) (bytes_eq t (codes "_0")) (bytes_eq t (codes "_1")) (bytes_eq t (codes "_2")) (bytes_eq t (codes "_3")) refl refl refl refl refl refl e
  where
    wrong : (x : List ℕ) → t ≡ x → last_of (last_of 0 f) x ≡ 51
    wrong x same = sym (last_append 0 f x) ∙ ap (λ y. last_of 0 (f ++ y)) (sym same) ∙ ends_three (f ++ t) s w

    none : None ≡ Some m → ⊥
    none e = cc

    go : (b0 b1 b2 b3 b4 b5 : Bool) → bytes_eq t [] ≡ b0 → bytes_eq t (codes "_") ≡ b1 → bytes_eq t (codes "_0") ≡ b2 → bytes_eq t (codes "_1") ≡ b3 → bytes_eq t (codes "_2") ≡ b4 → bytes_eq t (codes "_3") ≡ b5 → cond b0 (Some Absent) (cond b1 (Some Endless) (cond b2 (Some (Wide width.One)) (cond b3 (Some (Wide width.Two)) (cond b4 (Some (Wide width.Four)) (cond b5 (Some (Wide width.Eight)) None))))) ≡ Some m → f ≡ s
    go true b1 b2 b3 b4 b5 e0 e1 e2 e3 e4 e5 k = absurd (denied s (sym (append-nil f) ∙ ap (λ y. f ++ y) (sym (same_bytes t [] e0)) ∙ w))
    go false true b2 b3 b4 b5 e0 e1 e2 e3 e4 e5 k = absurd (let h = wrong (codes "_") (same_bytes t (codes "_") e1) in omega (arith, h))
    go false false true b3 b4 b5 e0 e1 e2 e3 e4 e5 k = absurd (let h = wrong (codes "_0") (same_bytes t (codes "_0") e2) in omega (arith, h))
    go false false false true b4 b5 e0 e1 e2 e3 e4 e5 k = absurd (let h = wrong (codes "_1") (same_bytes t (codes "_1") e3) in omega (arith, h))
    go false false false false true b5 e0 e1 e2 e3 e4 e5 k = absurd (let h = wrong (codes "_2") (same_bytes t (codes "_2") e4) in omega (arith, h))
    go false false false false false true e0 e1 e2 e3 e4 e5 k =
        let same = same_bytes t (codes "_3") e5 in
        append_cancel_right f s (codes "_3") (ap (λ y. f ++ y) (sym same) ∙ w)
    go false false false false false false e0 e1 e2 e3 e4 e5 k = absurd (none k)

-- what ends in another character doesn't end so
not_three : (f : List ℕ) (k : ℕ) → last_of 0 f ≡ k → eqb k 51 ≡ false → (u : List ℕ) → f ≡ u ++ codes "_3" → ⊥
not_three f k e d u w = absurd (let t : true ≡ false = sym (ap (λ n. eqb n 51) (sym e ∙ ends_three f u w)) ∙ d in cc)

-- nor what has no underscore
no_underscore : (x u : List ℕ) → list_all is_numeral x ≡ true → x ≡ u ++ codes "_3" → ⊥
no_underscore x u h e = go u (subst (λ y. list_all is_numeral y ≡ true) e h)
  where
    go : (u : List ℕ) → list_all is_numeral (u ++ codes "_3") ≡ true → ⊥
    go [] h = absurd (let f : false ≡ true = h in cc)
    go (c ∷ u) h = go u (and_parts (is_numeral c) (list_all is_numeral (u ++ codes "_3")) h).1

abbrev tail_of : List ℕ → List ℕ
tail_of [] = []
tail_of (c ∷ x) = x

no_underscore_after : (c : ℕ) (x u : List ℕ) → eqb c 95 ≡ false → list_all is_numeral x ≡ true → c ∷ x ≡ u ++ codes "_3" → ⊥
no_underscore_after c x [] d h e = absurd (let t : false ≡ true = sym d ∙ ap (λ y. begins (λ k. eqb k 95) y) e in cc)
no_underscore_after c x (b ∷ u) d h e = no_underscore x u h (ap tail_of e)

-- a token that ends in the indicator _3, with another in its place
module _ (p : Profile) (m z : List ℕ) (i : IsIndicator m z) (e : mark_of m ≡ None) where
  abbrev ReadsBad : List ℕ → Type 0
  ReadsBad s = BadFront p (s ++ (m ++ z)) BadIndicator

  opening : (k : Mark → Class) → marked k (mark_of m) ≡ Bad BadIndicator
  opening k = ap (marked k) e

  one_char : (c : ℕ) (s : List ℕ) → c ∷ [] ≡ s ++ codes "_3" → eqb c 51 ≡ false → ReadsBad s
  one_char c s w d = absurd (not_three (c ∷ []) c refl d s w)

  -- a token f and its mark t
  marked_end : (f t s : List ℕ) (mk : Mark) → mark_of t ≡ Some mk → ((u : List ℕ) → f ≡ u ++ codes "_3" → ⊥) → f ++ t ≡ s ++ codes "_3" → ReadsBad f → ReadsBad s
  marked_end f t s mk h denied w reads_bad = subst ReadsBad (split f t s mk h denied w) reads_bad

  -- a content f up to its quote q, and a mark t
  string_end : (f : List ℕ) (q : ℕ) (t s : List ℕ) (mk : Mark) → eqb q 51 ≡ false → mark_of t ≡ Some mk → (f ++ q ∷ []) ++ t ≡ s ++ codes "_3" → ReadsBad (f ++ q ∷ []) → ReadsBad s
  string_end f q t s mk d h w reads_bad = marked_end (f ++ q ∷ []) t s mk h (not_three (f ++ q ∷ []) q (last_append 0 f (q ∷ [])) d) w reads_bad

  a_text : (x b : List ℕ) → is_content 34 x ≡ true → IsText 34 x b → ReadsBad (34 ∷ x ++ 34 ∷ [])
  a_text x b c is = record {
    front = 34 ∷ x ++ 34 ∷ m;
    rest = z;
    whole = assoc (34 ∷ x) (34 ∷ []) (m ++ z) ∙ sym (assoc (34 ∷ x) (34 ∷ m) z);
    reads = inl (x, m, record { inside = c; text = refl; indicator = i }, inl (b, is, sym (opening (Text b))));
  }

  some_bytes : (x b : List ℕ) → is_content 39 x ≡ true → IsText 39 x b → ReadsBad (39 ∷ x ++ 39 ∷ [])
  some_bytes x b c is = record {
    front = 39 ∷ x ++ 39 ∷ m;
    rest = z;
    whole = assoc (39 ∷ x) (39 ∷ []) (m ++ z) ∙ sym (assoc (39 ∷ x) (39 ∷ m) z);
    reads = inl (x, m, record { inside = c; text = refl; indicator = i }, inl (b, is, sym (opening (Bytes true b))));
  }

  a_coded : (w x b : List ℕ) → IsCoded w x b → list_all (is_not 39) x ≡ true → ReadsBad ((w ++ 39 ∷ x) ++ 39 ∷ [])
  a_coded w x b (good.hex y d is) n = record {
    front = 104 ∷ 39 ∷ y ++ 39 ∷ m;
    rest = z;
    whole = assoc (104 ∷ 39 ∷ y) (39 ∷ []) (m ++ z) ∙ sym (assoc (104 ∷ 39 ∷ y) (39 ∷ m) z);
    reads = ([], 39 ∷ y ++ 39 ∷ m, record { pass = refl; ends = refl }, refl, inl (refl, inl (y, m, record { inside = n; text = refl; indicator = i }, inl (d, is, sym (opening (Bytes false d))))));
  }
  a_coded w x b (good.base64 y d is) n = record {
    front = 98 ∷ 54 ∷ 52 ∷ 39 ∷ y ++ 39 ∷ m;
    rest = z;
    whole = assoc (98 ∷ 54 ∷ 52 ∷ 39 ∷ y) (39 ∷ []) (m ++ z) ∙ sym (assoc (98 ∷ 54 ∷ 52 ∷ 39 ∷ y) (39 ∷ m) z);
    reads = (54 ∷ 52 ∷ [], 39 ∷ y ++ 39 ∷ m, record { pass = refl; ends = refl }, refl, inl (refl, inl (y, m, record { inside = n; text = refl; indicator = i }, inl (d, is, sym (opening (Bytes false d))))));
  }

  no_name : (w s : List ℕ) (n : ℕ) → IsName w n → w ≡ s ++ codes "_3" → ReadsBad s
  no_name w s n good.is_false h = absurd (not_three (codes "false") 101 refl refl s h)
  no_name w s n good.is_true h = absurd (not_three (codes "true") 101 refl refl s h)
  no_name w s n good.is_null h = absurd (not_three (codes "null") 108 refl refl s h)
  no_name w s n good.is_undefined h = absurd (not_three (codes "undefined") 100 refl refl s h)

  a_negative : (x : List ℕ) (v : ℕ) → IsLiteral x v → v < 2 ^ 128 → list_all is_numeral x ≡ true → ReadsBad (45 ∷ x)
  a_negative x v l b all = record {
    front = 45 ∷ x ++ m;
    rest = z;
    whole = sym (assoc (45 ∷ x) m z);
    reads = (false, x, m, [], record { run = record { pass = all; ends = mark_ends m z i e }; indicator = i; tagging = (refl, refl); whole = ap (λ l. x ++ l) (sym (append-nil m)) }, sym (rw (e, value true x v l b) refl));
  }

  a_positive : (c : ℕ) (y : List ℕ) (v : ℕ) → start_of c ≡ digit → IsLiteral (c ∷ y) v → v < 2 ^ 128 → list_all is_numeral (c ∷ y) ≡ true → ReadsBad (c ∷ y)
  a_positive c y v st l b all =
      let t = tagging false z in
      record {
        front = c ∷ y ++ (m ++ t.1);
        rest = t.2;
        whole = ap (λ l. c ∷ y ++ (m ++ l)) t.3 ∙ sym (assoc (c ∷ y) (m ++ t.1) t.2 ∙ ap (λ l. c ∷ y ++ l) (assoc m t.1 t.2));
        reads = subst (λ k. ReadsFrom k p c (y ++ (m ++ t.1)) t.2 (Bad BadIndicator)) (sym st) (
          t.0,
          y,
          m,
          t.1,
          record {
            run = record { pass = (and_parts (is_numeral c) (list_all is_numeral y) all).1; ends = subst (λ l. begins is_numeral (m ++ l) ≡ false) t.3 (mark_ends m z i e) };
            indicator = subst (λ l. IsIndicator m l) t.3 i;
            tagging = t.4;
            whole = refl;
          },
          sym (rw (e, value false (c ∷ y) v l b) (bad_front false t.0 v)),
        );
      }

  reads_bad : {y z' : List ℕ} {k : Class} (s : List ℕ) → Takes p y z' (Some k) → y ≡ s ++ codes "_3" → ReadsBad s
  reads_bad s (good.array_open t y mk j) w = string_end [] 91 t s mk refl j.1 w (record { front = 91 ∷ m; rest = z; whole = refl; reads = (i, sym (opening ArrayOpen)) })
  reads_bad s (good.array_close y) w = one_char 93 s w refl
  reads_bad s (good.map_open t y mk j) w = string_end [] 123 t s mk refl j.1 w (record { front = 123 ∷ m; rest = z; whole = refl; reads = (i, sym (opening MapOpen)) })
  reads_bad s (good.map_close y) w = one_char 125 s w refl
  reads_bad s (good.embed_open y) w = absurd (not_three (codes "<<") 60 refl refl s w)
  reads_bad s (good.embed_close t y mk j) w = string_end (62 ∷ []) 62 t s mk refl j.1 w (record { front = 62 ∷ 62 ∷ m; rest = z; whole = refl; reads = inl (m, refl, i, sym (opening EmbedClose)) })
  reads_bad s (good.chunk_open y d) w = absurd (not_three (codes "(_") 95 refl refl s w)
  reads_bad s (good.paren_close y) w = one_char 41 s w refl
  reads_bad s (good.comma y) w = one_char 44 s w refl
  reads_bad s (good.colon y) w = one_char 58 s w refl
  reads_bad s (good.text x b t y mk c is j) w = string_end (34 ∷ x) 34 t s mk refl j.1 (assoc (34 ∷ x) (34 ∷ []) t ∙ w) (a_text x b c is)
  reads_bad s (good.bytes x b t y mk c is j) w = string_end (39 ∷ x) 39 t s mk refl j.1 (assoc (39 ∷ x) (39 ∷ []) t ∙ w) (some_bytes x b c is)
  reads_bad s (good.coded u x b t y mk is n j) w = string_end (u ++ 39 ∷ x) 39 t s mk refl j.1 (assoc (u ++ 39 ∷ x) (39 ∷ []) t ∙ assoc u (39 ∷ x) (39 ∷ t) ∙ w) (a_coded u x b is n)
  reads_bad s (good.word u y n is d) w = no_name u s n is w
  reads_bad s (good.simple y) w = absurd (not_three (codes "simple(") 40 refl refl s w)
  reads_bad s (good.negative x t y v mk n) w = marked_end (45 ∷ x) t s mk n.indicator.1 (λ u. no_underscore_after 45 x u refl n.run.pass) w (a_negative x v n.literal n.bounded n.run.pass)
  reads_bad s (good.positive x t y v mk n d) w =
      let b = first_digit x v n.literal in
      marked_end x t s mk n.indicator.1 (λ u. no_underscore x u n.run.pass) w
      (subst ReadsBad (sym b.2) (a_positive b.0 b.1 v b.3 (subst (λ l. IsLiteral l v) b.2 n.literal) n.bounded (subst (λ l. list_all is_numeral l ≡ true) b.2 n.run.pass)))
  reads_bad s (good.tag x t y v mk n) w = absurd (not_three (x ++ (t ++ 40 ∷ [])) 40 (last_append 0 x (t ++ 40 ∷ []) ∙ last_append (last_of 0 x) t (40 ∷ [])) refl s w)

module _ (p : Profile) where
  -- each reason

  at_quote : (P : ℕ → Type 0) (q : ℕ) → is_quote q ≡ true → P 34 → P 39 → P q
  at_quote P q h1 h2 h3 = grind arith

  is_open : (q : ℕ) → eqb q 92 ≡ false → (y : List ℕ) → ((x z : List ℕ) → is_content q x ≡ true → y ≡ x ++ q ∷ z → ⊥) → is_unclosed q y ≡ true
  is_open q ne y denied = go ((quoted q ne).find y)
    where
      go : Found (is_content q) q y ⊎ (is_unclosed q y ≡ true) → is_unclosed q y ≡ true
      go (inl r) = absurd (denied r.content r.after r.inside r.text)
      go (inr u) = u

  a_quote : (q : ℕ) (y : List ℕ) → is_quote q ≡ true → ((x z : List ℕ) → is_content q x ≡ true → y ≡ x ++ q ∷ z → ⊥) → BadFront p (q ∷ y) UnclosedString
  a_quote q y e denied =
      at_quote (λ q. ((x z : List ℕ) → is_content q x ≡ true → y ≡ x ++ q ∷ z → ⊥) → BadFront p (q ∷ y) UnclosedString) q e
      (λ denied. record { front = 34 ∷ y; rest = []; whole = sym (append-nil (34 ∷ y)); reads = inr (is_open 34 refl y denied, refl, refl) })
      (λ denied. record { front = 39 ∷ y; rest = []; whole = sym (append-nil (39 ∷ y)); reads = inr (is_open 39 refl y denied, refl, refl) }) denied

  an_escape : (q : ℕ) (x z : List ℕ) → is_quote q ≡ true → is_content q x ≡ true → ((b : List ℕ) → IsText q x b → ⊥) → BadFront p (q ∷ x ++ q ∷ z) BadEscape
  an_escape q x z e c denied =
      let k = marks z in
      at_quote (λ q. is_content q x ≡ true → ((b : List ℕ) → IsText q x b → ⊥) → BadFront p (q ∷ x ++ q ∷ z) BadEscape) q e
      (λ c denied. record { front = 34 ∷ x ++ 34 ∷ k.s; rest = k.z; whole = ap (λ l. 34 ∷ x ++ 34 ∷ l) k.whole ∙ sym (assoc (34 ∷ x) (34 ∷ k.s) k.z); reads = inl (x, k.s, record { inside = c; text = refl; indicator = k.indicator }, inr (denied, refl)) })
      (λ c denied. record { front = 39 ∷ x ++ 39 ∷ k.s; rest = k.z; whole = ap (λ l. 39 ∷ x ++ 39 ∷ l) k.whole ∙ sym (assoc (39 ∷ x) (39 ∷ k.s) k.z); reads = inl (x, k.s, record { inside = c; text = refl; indicator = k.indicator }, inr (denied, refl)) }) c denied

  no_prefix : (w : List ℕ) → ((r : LexReason) → IsPrefix w r → ⊥) → prefix_of w ≡ unknown
  no_prefix w denied =
      let h : bytes_eq w (codes "h") ≡ false = false_from_ne_true (bytes_eq w (codes "h")) (λ e. denied BadHex (subst (λ v. IsPrefix v BadHex) (sym (same_bytes w (codes "h") e)) bad.hex)) in
      let k : bytes_eq w (codes "b64") ≡ false = false_from_ne_true (bytes_eq w (codes "b64")) (λ e. denied BadBase64 (subst (λ v. IsPrefix v BadBase64) (sym (same_bytes w (codes "b64") e)) bad.base64)) in
      rw (h, k) refl

  an_unknown : (w z : List ℕ) → IsWord w (39 ∷ z) → prefix_of w ≡ unknown → BadFront p (w ++ 39 ∷ z) UnknownPrefix
  an_unknown [] z word denied = never word.letter
  an_unknown (c ∷ y) z word denied = record {
    front = c ∷ y ++ 39 ∷ [];
    rest = z;
    whole = sym (assoc (c ∷ y) (39 ∷ []) z);
    reads = subst (λ k. ReadsFrom k p c (y ++ 39 ∷ []) z (Bad UnknownPrefix)) (sym (starts_letter c word.letter)) (
      y,
      39 ∷ [],
      record { pass = (and_parts (is_word c) (list_all is_word y) word.run.pass).1; ends = refl },
      refl,
      inl (refl, subst (λ k. IsPrefixed k [] z (Bad UnknownPrefix)) (sym denied) (refl, refl)),
    );
  }

  an_unclosed : (w x : List ℕ) (r : LexReason) → IsPrefix w r → list_all (is_not 39) x ≡ true → BadFront p (w ++ 39 ∷ x) UnclosedString
  an_unclosed w x r bad.hex n = record { front = 104 ∷ 39 ∷ x; rest = []; whole = sym (append-nil (104 ∷ 39 ∷ x)); reads = ([], 39 ∷ x, record { pass = refl; ends = refl }, refl, inl (refl, inr (n, refl, refl))) }
  an_unclosed w x r bad.base64 n = record { front = 98 ∷ 54 ∷ 52 ∷ 39 ∷ x; rest = []; whole = sym (append-nil (98 ∷ 54 ∷ 52 ∷ 39 ∷ x)); reads = (54 ∷ 52 ∷ [], 39 ∷ x, record { pass = refl; ends = refl }, refl, inl (refl, inr (n, refl, refl))) }

  a_content : (w x z : List ℕ) (r : LexReason) → IsPrefix w r → list_all (is_not 39) x ≡ true → ((b : List ℕ) → IsCoded w x b → ⊥) → BadFront p (w ++ (39 ∷ x ++ 39 ∷ z)) r
  a_content w x z r bad.hex n denied =
      let k = marks z in
      record {
        front = 104 ∷ 39 ∷ x ++ 39 ∷ k.s;
        rest = k.z;
        whole = ap (λ l. 104 ∷ 39 ∷ x ++ 39 ∷ l) k.whole ∙ sym (assoc (104 ∷ 39 ∷ x) (39 ∷ k.s) k.z);
        reads = ([], 39 ∷ x ++ 39 ∷ k.s, record { pass = refl; ends = refl }, refl, inl (refl, inl (x, k.s, record { inside = n; text = refl; indicator = k.indicator }, inr (λ b is. denied b (good.hex x b is), refl))));
      }
  a_content w x z r bad.base64 n denied =
      let k = marks z in
      record {
        front = 98 ∷ 54 ∷ 52 ∷ 39 ∷ x ++ 39 ∷ k.s;
        rest = k.z;
        whole = ap (λ l. 98 ∷ 54 ∷ 52 ∷ 39 ∷ x ++ 39 ∷ l) k.whole ∙ sym (assoc (98 ∷ 54 ∷ 52 ∷ 39 ∷ x) (39 ∷ k.s) k.z);
        reads = (54 ∷ 52 ∷ [], 39 ∷ x ++ 39 ∷ k.s, record { pass = refl; ends = refl }, refl, inl (refl, inl (x, k.s, record { inside = n; text = refl; indicator = k.indicator }, inr (λ b is. denied b (good.base64 x b is), refl))));
      }

  some_chunks : (z s y : List ℕ) → z ≡ s ++ y → IsRun is_word s y → begins is_word z ≡ true → BadFront p (40 ∷ 95 ∷ z) BadIndicator
  some_chunks z [] y w run b = absurd (let t : true ≡ false = sym b ∙ ap (begins is_word) w ∙ run.ends in cc)
  some_chunks z (d ∷ s) y w run b = record { front = 40 ∷ 95 ∷ d ∷ s; rest = y; whole = ap (λ l. 40 ∷ 95 ∷ l) w; reads = ((refl, run), refl) }

  a_negative_fails : (x z : List ℕ) (r : LexReason) → IsRun is_numeral x z → IsNoInteger true x r → BadFront p (45 ∷ x ++ z) r
  a_negative_fails x z r run denied =
      let k = marks z in
      record {
        front = 45 ∷ x ++ k.s;
        rest = k.z;
        whole = ap (λ l. 45 ∷ x ++ l) k.whole ∙ sym (assoc (45 ∷ x) k.s k.z);
        reads = (
          false,
          x,
          k.s,
          [],
          record { run = subst (λ l. IsRun is_numeral x l) k.whole run; indicator = k.indicator; tagging = (refl, refl); whole = ap (λ l. x ++ l) (sym (append-nil k.s)) },
          sym (ap (number_front true false (mark_of k.s)) (no_integer_is true x r denied)),
        );
      }

  a_positive_fails : (x z : List ℕ) (r : LexReason) → begins is_ascii_digit x ≡ true → IsRun is_numeral x z → IsNoInteger false x r → BadFront p (x ++ z) r
  a_positive_fails [] z r b run denied = never b
  a_positive_fails (c ∷ y) z r b run denied =
      let k = marks z in
      let t = tagging false k.z in
      let after : z ≡ k.s ++ (t.1 ++ t.2) = k.whole ∙ ap (λ l. k.s ++ l) t.3 in
      record {
        front = c ∷ y ++ (k.s ++ t.1);
        rest = t.2;
        whole = ap (λ l. c ∷ y ++ l) after ∙ sym (assoc (c ∷ y) (k.s ++ t.1) t.2 ∙ ap (λ l. c ∷ y ++ l) (assoc k.s t.1 t.2));
        reads = subst (λ q. ReadsFrom q p c (y ++ (k.s ++ t.1)) t.2 (Bad r)) (sym (let h = and_parts (nat_le 48 c) (nat_le c 57) b in digit_starts c (leb-true 48 c h.0) (leb-true c 57 h.1))) (
          t.0,
          y,
          k.s,
          t.1,
          record {
            run = subst (λ l. IsRun is_numeral y l) after (record { pass = (and_parts (is_numeral c) (list_all is_numeral y) run.pass).1; ends = run.ends });
            indicator = subst (λ l. IsIndicator k.s l) t.3 k.indicator;
            tagging = t.4;
            whole = refl;
          },
          sym (ap (number_front false t.0 (mark_of k.s)) (no_integer_is false (c ∷ y) r denied)),
        );
      }

  word_reads : (w z : List ℕ) (r : LexReason) → IsWord w z → begins (λ c. eqb c 39) z ≡ false → (bytes_eq w (codes "simple") && begins (λ c. eqb c 40) z) ≡ false → word_front w ≡ Bad r → BadFront p (w ++ z) r
  word_reads [] z r word q s e = never word.letter
  word_reads (c ∷ y) z r word q s e = record {
    front = c ∷ y;
    rest = z;
    whole = refl;
    reads = subst (λ k. ReadsFrom k p c y z (Bad r)) (sym (starts_letter c word.letter)) (y, [], record { pass = (and_parts (is_word c) (list_all is_word y) word.run.pass).1; ends = word.run.ends }, sym (append-nil y), (q, s, sym e));
  }

  -- a word that begins as a float does is no other word
  differs : (w v : List ℕ) → is_float_word w ≡ true → is_float_word v ≡ false → bytes_eq w v ≡ false
  differs w v e f = false_from_ne_true (bytes_eq w v) (λ s. absurd (let t : true ≡ false = sym e ∙ ap is_float_word (same_bytes w v s) ∙ f in cc))

  not_named : (w v : List ℕ) (n : ℕ) → IsName v n → ((n : ℕ) → IsName w n → ⊥) → bytes_eq w v ≡ false
  not_named w v n i denied = false_from_ne_true (bytes_eq w v) (λ s. denied n (subst (λ u. IsName u n) (sym (same_bytes w v s)) i))

  -- LAW: what fails reads as bad
  pub fails : {y : List ℕ} {r : LexReason} → Fails p y r → BadFront p y r
  fails (bad.comment x n) = record { front = 47 ∷ x; rest = []; whole = sym (append-nil (47 ∷ x)); reads = inr (record { none = n; all = refl }, refl) }
  fails (bad.quote q y e denied) = a_quote q y e denied
  fails (bad.escape q x z e c denied) = an_escape q x z e c denied
  fails (bad.unknown w z word denied) = an_unknown w z word (no_prefix w denied)
  fails (bad.unclosed w x r i n) = an_unclosed w x r i n
  fails (bad.content w x z r i n denied) = a_content w x z r i n denied
  fails (bad.indicator s m z k t i e) = reads_bad p m z i e s t refl
  fails (bad.chunks z b) = let r = cut is_word z in some_chunks z r.s r.z r.whole r.run b
  fails (bad.negative x z r run denied) = a_negative_fails x z r run denied
  fails (bad.positive x z r b run denied) = a_positive_fails x z r b run denied
  fails (bad.float w z word q e) = word_reads w z FloatLeftOut word q (ap (λ b. b && begins (λ c. eqb c 40) z) (differs w (codes "simple") e refl)) (rw (differs w (codes "false") e refl, differs w (codes "true") e refl, differs w (codes "null") e refl, differs w (codes "undefined") e refl, e) refl)
  fails (bad.word w z word q e denied s) = word_reads w z UnexpectedCharacter word q s (rw (not_named w (codes "false") 20 good.is_false denied, not_named w (codes "true") 21 good.is_true denied, not_named w (codes "null") 22 good.is_null denied, not_named w (codes "undefined") 23 good.is_undefined denied, e) refl)
  fails (bad.less z n) = record { front = 60 ∷ []; rest = z; whole = refl; reads = inr (refl, n, refl) }
  fails (bad.greater z n) = record { front = 62 ∷ []; rest = z; whole = refl; reads = inr (refl, n, refl) }
  fails (bad.paren z n) = record { front = 40 ∷ []; rest = z; whole = refl; reads = (n, refl) }
  fails (bad.hash z e) = record { front = 35 ∷ []; rest = z; whole = refl; reads = subst (λ q. ReadsFrom hash q 35 [] z (Bad UnexpectedCharacter)) (sym e) (refl, refl) }
  fails (bad.other c z e) = record { front = c ∷ []; rest = z; whole = refl; reads = subst (λ k. ReadsFrom k p c [] z (Bad UnexpectedCharacter)) (sym (starts_other c e)) (refl, refl) }
