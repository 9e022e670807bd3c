-- What a content stands for, letter by letter.
use Rattle.std.specs.Prelude.{◌≡◌, ◌+◌, ◌-◌, ◌*◌, ◌<◌, ◌≤◌, ◌∷◌, ◌++◌, ◌&&◌, ◌||◌}
use Rattle.cborn_lex.proofs.Common.{refl, sym, ap, ◌∙◌, subst, ℕ, List, [], length, drop, get_or, map, Bool, true, false, not, cond, eqb, leb, inl, inr, Option, Some, None, arith, append_assoc, lit<, cond-false, and_parts, and_from, eqb-true, or_cases, false≢true, ne_eqb, encode_ascii, encode_utf8, list_all, flat_map, is_escape, escape_code, are_hex, code, is_high, is_low, IsText, Letter, raw, escaped, unit, pair, written, meant, is_letter, is_raw, code_at, low_code, paired, unit_from, escape_of, length-append}
use Rattle.cborn_lex.proofs.Contents.Texts.{has_letters, low_at, unit_at, escape_at, LetterAt, MatchAt, letter_at_is, NoLetters, no_letters, no_more, longer}
use Rattle.cborn_lex.proofs.Sliced.Pieces.{front_is}

-- Codes.

pub no_code : (x : List ℕ) → are_hex (get_or x 0 0) (get_or x 1 0) (get_or x 2 0) (get_or x 3 0) ≡ false → code_at x ≡ None
no_code x h1 = grind arith

pub no_low : (x : List ℕ) (n : ℕ) → code_at (drop 2 x) ≡ Some n → is_low n ≡ false → low_code x ≡ None
no_low x n h1 h2 = grind arith

-- A letter, and what the code finds of it.

-- the character that a letter stands for
abbrev pub char_of : Letter → ℕ
char_of (raw c) = c
char_of (escaped e) = escape_code e
char_of (unit a b c d) = code a b c d
char_of (pair a b c d e f g h) = 0x1_0000 + (code a b c d - 0xD800) * 0x400 + (code e f g h - 0xDC00)

abbrev pub found : Option (Letter × List ℕ) → Option (ℕ × ℕ)
found None = None
found (Some r) = Some (char_of r.0, length (written r.0))

found_if : (b : Bool) (r s : Option (Letter × List ℕ)) → found (cond b r s) ≡ cond b (found r) (found s)
found_if b r s = grind arith

paired_if : (b : Bool) (n m : ℕ) → cond b (Some (0x1_0000 + (n - 0xD800) * 0x400 + (m - 0xDC00), 12)) None ≡ paired n (cond b (Some m) None)
paired_if b n m = grind arith

low_found : (a b c d : ℕ) (x : List ℕ) → found (low_at a b c d x) ≡ paired (code a b c d) (low_code x)
low_found a b c d x = grind (arith, found_if, paired_if)

unit_if : (a b : Bool) (n : ℕ) (o : Option (ℕ × ℕ)) (x : List ℕ) → o ≡ paired n (low_code x) → cond a (cond (is_high n) o (cond (is_low n) None (Some (n, 6)))) None ≡ unit_from (cond a (Some n) None) x
unit_if a b n o x h1 = grind arith

unit_found : (x : List ℕ) → found (unit_at x) ≡ unit_from (code_at x) (drop 4 x)
unit_found x = grind (arith, found_if, low_at, low_found, unit_if)

escape_found : (q : ℕ) (x : List ℕ) → found (escape_at q x) ≡ escape_of q x
escape_found q x = grind (arith, found_if, unit_at, unit_found)

found_none : (o : Option (Letter × List ℕ)) → found o ≡ None → o ≡ None
found_none o h1 = grind arith

-- A letter's bytes are its character in UTF-8.

ascii : (e n : ℕ) → eqb e n ≡ true → escape_code n < 128 → escape_code e ∷ [] ≡ encode_utf8 (escape_code e)
ascii e n h k = subst (λ (m : ℕ). escape_code m ∷ [] ≡ encode_utf8 (escape_code m)) (sym (eqb-true e n h)) (sym (encode_ascii (escape_code n) k))

-- one of two codes, or a third
either_code : (e n : ℕ) (b : Bool) → (b ≡ true → escape_code e ∷ [] ≡ encode_utf8 (escape_code e)) → escape_code n < 128 → (eqb e n || b) ≡ true → escape_code e ∷ [] ≡ encode_utf8 (escape_code e)
either_code e n b f k h = elim (or_cases (eqb e n) b h) [ inl i ↦ ascii e n i k | inr i ↦ f i ]

pub escape_bytes : (q e : ℕ) → is_escape q e ≡ true → escape_code e ∷ [] ≡ encode_utf8 (escape_code e)
escape_bytes q e h1 = grind (arith, and_parts, ascii, either_code, false≢true, lit<, or_cases)

pub no_raw : (q d : ℕ) (x y : List ℕ) → LetterAt q (92 ∷ x) (raw d) y → ⊥
no_raw q d x y h1 = grind arith

meant_is : (q : ℕ) (l : Letter) (x y : List ℕ) → LetterAt q (92 ∷ x) l y → meant l ≡ encode_utf8 (char_of l)
meant_is q l x y h1 = grind (arith, escape_bytes, no_raw)

-- an escape after a backslash, its character c and its n bytes
pub record Escape (q : ℕ) (x : List ℕ) (c n : ℕ) : Type 0 where
  pub letter : Letter
  pub at : LetterAt q (92 ∷ x) letter (drop n (92 ∷ x))
  pub value : meant letter ≡ encode_utf8 c
  pub fits : n ≤ length (92 ∷ x)
  pub some : 0 < n

some_parts : (p r : ℕ × ℕ) → Some p ≡ Some r → (p.0 ≡ r.0) × (p.1 ≡ r.1)
some_parts p r e = let same : p ≡ r = cc in (ap (λ (x : ℕ × ℕ). x.0) same, ap (λ (x : ℕ × ℕ). x.1) same)

escape_from : (q c n : ℕ) (x : List ℕ) (o : Option (Letter × List ℕ)) → found o ≡ Some (c, n) → MatchAt q (92 ∷ x) o → Escape q x c n
escape_from q c n x None e h = cc
escape_from q c n x (Some (l, y)) e h =
    let parts = some_parts (char_of l, length (written l)) (c, n) e in
    let front = front_is n (92 ∷ x) (written l) y h.whole parts.1 in
    let more = longer l y in
    record {
      letter = l;
      at = record { allowed = h.allowed; whole = rw front.1 h.whole };
      value = meant_is q l x y h ∙ ap encode_utf8 parts.0;
      fits = omega (arith, parts.1, ap length h.whole, length-append (written l) y);
      some = omega (arith, parts.1, length-append (written l) y);
    }

pub escape_is : (q c n : ℕ) (x : List ℕ) → escape_of q x ≡ Some (c, n) → Escape q x c n
escape_is q c n x e = escape_from q c n x (escape_at q x) (escape_found q x ∙ e) (letter_at_is q (92 ∷ x))

pub no_escape : (q : ℕ) (x : List ℕ) → escape_of q x ≡ None → NoLetters q (92 ∷ x)
no_escape q x e = no_letters q 92 x (found_none (escape_at q x) (escape_found q x ∙ e))

pub not_raw : (a b : Bool) → (a && not b) ≡ false → b ≡ false → a ≡ false
not_raw a b h1 h2 = grind arith

pub no_control : (q c : ℕ) (x : List ℕ) → is_raw c ≡ false → (c ≡ 92 → ⊥) → NoLetters q (c ∷ x)
no_control q c x h k =
    no_letters q c x (cond-false (eqb c 92) _ _ (ne_eqb c 92 k) ∙ cond-false (leb 32 c) _ _ (not_raw (leb 32 c) (eqb c 92) h (ne_eqb c 92 k)))

-- A whole content.

-- the letters before rest, which stand for bytes
pub record Decoded (q : ℕ) (content rest bytes : List ℕ) : Type 0 where
  pub letters : List Letter
  pub allowed : list_all (is_letter q) letters ≡ true
  pub whole : content ≡ flat_map written letters ++ rest
  pub value : bytes ≡ flat_map meant letters

pub raw_allowed : (q : ℕ) (s : List ℕ) → list_all is_raw s ≡ true → list_all (is_letter q) (map raw s) ≡ true
raw_allowed q [] h = refl
raw_allowed q (c ∷ s) h = let hs = and_parts (is_raw c) (list_all is_raw s) h in and_from _ _ hs.0 (raw_allowed q s hs.1)

pub raw_written : (s : List ℕ) → flat_map written (map raw s) ≡ s
raw_written [] = refl
raw_written (c ∷ s) = ap (λ x. c ∷ x) (raw_written s)

pub raw_meant : (s : List ℕ) → flat_map meant (map raw s) ≡ s
raw_meant [] = refl
raw_meant (c ∷ s) = ap (λ x. c ∷ x) (raw_meant s)

none_after : (q : ℕ) (ls : List Letter) (rest : List ℕ) → list_all (is_letter q) ls ≡ true → NoLetters q rest → NoLetters q (flat_map written ls ++ rest)
none_after q [] rest h none = none
none_after q (l ∷ ls) rest h none =
    let hs = and_parts (is_letter q l) (list_all (is_letter q) ls) h in
    no_more q l _ (flat_map written ls ++ rest) (record { allowed = hs.0; whole = append_assoc (written l) (flat_map written ls) rest }) (none_after q ls rest hs.1 none)

pub never : (q : ℕ) (content rest bytes : List ℕ) → Decoded q content rest bytes → NoLetters q rest → (b : List ℕ) → IsText q content b → ⊥
never q content rest bytes d none b s = let t = has_letters q s in none_after q d.letters rest d.allowed none t.letters t.allowed (sym d.whole ∙ t.whole)
