-- What a token weighs: one, and the bytes of its content. The tokens of a text weigh no more than four times its length.
use Rattle.std.specs.Prelude.{◌≡◌, ◌+◌, ◌-◌, ◌*◌, ◌^◌, ◌<◌, ◌≤◌, ◌∷◌, ◌++◌, ◌&&◌}
use Rattle.cborn_lex.proofs.Common.{refl, sym, ap, ◌∙◌, subst, ℕ, suc, List, [], length, take, drop, map, Bool, true, false, not, cond, ltb, eqb, inl, inr, Option, Some, None, Result, Ok, Err, arith, length-append, length-map, length-replicate, take-append-drop, cond_both, and_parts, and_from, lt-ltb, ltb-true, list_all-append, list_all, flat_map, filter, encode_utf8, encode_utf8_all, standard, Profile, One, Two, Mark, Class, ArrayOpen, MapOpen, EmbedClose, ChunkOpen, TagOpen, Word, Text, Bytes, Token, LexReason, NumberTooLarge, Front, WhiteSpace, Read, Bad, mark_of, marked, is_white, is_not, integer, within, signed, number_front, word_front, escape_code, are_hex, code, is_high, is_low, IsText, HasDigits, nothing, space, comment, IsHex, to_standard, filled, IsBase64, is_content, is_unclosed, Letter, raw, escaped, unit, pair, written, meant, is_letter, IsString, Prefix, hexadecimal, base64, unknown, prefix_of, IsPrefixed, IsAfterWord, ReadsNumber, double, simple, Start, white, slash, hash, less, greater, paren, letter, minus, digit, other, single, opening, start_of, paren_front, ReadsFrom, Reads, HasTokens, TokensBetween, Lexeme, white_space, token, spelled, AreRead, tokens, AreModest, IsModest}
use Rattle.std.specs.Str.{IsUtf8, all_scalars}
use lib.Utf8.{encode, scalar, scalar_cases}
use Rattle.hex.proofs.HexLemmas.{decode_of-ok}
use Rattle.base64.proofs.RoundTrip.{length-encode_symbols}
use Rattle.cborn_model.specs.Bytes.{AreBytes}
use Rattle.cborn_model.proofs.Bytes.{bytes-append}
use Rattle.cborn_lex.specs.Strings.{digit as one_digit}
use Rattle.cborn_lex.proofs.Contents.Texts.{has_letters}
use Rattle.cborn_lex.proofs.WholeTexts.Parts.{parted, lex_parted}
use Rattle.cborn_lex.proofs.Contents.Decoded.{is_byte, are_bytes}
use Rattle.cborn_lex.proofs.Contents.Base64s.{bytes_from}

abbrev pub weight : Class → ℕ
weight (Text x m) = suc (length x)
weight (Bytes q x m) = suc (length x)
weight _ = 1

abbrev pub weigh : List Token → ℕ
weigh [] = 0
weigh (t ∷ ts) = weight t.class + weigh ts

-- a token that weighs n at most, or none
data IsLight (n : ℕ) : Front → Type 0 where
  no_token : IsLight n WhiteSpace
  bad : {r : LexReason} → IsLight n (Bad r)
  read : {k : Class} → IsModest k → weight k ≤ n → IsLight n (Read k)

lighter : (m n : ℕ) (a : Front) → m ≤ n → IsLight m a → IsLight n a
lighter m n (Read k) h (read is l) = read is (omega arith)
lighter m n WhiteSpace h no_token = no_token
lighter m n (Bad r) h bad = bad

either_light : (n : ℕ) (b : Bool) (x y : Front) → IsLight n x → IsLight n y → IsLight n (cond b x y)
either_light n b x y h k = cond_both b x y (IsLight n) (λ e. h) (λ e. k)

marked_light : (n : ℕ) (k : Mark → Class) (m : Option Mark) → ((m : Mark) → IsLight n (Read (k m))) → IsLight n (marked k m)
marked_light n k (Some m) h = h m
marked_light n k None h = bad

-- Bytes.

pub as_bytes : (x : List ℕ) → are_bytes x ≡ true → AreBytes x
as_bytes [] h = tt
as_bytes (c ∷ x) h = let hs = and_parts (is_byte c) (are_bytes x) h in (ltb-true c 256 hs.0, as_bytes x hs.1)

pub as_test : (x : List ℕ) → AreBytes x → are_bytes x ≡ true
as_test [] h = refl
as_test (c ∷ x) h = and_from (is_byte c) (are_bytes x) (lt-ltb c 256 h.0) (as_test x h.1)

split : (x y : List ℕ) → are_bytes (x ++ y) ≡ true → (are_bytes x ≡ true) × (are_bytes y ≡ true)
split x y h = and_parts (are_bytes x) (are_bytes y) (sym (list_all-append is_byte x y) ∙ h)

-- bytes, n of them at most
abbrev AreFew : ℕ → List ℕ → Type 0
AreFew n x = AreBytes x × (length x ≤ n)

-- Strings with escapes.

encoded : (c : ℕ) → c < 2 ^ 21 → AreFew 4 (encode_utf8 c)
unfolding encode
encoded c h1 = grind arith

characters : (cs : List ℕ) → all_scalars cs ≡ true → AreBytes (encode_utf8_all cs)
characters [] h = tt
characters (c ∷ cs) h =
    let hs = and_parts (scalar c) (all_scalars cs) h in
    let few : c < 2 ^ 21 = elim (scalar_cases c hs.0) [ inl low ↦ omega arith | inr high ↦ omega (arith, high.1) ] in
    bytes-append (encode_utf8 c) (encode_utf8_all cs) (encoded c few).0 (characters cs hs.1)

-- text is bytes
pub utf8_bytes : (x : List ℕ) → IsUtf8 x → AreBytes x
utf8_bytes x u = subst AreBytes u.1.1 (characters u.0 u.1.0)

below : (b : Bool) (x y : ℕ) → x < 256 → y < 256 → cond b x y < 256
below b x y h k = cond_both b x y (λ n. n < 256) (λ e. h) (λ e. k)

escape_below : (e : ℕ) → e < 256 → escape_code e < 256
escape_below e h = below (eqb e 98) 8 _ (omega arith) (below (eqb e 102) 12 _ (omega arith) (below (eqb e 110) 10 _ (omega arith) (below (eqb e 114) 13 _ (omega arith) (below (eqb e 116) 9 e (omega arith) h))))

code_below : (a b c d : ℕ) → are_hex a b c d ≡ true → code a b c d < 2 ^ 16
code_below a b c d h1 = grind (arith, and_parts, ltb-true)

pair_below : (m n : ℕ) → m < 2 ^ 16 → n < 2 ^ 16 → is_high m ≡ true → 0x1_0000 + (m - 0xD800) * 0x400 + (n - 0xDC00) < 2 ^ 21
pair_below m n h k high = let hs = and_parts _ (ltb m 0xDC00) high in omega (arith, ltb-true m 0xDC00 hs.1)

letter_light : (q : ℕ) (l : Letter) → is_letter q l ≡ true → are_bytes (written l) ≡ true → AreFew (length (written l)) (meant l)
letter_light q (raw c) h k = (as_bytes (c ∷ []) k, omega arith)
letter_light q (escaped e) h k = ((escape_below e (as_bytes (written (escaped e)) k).1.0, tt), omega arith)
letter_light q (unit a b c d) h k =
    let hs = and_parts (are_hex a b c d) _ h in
    let n = code_below a b c d hs.0 in
    let f = encoded (code a b c d) (omega arith) in
    (f.0, omega (arith, f.1))
letter_light q (pair a b c d e f g i) h k =
    let hs = and_parts (are_hex a b c d && is_high (code a b c d)) (are_hex e f g i && is_low (code e f g i)) h in
    let ls = and_parts (are_hex a b c d) (is_high (code a b c d)) hs.0 in
    let rs = and_parts (are_hex e f g i) (is_low (code e f g i)) hs.1 in
    let s = encoded _ (pair_below (code a b c d) (code e f g i) (code_below a b c d ls.0) (code_below e f g i rs.0) ls.1) in
    (s.0, omega (arith, s.1))

letters_light : (q : ℕ) (ls : List Letter) → list_all (is_letter q) ls ≡ true → are_bytes (flat_map written ls) ≡ true → AreFew (length (flat_map written ls)) (flat_map meant ls)
letters_light q [] h k = (tt, omega arith)
letters_light q (l ∷ ls) h k =
    let hs = and_parts (is_letter q l) (list_all (is_letter q) ls) h in
    let ks = split (written l) (flat_map written ls) k in
    let a = letter_light q l hs.0 ks.0 in
    let b = letters_light q ls hs.1 ks.1 in
    (bytes-append (meant l) (flat_map meant ls) a.0 b.0, omega (arith, a.1, b.1, length-append (meant l) (flat_map meant ls), length-append (written l) (flat_map written ls)))

-- the bytes that a content stands for are at most three more than it has
abbrev AreSpelled : (List ℕ → List ℕ → Type 0) → Type 0
AreSpelled Is = (x bytes : List ℕ) → are_bytes x ≡ true → Is x bytes → AreFew (length x + 3) bytes

text_spelled : (q : ℕ) → AreSpelled (IsText q)
text_spelled q x bytes h t =
    let is = has_letters q t in
    let w = is.whole in
    let v = is.value in
    let l = letters_light q is.letters is.allowed (ap are_bytes (sym w) ∙ h) in
    (subst AreBytes (sym v) l.0, omega (arith, l.1, ap length v, ap length w))

-- Hexadecimal.

few_digits : {x ds : List ℕ} → HasDigits x ds → length ds ≤ length x
few_digits nothing = omega arith
few_digits (one_digit c x ds h k) = let l = few_digits k in omega arith
few_digits (space c x ds h k) = let l = few_digits k in omega arith
few_digits (comment body x ds h k) = let l = few_digits k in omega (arith, length-append body (47 ∷ x))

hex_spelled : AreSpelled IsHex
hex_spelled x bytes h is =
    let d = decode_of-ok is.0 bytes is.2 in
    (as_bytes bytes (bytes_from bytes d.3), omega (arith, d.2, few_digits is.1))

-- Base64.

few_kept : (p : ℕ → Bool) (x : List ℕ) → length (filter p x) ≤ length x
few_kept p [] = omega arith
few_kept p (c ∷ x) =
    let l = few_kept p x in
    cond_both (p c) (c ∷ filter p x) (filter p x) (λ y. length y ≤ suc (length x)) (λ e. omega arith) (λ e. omega arith)

few_filled : (x : List ℕ) → length (filled x) ≤ length x + 3
few_filled x = grind (arith, cond_both, length-append, length-replicate)

base64_spelled : AreSpelled IsBase64
base64_spelled x bytes h is =
    let kept = filter (λ c. not (is_white c)) x in
    let size = length-encode_symbols standard.encode_table bytes in (
      as_bytes bytes (bytes_from bytes is.are_bytes),
      omega (arith, size, ap length is.value, few_kept (λ c. not (is_white c)) x, length-map kept to_standard, few_filled (map to_standard kept), length-append {A = ℕ}),
    )

-- Quoted strings.

-- a class of a string, by its bytes and its mark
abbrev IsOfString : (List ℕ → Mark → Class) → Type 0
IsOfString k = (n : ℕ) (bytes : List ℕ) (m : Mark) → AreFew n bytes → IsLight (suc n) (Read (k bytes m))

string_light : (whole unclosed : List ℕ → Bool) (q : ℕ) (Is : List ℕ → List ℕ → Type 0) (r : LexReason) (k : List ℕ → Mark → Class) (s z : List ℕ) (a : Front) → AreSpelled Is → IsOfString k → are_bytes s ≡ true → IsString whole unclosed q Is r k s z a → IsLight (length s + 4) a
string_light whole unclosed q Is r k s z a f g h (inl (content, mark, c, inl (bytes, is, e))) =
    let few = f content bytes (split content (q ∷ mark) (ap are_bytes (sym c.text) ∙ h)).0 is in
    let size = length-append content (q ∷ mark) in
    let long : length content ≤ length s = omega (arith, ap length c.text) in
    subst (IsLight (length s + 4)) (sym e) (lighter (suc (length content + 3)) (length s + 4) (marked (k bytes) (mark_of mark)) (omega arith) (marked_light _ (k bytes) (mark_of mark) (λ m. g (length content + 3) bytes m few)))
string_light whole unclosed q Is r k s z a f g h (inl (content, mark, c, inr (never, e))) = subst (IsLight (length s + 4)) (sym e) bad
string_light whole unclosed q Is r k s z a f g h (inr (u, n, e)) = subst (IsLight (length s + 4)) (sym e) bad

is_of_text : IsOfString Text
is_of_text n bytes m few = read few.0 (omega (arith, few.1))

is_of_bytes : (quoted : Bool) → IsOfString (Bytes quoted)
is_of_bytes quoted n bytes m few = read few.0 (omega (arith, few.1))

prefixed_light : (p : Prefix) (s z : List ℕ) (a : Front) → are_bytes s ≡ true → IsPrefixed p s z a → IsLight (length s + 4) a
prefixed_light hexadecimal s z a h is = string_light (list_all (is_not 39)) (list_all (is_not 39)) 39 IsHex _ (Bytes false) s z a hex_spelled (is_of_bytes false) h is
prefixed_light base64 s z a h is = string_light (list_all (is_not 39)) (list_all (is_not 39)) 39 IsBase64 _ (Bytes false) s z a base64_spelled (is_of_bytes false) h is
prefixed_light unknown s z a h is = subst (IsLight (length s + 4)) (sym is.1) bad

-- Words and numbers.

word_light : (w : List ℕ) → IsLight 1 (word_front w)
word_light w =
    let no : IsLight 1 (Read (Word 20)) = read (omega arith) (omega arith) in
    let yes : IsLight 1 (Read (Word 21)) = read (omega arith) (omega arith) in
    let null : IsLight 1 (Read (Word 22)) = read (omega arith) (omega arith) in
    let undefined : IsLight 1 (Read (Word 23)) = read (omega arith) (omega arith) in
    search (either_light 1, bad, no, yes, null, undefined) depth 12

after_light : (word s z : List ℕ) (a : Front) → are_bytes s ≡ true → IsAfterWord word s z a → IsLight (length s + 4) a
after_light word [] z a h is = subst (IsLight 4) (sym is.2) (lighter 1 4 (word_front word) (omega arith) (word_light word))
after_light word (c ∷ s) z a h (inl is) = lighter (length s + 4) _ a (omega arith) (prefixed_light (prefix_of word) s z a (and_parts (is_byte c) (are_bytes s) h).1 is.1)
after_light word (c ∷ s) z a h (inr is) = subst (IsLight (suc (length s) + 4)) (sym is.3) (read tt (omega arith))

data IsSmall : Result ℕ LexReason → Type 0 where
  ok : {n : ℕ} → n < 2 ^ 128 → IsSmall (Ok n)
  err : {r : LexReason} → IsSmall (Err r)

either_small : (b : Bool) (x y : Result ℕ LexReason) → IsSmall x → IsSmall y → IsSmall (cond b x y)
either_small b x y h k = cond_both b x y IsSmall (λ e. h) (λ e. k)

within_small : (n : ℕ) → IsSmall (within n)
within_small n = cond_both (ltb n (2 ^ 128)) (Ok n) (Err NumberTooLarge) IsSmall (λ e. ok (ltb-true n (2 ^ 128) e)) (λ e. err)

number_light : (negative tagged : Bool) (m : Option Mark) (r : Result ℕ LexReason) → IsSmall r → IsLight 1 (number_front negative tagged m r)
number_light negative tagged m (Err r) err = bad
number_light negative true m (Ok n) (ok h) = marked_light 1 (TagOpen n) m (λ m. read tt (omega arith))
number_light negative false m (Ok n) (ok h) = marked_light 1 (signed negative n) m (λ m. read h (omega arith))

reads_number_light : (negative : Bool) (first s z : List ℕ) (a : Front) → ReadsNumber negative first s z a → IsLight 1 a
reads_number_light negative first s z a (tagged, body, mark, tag, is, e) =
    subst (IsLight 1) (sym e) (number_light negative tagged (mark_of mark) (integer negative (first ++ body)) (search (either_small, within_small, err) depth 12))

-- What a first character begins.

abbrev IsLightStart : Start → Type 0
IsLightStart (single k) = IsModest k × (weight k ≤ 1)
IsLightStart (opening k) = (m : Mark) → IsLight 1 (Read (k m))
IsLightStart _ = Unit {0}

either_start : (b : Bool) (x y : Start) → IsLightStart x → IsLightStart y → IsLightStart (cond b x y)
either_start b x y h k = cond_both b x y IsLightStart (λ e. h) (λ e. k)

start_light : (c : ℕ) → IsLightStart (start_of c)
start_light c =
    let array : (m : Mark) → IsLight 1 (Read (ArrayOpen m)) = λ m. read tt (omega arith) in
    let map : (m : Mark) → IsLight 1 (Read (MapOpen m)) = λ m. read tt (omega arith) in
    let one : 1 ≤ 1 = omega arith in
    search (either_start, array, map, one) depth 24

from_light : (k : Start) (profile : Profile) (c : ℕ) (s z : List ℕ) (a : Front) → IsLightStart k → are_bytes s ≡ true → ReadsFrom k profile c s z a → IsLight (length s + 4) a
from_light white profile c s z a l h is = subst (IsLight _) (sym is.1) no_token
from_light slash profile c s z a l h (inl (body, is, e)) = subst (IsLight _) (sym e) no_token
from_light slash profile c s z a l h (inr is) = subst (IsLight _) (sym is.1) bad
from_light hash One c s z a l h is = subst (IsLight _) (sym is.1) bad
from_light hash Two c s z a l h (inl (body, is, e)) = subst (IsLight _) (sym e) no_token
from_light hash Two c s z a l h (inr is) = subst (IsLight _) (sym is.1) no_token
from_light (single k) profile c s z a (modest, l) h is = subst (IsLight _) (sym is.1) (read modest (omega arith))
from_light (opening k) profile c s z a l h is = subst (IsLight _) (sym is.1) (lighter 1 _ (marked k (mark_of s)) (omega arith) (marked_light 1 k (mark_of s) l))
from_light less profile c s z a l h (inl is) = subst (IsLight _) (sym is.1) (read tt (omega arith))
from_light less profile c s z a l h (inr is) = subst (IsLight _) (sym is.2) bad
from_light greater profile c s z a l h (inl (mark, e, is, f)) = subst (IsLight _) (sym f) (marked_light _ EmbedClose (mark_of mark) (λ m. read tt (omega arith)))
from_light greater profile c s z a l h (inr is) = subst (IsLight _) (sym is.2) bad
from_light paren profile c s z a l h is = subst (IsLight _) (sym is.1) (lighter 1 _ (paren_front s) (omega arith) (let chunks : IsLight 1 (Read ChunkOpen) = read tt (omega arith) in search (either_light 1, bad, chunks) depth 8))
from_light double profile c s z a l h is = string_light (is_content 34) (is_unclosed 34) 34 (IsText 34) _ Text s z a (text_spelled 34) is_of_text h is
from_light simple profile c s z a l h is = string_light (is_content 39) (is_unclosed 39) 39 (IsText 39) _ (Bytes true) s z a (text_spelled 39) (is_of_bytes true) h is
from_light minus profile c s z a l h is = lighter 1 _ a (omega arith) (reads_number_light true [] s z a is)
from_light digit profile c s z a l h is = lighter 1 _ a (omega arith) (reads_number_light false (c ∷ []) s z a is)
from_light letter profile c s z a l h (word, after, run, e, is) =
    let parts = split word after (ap are_bytes (sym e) ∙ h) in
    lighter (length after + 4) _ a (omega (arith, ap length e, length-append word after)) (after_light (c ∷ word) after z a parts.1 is)
from_light other profile c s z a l h is = subst (IsLight _) (sym is.1) bad

-- what is read is light
class_light : (n : ℕ) (k : Class) → IsLight n (Read k) → IsModest k × (weight k ≤ n)
class_light n k (read is l) = (is, l)

front_light : (profile : Profile) (s z : List ℕ) (a : Front) → are_bytes s ≡ true → Reads profile s z a → IsLight (4 * length s) a
front_light profile [] z a h is = absurd is
front_light profile (c ∷ s) z a h is = lighter (length s + 4) _ a (omega arith) (from_light (start_of c) profile c s z a (start_light c) (and_parts (is_byte c) (are_bytes s) h).1 is)

-- Whole texts.

tokens_light : (profile : Profile) (ps : List Lexeme) (n : ℕ) (z : List ℕ) → are_bytes (spelled ps) ≡ true → AreRead profile ps z → AreModest (tokens n ps) × (weigh (tokens n ps) ≤ 4 * length (spelled ps))
tokens_light profile [] n z h is = (tt, omega arith)
tokens_light profile (white_space s ∷ ps) n z h is =
    let r = tokens_light profile ps (n + length s) z (split s (spelled ps) h).1 is.1 in
    (r.0, omega (arith, r.1, length-append s (spelled ps)))
tokens_light profile (token k s ∷ ps) n z h is =
    let hs = split s (spelled ps) h in
    let f = class_light _ k (front_light profile s (spelled ps ++ z) (Read k) hs.0 is.0) in
    let r = tokens_light profile ps (n + length s) z hs.1 is.1 in
    ((f.0, r.0), omega (arith, f.1, r.1, length-append s (spelled ps)))

-- LAW: the tokens of a text are modest, and weigh four times its length at most
pub text_light : (profile : Profile) (text : List ℕ) (ts : List Token) → AreBytes text → HasTokens profile text ts → AreModest ts × (weigh ts ≤ 4 * length text)
text_light profile text ts h1 h2 = grind (arith, are_bytes, as_test, lex_parted, tokens_light)

-- LAW: the tokens between two places of a text are modest, also if the text has a lexical fault after them
pub between_modest : (profile : Profile) (text : List ℕ) (n m : ℕ) (ts : List Token) → AreBytes text → TokensBetween profile text n m ts → AreModest ts
between_modest profile text n m ts h a =
    let b = parted profile a in
    let after : are_bytes (drop n text) ≡ true = (split (take n text) (drop n text) (ap are_bytes (take-append-drop n text) ∙ as_test text h)).1 in
    let here = (split (spelled b.pieces) (drop m text) (ap are_bytes (sym b.whole) ∙ after)).0 in
    rw b.placed (tokens_light profile b.pieces n (drop m text) here b.read).0
