-- What the content of a string stands for is UTF-8 if the text is.
use Rattle.std.specs.Prelude.{◌≡◌, ◌+◌, ◌<◌, ◌^◌, ◌∷◌, ◌++◌, ◌&&◌, ◌||◌}
use Rattle.cborn_edn.proofs.Common.{sym, subst, ℕ, List, [], length, take, drop, get_or, Bool, true, false, cond, ltb, arith, and_parts, cond_both, ltb-true, not-true, append_assoc, IsAscii, IsAscii-nil, IsAscii-cons, IsUtf8-append, IsUtf8-encode, IsUtf8-from_ascii, IsUtf8-take, IsUtf8-drop, IsCharBoundary-after_ascii, IsCharBoundary-before_ascii, list_all, flat_map, is_digit, IsUtf8, is_escape, escape_code, are_hex, is_high, is_low as is_low_unit, Letter, raw, unit, written, meant, is_letter, after_slash as escaped, pair}
use Rattle.cborn_lex.specs.Strings.{IsText, code, paired}
use Rattle.cborn_lex.proofs.Contents.Texts.{has_letters}
use lib.Utf8.{encode, scalar}
use Rattle.simdutf8.specs.Steps.{IsClosed}
use Rattle.simdutf8.specs.Tracks.{last_three}
use Rattle.simdutf8.proofs.Chars.{StepsThen-IsUtf8, closed-IsUtf8}
use Rattle.simdutf8.proofs.StepsLemmas.{StepsThen_parts, StepsThen-append, Steps_ascii, IsUtf8-after_ascii}

-- LAW: a slice between two ASCII characters of a text
pub slice_utf8 : (text : List ℕ) (at len : ℕ) → IsUtf8 text → at < length text → get_or text at 0 < 128 → len < length (drop (at + 1) text) → get_or (drop (at + 1) text) len 0 < 128 → IsUtf8 (take len (drop (at + 1) text))
slice_utf8 text at len u h a l b =
    IsUtf8-take (drop (at + 1) text) len (IsUtf8-drop text (at + 1) u (IsCharBoundary-after_ascii text at u h a)) (IsCharBoundary-before_ascii (drop (at + 1) text) len l b)

-- ASCII, as a test
abbrev pub is_low : List ℕ → Bool
is_low x = list_all (λ b. ltb b 128) x

pub low_ascii : (x : List ℕ) → is_low x ≡ true → IsAscii x
low_ascii [] h = IsAscii-nil
low_ascii (b ∷ x) h = let hs = and_parts (ltb b 128) (is_low x) h in IsAscii-cons b x (ltb-true b 128 hs.0) (low_ascii x hs.1)

-- a text is cut at characters of ASCII
pub cut : (a p z : List ℕ) → IsAscii p → 0 < length p → IsUtf8 (a ++ (p ++ z)) → IsUtf8 a × IsUtf8 z
cut a p z low some u =
    let t = last_three 0 0 0 a in
    let whole = (StepsThen-append IsClosed 0 0 0 a (p ++ z)).0 ((StepsThen-IsUtf8 (a ++ (p ++ z))).1 u) in
    let closed = (Steps_ascii t.0 t.1 t.2 p low some).0 ((StepsThen-append IsClosed t.0 t.1 t.2 p z).0 whole.1).0 in
    ((StepsThen-IsUtf8 a).0 ((StepsThen_parts IsClosed 0 0 0 a).1 (whole.0, closed)), (IsUtf8-after_ascii p z low).0 (closed-IsUtf8 t.0 t.1 t.2 (p ++ z) closed whole.1))

-- a text goes in their place
pub exchanged : (a p m x y : List ℕ) → IsAscii p → 0 < length p → IsUtf8 m → (IsUtf8 x → IsUtf8 y) → IsUtf8 (a ++ (p ++ x)) → IsUtf8 (a ++ (m ++ y))
exchanged a p m x y low some is rest u = let c = cut a p x low some u in IsUtf8-append a (m ++ y) c.0 (IsUtf8-append m y is (rest c.1))

-- Escapes are ASCII, and stand for characters.

digit_ascii : (c : ℕ) → is_digit c 16 ≡ true → c < 128
digit_ascii c h = grind arith

escape_ascii : (q e : ℕ) → is_escape q e ≡ true → e < 128
escape_ascii q e h = grind arith

below : (b : Bool) (x y : ℕ) → x < 128 → y < 128 → cond b x y < 128
below b x y h k = cond_both b x y (λ n. n < 128) (λ e. h) (λ e. k)

escape_below : (e : ℕ) → e < 128 → escape_code e < 128
escape_below e h = grind arith

hexes : (a b c d : ℕ) → are_hex a b c d ≡ true → (a < 128) × (b < 128) × (c < 128) × (d < 128) × (code a b c d < 2 ^ 16)
hexes a b c d h1 = grind (arith, and_parts, digit_ascii, ltb-true)

four_ascii : (a b c d : ℕ) (x : List ℕ) → (a < 128) × (b < 128) × (c < 128) × (d < 128) × (code a b c d < 2 ^ 16) → IsAscii x → IsAscii (92 ∷ 117 ∷ a ∷ b ∷ c ∷ d ∷ x)
four_ascii a b c d x h k = IsAscii-cons 92 (117 ∷ a ∷ b ∷ c ∷ d ∷ x) (omega arith) (IsAscii-cons 117 (a ∷ b ∷ c ∷ d ∷ x) (omega arith) (IsAscii-cons a (b ∷ c ∷ d ∷ x) h.0 (IsAscii-cons b (c ∷ d ∷ x) h.1 (IsAscii-cons c (d ∷ x) h.2 (IsAscii-cons d x h.3 k)))))

no_surrogate : (n : ℕ) → n < 2 ^ 16 → (is_high n || is_low_unit n) ≡ false → scalar n ≡ true
no_surrogate n h k = grind arith

two_scalars : (m n : ℕ) → is_high m ≡ true → is_low_unit n ≡ true → scalar (paired m n) ≡ true
two_scalars m n h l = grind arith

-- what letters after a text stand for
letters_utf8 : (q : ℕ) (ls : List Letter) (x : List ℕ) → list_all (is_letter q) ls ≡ true → IsUtf8 (x ++ flat_map written ls) → IsUtf8 (x ++ flat_map meant ls)
letters_utf8 q [] x al u = u
letters_utf8 q (raw c ∷ ls) x al u =
    let hs = and_parts (is_letter q (raw c)) (list_all (is_letter q) ls) al in
    subst IsUtf8 (append_assoc x (c ∷ []) (flat_map meant ls)) (letters_utf8 q ls (x ++ c ∷ []) hs.1 (subst IsUtf8 (sym (append_assoc x (c ∷ []) (flat_map written ls))) u))
letters_utf8 q (escaped e ∷ ls) x al u =
    let hs = and_parts (is_letter q (escaped e)) (list_all (is_letter q) ls) al in
    let h = escape_ascii q e hs.0 in
    exchanged x (92 ∷ e ∷ []) (escape_code e ∷ []) (flat_map written ls) (flat_map meant ls) (IsAscii-cons 92 (e ∷ []) (omega arith) (IsAscii-cons e [] h IsAscii-nil)) (omega arith) (IsUtf8-from_ascii (escape_code e ∷ []) (IsAscii-cons (escape_code e) [] (escape_below e h) IsAscii-nil)) (letters_utf8 q ls [] hs.1) u
letters_utf8 q (unit a b c d ∷ ls) x al u =
    let hs = and_parts (is_letter q (unit a b c d)) (list_all (is_letter q) ls) al in
    let ts = and_parts (are_hex a b c d) _ hs.0 in
    let h = hexes a b c d ts.0 in
    exchanged x (92 ∷ 117 ∷ a ∷ b ∷ c ∷ d ∷ []) (encode (code a b c d)) (flat_map written ls) (flat_map meant ls) (four_ascii a b c d [] h IsAscii-nil) (omega arith) (IsUtf8-encode (code a b c d) (no_surrogate (code a b c d) h.4 (not-true _ ts.1))) (letters_utf8 q ls [] hs.1) u
letters_utf8 q (pair a b c d e f g i ∷ ls) x al u =
    let hs = and_parts (is_letter q (pair a b c d e f g i)) (list_all (is_letter q) ls) al in
    let ts = and_parts (are_hex a b c d && is_high (code a b c d)) (are_hex e f g i && is_low_unit (code e f g i)) hs.0 in
    let xs = and_parts (are_hex a b c d) (is_high (code a b c d)) ts.0 in
    let ys = and_parts (are_hex e f g i) (is_low_unit (code e f g i)) ts.1 in
    let m = paired (code a b c d) (code e f g i) in
    exchanged x (92 ∷ 117 ∷ a ∷ b ∷ c ∷ d ∷ 92 ∷ 117 ∷ e ∷ f ∷ g ∷ i ∷ []) (encode m) (flat_map written ls) (flat_map meant ls) (four_ascii a b c d (92 ∷ 117 ∷ e ∷ f ∷ g ∷ i ∷ []) (hexes a b c d xs.0) (four_ascii e f g i [] (hexes e f g i ys.0) IsAscii-nil)) (omega arith) (IsUtf8-encode m (two_scalars (code a b c d) (code e f g i) xs.1 ys.1)) (letters_utf8 q ls [] hs.1) u

-- LAW: the bytes that a content in UTF-8 stands for are UTF-8
pub text_utf8 : (q : ℕ) (x y : List ℕ) → IsText q x y → IsUtf8 x → IsUtf8 y
text_utf8 q x y t u = let h = has_letters q t in subst IsUtf8 (sym h.value) (letters_utf8 q h.letters [] h.allowed (subst IsUtf8 h.whole u))
