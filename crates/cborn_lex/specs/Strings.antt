-- What the contents of strings stand for.
use Rattle.std.specs.Prelude.{◌≡◌, ℕ, ◌+◌, ◌-◌, ◌*◌, ◌%◌, Bool, true, ◌||◌, ◌&&◌, not, List, [], ◌∷◌, ◌++◌, length, map, filter, replicate, ◌==◌, nat_le, nat_lt, codes, Ok, if◌then◌else◌, encode_utf8}
use Rattle.cborn_lex.specs.Common.{list_all, list_any, byte, is_digit, digit_value, decode_of, IsBytes}
use Rattle.base64.specs.GeneralPurpose.{encode_of}
use Rattle.base64.specs.Engines.{standard}
use Rattle.cborn_lex.specs.Tokens.{is_white, is_not}

-- Quoted strings. A backslash takes the next character with it, and no other character is the quote q.

abbrev pub is_content : ℕ → List ℕ → Bool
is_content q [] = true
is_content q (c ∷ []) = not (c == byte "\\") && is_not q c
is_content q (c ∷ d ∷ x) = if c == byte "\\" then is_content q x else is_not q c && is_content q (d ∷ x)

-- no quote q closes the rest of a text, which may end in a backslash
abbrev pub is_unclosed : ℕ → List ℕ → Bool
is_unclosed q [] = true
is_unclosed q (c ∷ []) = is_not q c
is_unclosed q (c ∷ d ∷ x) = if c == byte "\\" then is_unclosed q x else is_not q c && is_unclosed q (d ∷ x)

abbrev pub four : ℕ → ℕ → ℕ → ℕ → List ℕ
four a b c d = byte "\\" ∷ byte "u" ∷ a ∷ b ∷ c ∷ d ∷ []

-- the number of four hexadecimal digits
abbrev pub code : ℕ → ℕ → ℕ → ℕ → ℕ
code a b c d = ((digit_value a * 16 + digit_value b) * 16 + digit_value c) * 16 + digit_value d

abbrev pub are_hex : ℕ → ℕ → ℕ → ℕ → Bool
are_hex a b c d = (is_digit a 16 && is_digit b 16) && (is_digit c 16 && is_digit d 16)

abbrev pub is_high : ℕ → Bool
is_high n = nat_le 0xD800 n && nat_lt n 0xDC00

abbrev pub is_low : ℕ → Bool
is_low n = nat_le 0xDC00 n && nat_lt n 0xE000

-- the escapes of JSON (RFC 8259 section 7), \" \\ \/ \b \f \n \r \t, and \' between single quotes
abbrev pub is_escape : ℕ → ℕ → Bool
is_escape q e = list_any (λ c. e == c) (codes "\"\\/bfnrt") || ((e == byte "'") && (q == byte "'"))

abbrev pub escape_code : ℕ → ℕ
escape_code e =
    if e == byte "b" then 8
    else if e == byte "f" then 12
    else if e == byte "n" then 10
    else if e == byte "r" then 13
    else if e == byte "t" then 9
    else e

-- the character of two surrogates
abbrev pub paired : ℕ → ℕ → ℕ
paired high low = 0x1_0000 + (high - 0xD800) * 0x400 + (low - 0xDC00)

-- What a content between quotes q stands for: a byte for itself, and an escape for its character in UTF-8.
pub data IsText (q : ℕ) : List ℕ → List ℕ → Type 0 where
  nothing : IsText q [] []
  raw : (c : ℕ) (x y : List ℕ) → (nat_le 32 c && not (c == byte "\\")) ≡ true → IsText q x y → IsText q (c ∷ x) (c ∷ y)
  escaped : (e : ℕ) (x y : List ℕ) → is_escape q e ≡ true → IsText q x y → IsText q (byte "\\" ∷ e ∷ x) (escape_code e ∷ y)
  unit : (a b c d : ℕ) (x y : List ℕ) → (are_hex a b c d && not (is_high (code a b c d) || is_low (code a b c d))) ≡ true → IsText q x y → IsText q (four a b c d ++ x) (encode_utf8 (code a b c d) ++ y)
  pair : (a b c d e f g h : ℕ) (x y : List ℕ) → ((are_hex a b c d && is_high (code a b c d)) && (are_hex e f g h && is_low (code e f g h))) ≡ true → IsText q x y → IsText q (four a b c d ++ (four e f g h ++ x)) (encode_utf8 (paired (code a b c d) (code e f g h)) ++ y)

-- Hexadecimal (RFC 4648 section 8): digits in either case, and between them white space and comments (RFC 8610 appendix G.1, G.6).

-- the digits of a content
pub data HasDigits : List ℕ → List ℕ → Type 0 where
  nothing : HasDigits [] []
  digit : (c : ℕ) (x ds : List ℕ) → is_digit c 16 ≡ true → HasDigits x ds → HasDigits (c ∷ x) (c ∷ ds)
  space : (c : ℕ) (x ds : List ℕ) → is_white c ≡ true → HasDigits x ds → HasDigits (c ∷ x) ds
  comment : (body x ds : List ℕ) → list_all (is_not (byte "/")) body ≡ true → HasDigits x ds → HasDigits (byte "/" ∷ (body ++ byte "/" ∷ x)) ds

abbrev pub IsHex : List ℕ → List ℕ → Type 0
IsHex content bytes = (digits : List ℕ) × HasDigits content digits × (decode_of digits ≡ Ok bytes)

-- Base64 (RFC 4648 sections 4 and 5): white space is dropped, both alphabets are one, and without padding it is filled up. It is the encoding of some bytes, so unused bits are 0.

abbrev pub to_standard : ℕ → ℕ
to_standard c = if c == byte "-" then byte "+" else if c == byte "_" then byte "/" else c

abbrev pub filled : List ℕ → List ℕ
filled x = if list_any (λ c. c == byte "=") x then x else x ++ replicate ((4 - length x % 4) % 4) (byte "=")

abbrev pub base64_text : List ℕ → List ℕ
base64_text content = filled (map to_standard (filter (λ c. not (is_white c)) content))

pub record IsBase64 (content bytes : List ℕ) : Type 0 where
  pub are_bytes : IsBytes bytes
  pub value : base64_text content ≡ encode_of standard bytes
