-- What the front of a text may be: white space, a comment or a token (RFC 8949 section 8, RFC 8610 appendix G); and the tokens of a text.
-- A text is a list of bytes in UTF-8. Each character that means something is ASCII, so no definition decodes. In what follows s is the part of the text that is described, and z all that follows it.
use Rattle.std.specs.Prelude.{◌≡◌, ℕ, ◌+◌, ◌<◌, ◌≤◌, length, ◌^◌, true, false, ◌||◌, not, List, [], ◌∷◌, ◌++◌, ◌==◌, bytes_eq, drop, codes, Option, Some, None}
use Rattle.cborn_lex.specs.Common.{list_all, byte, Profile, Two, Token, Mark, Class, ArrayOpen, MapOpen, EmbedClose, ArrayClose, MapClose, ParenClose, Comma, Colon, EmbedOpen, ChunkOpen, SimpleOpen, Text, Bytes, TagOpen, Word}
use Rattle.cborn_lex.specs.Tokens.{is_white, is_word, is_numeral, is_not, begins, mark_of}
use Rattle.cborn_lex.specs.Numbers.{are_digits, has_prefix, number, signed}
use Rattle.cborn_lex.specs.Forms.{IsRun, IsIndicator}
use Rattle.cborn_lex.specs.Strings.{is_content, IsText, IsHex, IsBase64}

-- s is the whole encoding indicator before z, or empty if there is none, and is m (RFC 8949 section 8.1)
abbrev pub IsMark : List ℕ → List ℕ → Mark → Type 0
IsMark s z m = IsIndicator s z × (mark_of s ≡ Some m)

-- An integer without its minus, and its value: decimal with no leading zero, or in base 16, 8 or 2 (RFC 8610 appendix G.5).
pub data IsLiteral : List ℕ → ℕ → Type 0 where
  decimal : (x : List ℕ) → are_digits 10 x ≡ true → (bytes_eq x (codes "0") || not (has_prefix (codes "0") x)) ≡ true → IsLiteral x (number 10 0 x)
  hexadecimal : (x : List ℕ) → (has_prefix (codes "0x") x || has_prefix (codes "0X") x) ≡ true → are_digits 16 (drop 2 x) ≡ true → IsLiteral x (number 16 0 (drop 2 x))
  octal : (x : List ℕ) → (has_prefix (codes "0o") x || has_prefix (codes "0O") x) ≡ true → are_digits 8 (drop 2 x) ≡ true → IsLiteral x (number 8 0 (drop 2 x))
  binary : (x : List ℕ) → (has_prefix (codes "0b") x || has_prefix (codes "0B") x) ≡ true → are_digits 2 (drop 2 x) ≡ true → IsLiteral x (number 2 0 (drop 2 x))

-- x is an integer below 2^128 without its minus, with the value v and the indicator m
pub record IsNumeral (x mark z : List ℕ) (v : ℕ) (m : Mark) : Type 0 where
  pub literal : IsLiteral x v
  pub bounded : v < 2 ^ 128
  pub run : IsRun is_numeral x (mark ++ z)
  pub indicator : IsMark mark z m

-- the names of four simple values (RFC 8949 sections 3.3 and 8)
pub data IsName : List ℕ → ℕ → Type 0 where
  is_false : IsName (codes "false") 20
  is_true : IsName (codes "true") 21
  is_null : IsName (codes "null") 22
  is_undefined : IsName (codes "undefined") 23

-- What the content x of a string in single quotes stands for, by the prefix w: hexadecimal or base64 (RFC 8949 section 8, RFC 4648).
pub data IsCoded : List ℕ → List ℕ → List ℕ → Type 0 where
  hex : (x b : List ℕ) → IsHex x b → IsCoded (codes "h") x b
  base64 : (x b : List ℕ) → IsBase64 x b → IsCoded (codes "b64") x b

-- s, before z, is white space or a comment, which is `None`, or a token.
pub data Takes (profile : Profile) : List ℕ → List ℕ → Option Class → Type 0 where
  -- space, tab, LF or CR
  white : (c : ℕ) (z : List ℕ) → is_white c ≡ true → Takes profile (c ∷ []) z None
  -- a comment between slashes (RFC 8610 appendix G.6)
  comment : (x z : List ℕ) → list_all (is_not (byte "/")) x ≡ true → Takes profile (byte "/" ∷ x ++ byte "/" ∷ []) z None
  -- in profile 2 also from `#` up to LF, or up to the text's end
  line : (x z : List ℕ) → profile ≡ Two → list_all (is_not 10) x ≡ true → Takes profile (byte "#" ∷ x ++ 10 ∷ []) z None
  last_line : (x : List ℕ) → profile ≡ Two → list_all (is_not 10) x ≡ true → Takes profile (byte "#" ∷ x) [] None
  -- brackets, and what separates items (RFC 8949 section 8); `<<` and `>>` (RFC 8610 appendix G.3); `(_` opens a string in chunks (RFC 8949 section 8.1)
  array_open : (s z : List ℕ) (m : Mark) → IsMark s z m → Takes profile (byte "[" ∷ s) z (Some (ArrayOpen m))
  array_close : (z : List ℕ) → Takes profile (codes "]") z (Some ArrayClose)
  map_open : (s z : List ℕ) (m : Mark) → IsMark s z m → Takes profile (byte "{" ∷ s) z (Some (MapOpen m))
  map_close : (z : List ℕ) → Takes profile (codes "}") z (Some MapClose)
  embed_open : (z : List ℕ) → Takes profile (codes "<<") z (Some EmbedOpen)
  embed_close : (s z : List ℕ) (m : Mark) → IsMark s z m → Takes profile (codes ">>" ++ s) z (Some (EmbedClose m))
  chunk_open : (z : List ℕ) → begins is_word z ≡ false → Takes profile (codes "(_") z (Some ChunkOpen)
  paren_close : (z : List ℕ) → Takes profile (codes ")") z (Some ParenClose)
  comma : (z : List ℕ) → Takes profile (codes ",") z (Some Comma)
  colon : (z : List ℕ) → Takes profile (codes ":") z (Some Colon)
  -- strings: a text in double quotes (RFC 8259 section 7), bytes in single quotes (RFC 8610 appendix G.2), and bytes with a prefix
  text : (x b s z : List ℕ) (m : Mark) → is_content (byte "\"") x ≡ true → IsText (byte "\"") x b → IsMark s z m → Takes profile (byte "\"" ∷ x ++ byte "\"" ∷ s) z (Some (Text b m))
  bytes : (x b s z : List ℕ) (m : Mark) → is_content (byte "'") x ≡ true → IsText (byte "'") x b → IsMark s z m → Takes profile (byte "'" ∷ x ++ byte "'" ∷ s) z (Some (Bytes true b m))
  coded : (w x b s z : List ℕ) (m : Mark) → IsCoded w x b → list_all (is_not (byte "'")) x ≡ true → IsMark s z m → Takes profile (w ++ (byte "'" ∷ x ++ byte "'" ∷ s)) z (Some (Bytes false b m))
  -- a word ends where no letter, digit, underscore or single quote follows
  word : (w z : List ℕ) (n : ℕ) → IsName w n → (begins is_word z || begins (λ c. c == byte "'") z) ≡ false → Takes profile w z (Some (Word n))
  simple : (z : List ℕ) → Takes profile (codes "simple(") z (Some SimpleOpen)
  -- integers; one without a minus is a tag number where `(` follows
  negative : (x s z : List ℕ) (v : ℕ) (m : Mark) → IsNumeral x s z v m → Takes profile (byte "-" ∷ x ++ s) z (Some (signed true v m))
  positive : (x s z : List ℕ) (v : ℕ) (m : Mark) → IsNumeral x s z v m → begins (λ c. c == byte "(") z ≡ false → Takes profile (x ++ s) z (Some (signed false v m))
  tag : (x s z : List ℕ) (n : ℕ) (m : Mark) → IsNumeral x s (byte "(" ∷ z) n m → Takes profile (x ++ (s ++ byte "(" ∷ [])) z (Some (TagOpen n m))

-- White space, comments and the tokens are all from the offset n, where x begins, up to the offset m, where y begins.
pub data Covers (profile : Profile) : ℕ → List ℕ → List Token → ℕ → List ℕ → Type 0 where
  end : (n : ℕ) (x : List ℕ) → Covers profile n x [] n x
  white_space : (n m : ℕ) (s x y : List ℕ) (ts : List Token) → Takes profile s x None → Covers profile (n + length s) x ts m y → Covers profile n (s ++ x) ts m y
  token : (n m : ℕ) (k : Class) (s x y : List ℕ) (ts : List Token) → Takes profile s x (Some k) → Covers profile (n + length s) x ts m y → Covers profile n (s ++ x) (record { start = n; stop = n + length s; class = k } ∷ ts) m y

-- The tokens of a text, in their order. Nothing else is in it but white space and comments.
abbrev pub HasTokens : Profile → List ℕ → List Token → Type 0
HasTokens profile x ts = Covers profile 0 x ts (length x) []

-- these are the tokens between the offsets n and m of a text, which may go on after m
abbrev pub TokensBetween : Profile → List ℕ → ℕ → ℕ → List Token → Type 0
TokensBetween profile x n m ts = Covers profile n (drop n x) ts m (drop m x)

-- the first token from the offset n on, or none up to the end
abbrev pub IsTokenFrom : Profile → List ℕ → ℕ → Option Token → Type 0
IsTokenFrom profile x n (Some t) = TokensBetween profile x n t.stop (t ∷ [])
IsTokenFrom profile x n None = TokensBetween profile x n (length x) []

-- from n on up to m, the tokens rise, don't overlap and aren't empty
abbrev pub SpansRise : ℕ → List Token → ℕ → Type 0
SpansRise n [] m = n ≤ m
SpansRise n (t ∷ ts) m = (n ≤ t.start) × (t.start < t.stop) × SpansRise t.stop ts m
