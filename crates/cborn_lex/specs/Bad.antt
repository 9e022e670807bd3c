-- Lexical faults: what is wrong where neither white space, a comment nor a token begins (RFC 8949 section 8, RFC 8610 appendix G).
use Rattle.std.specs.Prelude.{◌≡◌, ℕ, ◌+◌, ◌≤◌, ◌^◌, Bool, true, false, ◌||◌, ◌&&◌, List, [], ◌∷◌, ◌++◌, ◌==◌, bytes_eq, drop, codes, Option, Some, None}
use Rattle.cborn_lex.specs.Common.{list_all, list_any, byte, is_ascii_digit, is_ascii_alphabetic, is_ascii_alphanumeric, Profile, One, Class, Token, LexFault, Refused, OutOfMemory, LexReason, UnexpectedCharacter, UnclosedString, UnclosedComment, BadEscape, BadHex, BadBase64, UnknownPrefix, BadIndicator, BadNumber, NumberTooLarge, FloatLeftOut}
use Rattle.cborn_lex.specs.Tokens.{is_white, is_word, is_numeral, is_not, begins, mark_of}
use Rattle.cborn_lex.specs.Numbers.{has_prefix, has_any}
use Rattle.cborn_lex.specs.Forms.{IsRun, IsIndicator}
use Rattle.cborn_lex.specs.Strings.{is_content, IsText}
use Rattle.cborn_lex.specs.Good.{IsLiteral, IsName, IsCoded, Takes, Covers}

-- Characters and words.

abbrev pub is_quote : ℕ → Bool
is_quote c = (c == byte "\"") || (c == byte "'")

-- white space, a comment or a token may begin with this character
abbrev pub is_start : ℕ → Bool
is_start c = (is_white c || is_ascii_alphanumeric c) || list_any (λ d. c == d) (codes "/#[]{}(),:<>\"'-")

-- w is a whole word before z
pub record IsWord (w z : List ℕ) : Type 0 where
  pub letter : begins is_ascii_alphabetic w ≡ true
  pub run : IsRun is_word w z

-- a word that begins as a float does: NaN, Infinity
abbrev pub is_float_word : List ℕ → Bool
is_float_word w = has_prefix (codes "NaN") w || has_prefix (codes "Infinity") w

-- the prefix of a string in hexadecimal or base64, and the reason if its content is not that
pub data IsPrefix : List ℕ → LexReason → Type 0 where
  hex : IsPrefix (codes "h") BadHex
  base64 : IsPrefix (codes "b64") BadBase64

-- Numbers. x is the text of a number without its minus, and n says whether it has a minus.

-- it begins with 0 and one of these letters, which name a base (RFC 8610 appendix G.5)
abbrev pub is_based : List ℕ → List ℕ → Bool
is_based letters x = list_any (λ c. has_prefix (byte "0" ∷ c ∷ []) x) letters

-- a float: 0x1.8p1, 1.5, 1e3, -Infinity
pub data IsFloat (n : Bool) (x : List ℕ) : Type 0 where
  hexadecimal : is_based (codes "xX") x ≡ true → has_any (codes ".pP") (drop 2 x) ≡ true → IsFloat n x
  decimal : begins is_ascii_digit x ≡ true → is_based (codes "xXoObB") x ≡ false → has_any (codes ".eE") x ≡ true → IsFloat n x
  infinite : n ≡ true → has_prefix (codes "Infinity") x ≡ true → IsFloat n x

-- Why a number isn't an integer below 2^128.
pub data IsNoInteger (n : Bool) (x : List ℕ) : LexReason → Type 0 where
  float : IsFloat n x → IsNoInteger n x FloatLeftOut
  large : (v : ℕ) → IsLiteral x v → 2 ^ 128 ≤ v → IsNoInteger n x NumberTooLarge
  bad : (IsFloat n x → ⊥) → ((v : ℕ) → IsLiteral x v → ⊥) → IsNoInteger n x BadNumber

-- The text begins with a lexical fault, for this reason.
pub data Fails (profile : Profile) : List ℕ → LexReason → Type 0 where
  -- a slash, and no other after it (RFC 8610 appendix G.6)
  comment : (x : List ℕ) → list_all (is_not (byte "/")) x ≡ true → Fails profile (byte "/" ∷ x) UnclosedComment
  -- a quote, and no other after it that closes the string
  quote : (q : ℕ) (y : List ℕ) → is_quote q ≡ true → ((x z : List ℕ) → is_content q x ≡ true → y ≡ x ++ q ∷ z → ⊥) → Fails profile (q ∷ y) UnclosedString
  -- a string in quotes whose content stands for no bytes (RFC 8259 section 7, RFC 8610 appendix G.2)
  escape : (q : ℕ) (x z : List ℕ) → is_quote q ≡ true → is_content q x ≡ true → ((b : List ℕ) → IsText q x b → ⊥) → Fails profile (q ∷ x ++ q ∷ z) BadEscape
  -- a word before a single quote that is no prefix
  unknown : (w z : List ℕ) → IsWord w (byte "'" ∷ z) → ((r : LexReason) → IsPrefix w r → ⊥) → Fails profile (w ++ byte "'" ∷ z) UnknownPrefix
  -- a prefix and a quote, and no other quote after it
  unclosed : (w x : List ℕ) (r : LexReason) → IsPrefix w r → list_all (is_not (byte "'")) x ≡ true → Fails profile (w ++ byte "'" ∷ x) UnclosedString
  -- a content between quotes that stands for no bytes in the alphabet of its prefix
  content : (w x z : List ℕ) (r : LexReason) → IsPrefix w r → list_all (is_not (byte "'")) x ≡ true → ((b : List ℕ) → IsCoded w x b → ⊥) → Fails profile (w ++ (byte "'" ∷ x ++ byte "'" ∷ z)) r
  -- a bad indicator: with _3 in its place there would be a token (RFC 8949 section 8.1)
  indicator : (s m z : List ℕ) (k : Class) → Takes profile (s ++ codes "_3") [] (Some k) → IsIndicator m z → mark_of m ≡ None → Fails profile (s ++ (m ++ z)) BadIndicator
  -- a string in chunks begins with `(_`, and no other indicator
  chunks : (z : List ℕ) → begins is_word z ≡ true → Fails profile (codes "(_" ++ z) BadIndicator
  -- a minus or a digit that begins no integer below 2^128
  negative : (x z : List ℕ) (r : LexReason) → IsRun is_numeral x z → IsNoInteger true x r → Fails profile (byte "-" ∷ x ++ z) r
  positive : (x z : List ℕ) (r : LexReason) → begins is_ascii_digit x ≡ true → IsRun is_numeral x z → IsNoInteger false x r → Fails profile (x ++ z) r
  -- a word that is neither a prefix nor the name of a simple value
  float : (w z : List ℕ) → IsWord w z → begins (λ c. c == byte "'") z ≡ false → is_float_word w ≡ true → Fails profile (w ++ z) FloatLeftOut
  word : (w z : List ℕ) → IsWord w z → begins (λ c. c == byte "'") z ≡ false → is_float_word w ≡ false → ((n : ℕ) → IsName w n → ⊥) → (bytes_eq w (codes "simple") && begins (λ c. c == byte "(") z) ≡ false → Fails profile (w ++ z) UnexpectedCharacter
  -- `<`, `>` or `(` alone, a `#` in profile 1, and any character that begins nothing
  less : (z : List ℕ) → begins (λ c. c == byte "<") z ≡ false → Fails profile (byte "<" ∷ z) UnexpectedCharacter
  greater : (z : List ℕ) → begins (λ c. c == byte ">") z ≡ false → Fails profile (byte ">" ∷ z) UnexpectedCharacter
  paren : (z : List ℕ) → begins (λ c. c == byte "_") z ≡ false → Fails profile (byte "(" ∷ z) UnexpectedCharacter
  hash : (z : List ℕ) → profile ≡ One → Fails profile (byte "#" ∷ z) UnexpectedCharacter
  other : (c : ℕ) (z : List ℕ) → is_start c ≡ false → Fails profile (c ∷ z) UnexpectedCharacter

-- no white space, comment or token begins the text
abbrev pub BeginsNothing : Profile → List ℕ → Type 0
BeginsNothing profile y = (s z : List ℕ) (o : Option Class) → y ≡ s ++ z → Takes profile s z o → ⊥

-- the text has a lexical fault at n, after white space, comments and tokens, for the reason r
abbrev pub FailsAt : Profile → List ℕ → ℕ → LexReason → Type 0
FailsAt profile text n r = (ts : List Token) × (y : List ℕ) × Covers profile 0 text ts n y × Fails profile y r

-- why a text has no tokens: its lexical fault; nothing is said of it if memory was refused
abbrev pub HasNoTokens : Profile → List ℕ → LexFault → Type 0
HasNoTokens profile text (Refused n r) = FailsAt profile text n r
HasNoTokens profile text OutOfMemory = Unit {0}

-- why the text from the offset n on begins with no token; p is an offset from the start of the text
abbrev pub HasNoTokenFrom : Profile → List ℕ → ℕ → LexFault → Type 0
HasNoTokenFrom profile text n (Refused p r) = (q : ℕ) × (p ≡ n + q) × FailsAt profile (drop n text) q r
HasNoTokenFrom profile text n OutOfMemory = Unit {0}
