-- What the front of a text is, by its first character: white space, a comment, a token, or what is wrong with it (RFC 8949 section 8, RFC 8610 appendix G). It is a device of the proofs, but for `IsRun` and `IsIndicator`.
-- A text is a list of bytes in UTF-8. Each character that means something is ASCII, so no definition decodes.
use Rattle.std.specs.Prelude.{◌≡◌, ℕ, Bool, true, false, ◌&&◌, not, List, [], ◌∷◌, ◌++◌, ◌==◌, bytes_eq, codes, Option, ◌⊎◌, if◌then◌else◌}
use Rattle.cborn_lex.specs.Common.{list_all, byte, is_ascii_digit, is_ascii_alphabetic, Profile, One, Two, Mark, LexReason, UnexpectedCharacter, UnclosedString, UnclosedComment, BadEscape, BadHex, BadBase64, UnknownPrefix, BadIndicator, Class, ArrayOpen, MapOpen, EmbedClose, ArrayClose, MapClose, ParenClose, Comma, Colon, EmbedOpen, ChunkOpen, SimpleOpen, Text, Bytes}
use Rattle.cborn_lex.specs.Tokens.{Front, WhiteSpace, Read, Bad, is_white, is_word, is_numeral, is_not, begins, mark_of, marked}
use Rattle.cborn_lex.specs.Numbers.{integer, number_front, word_front}
use Rattle.cborn_lex.specs.Strings.{is_content, is_unclosed, IsText, IsHex, IsBase64}

-- In what follows s is the front of a text and z is what follows it.

-- s is the longest run of characters that pass
pub record IsRun (p : ℕ → Bool) (s z : List ℕ) : Type 0 where
  pub pass : list_all p s ≡ true
  pub ends : begins p z ≡ false

-- An encoding indicator (RFC 8949 section 8.1): s is the longest run of word characters from an underscore, or nothing if there is no underscore.
abbrev pub IsIndicator : List ℕ → List ℕ → Type 0
IsIndicator [] z = begins (λ c. c == byte "_") z ≡ false
IsIndicator (c ∷ s) z = ((c == byte "_") ≡ true) × IsRun is_word s z

-- s ends with its first q, and body is all before that
pub record Through (q : ℕ) (body s : List ℕ) : Type 0 where
  pub none : list_all (is_not q) body ≡ true
  pub whole : s ≡ body ++ q ∷ []

-- s goes up to the end of the text, and has no q
pub record Lacks (q : ℕ) (s z : List ℕ) : Type 0 where
  pub none : list_all (is_not q) s ≡ true
  pub all : z ≡ []

-- a is the token of the bytes that Is holds of, with its indicator, or bad for the reason r if Is holds of none
abbrev pub ContentGives : (List ℕ → Type 0) → LexReason → (List ℕ → Mark → Class) → Option Mark → Front → Type 0
ContentGives Is r k m a = ((bytes : List ℕ) × Is bytes × (a ≡ marked (k bytes) m)) ⊎ (((bytes : List ℕ) → Is bytes → ⊥) × (a ≡ Bad r))

-- s is a whole content, the quote q, and an indicator
pub record Closed (whole : List ℕ → Bool) (q : ℕ) (content mark s z : List ℕ) : Type 0 where
  pub inside : whole content ≡ true
  pub text : s ≡ content ++ q ∷ mark
  pub indicator : IsIndicator mark z

-- A string after its opening quote q: a whole content, q, and an indicator; or all of an unclosed rest of the text. Is content bytes says what a content stands for.
abbrev pub IsString : (whole unclosed : List ℕ → Bool) → ℕ → (List ℕ → List ℕ → Type 0) → LexReason → (List ℕ → Mark → Class) → List ℕ → List ℕ → Front → Type 0
IsString whole unclosed q Is r k s z a =
    ((content : List ℕ) × (mark : List ℕ) × Closed whole q content mark s z × ContentGives (Is content) r k (mark_of mark) a)
    ⊎ ((unclosed s ≡ true) × (z ≡ []) × (a ≡ Bad UnclosedString))

-- a string with escapes (RFC 8949 section 8, RFC 8610 appendix G.2)
abbrev pub IsQuoted : ℕ → (List ℕ → Mark → Class) → List ℕ → List ℕ → Front → Type 0
IsQuoted q k s z a = IsString (is_content q) (is_unclosed q) q (IsText q) BadEscape k s z a

-- what a word before a single quote is
pub data Prefix : Type 0 where
  hexadecimal base64 unknown : Prefix

abbrev pub prefix_of : List ℕ → Prefix
prefix_of word = if bytes_eq word (codes "h") then hexadecimal else if bytes_eq word (codes "b64") then base64 else unknown

-- a string with a prefix, up to the first single quote
abbrev pub IsUnquoted : (List ℕ → List ℕ → Type 0) → LexReason → List ℕ → List ℕ → Front → Type 0
IsUnquoted Is r s z a = IsString (list_all (is_not (byte "'"))) (list_all (is_not (byte "'"))) (byte "'") Is r (Bytes false) s z a

abbrev pub IsPrefixed : Prefix → List ℕ → List ℕ → Front → Type 0
IsPrefixed hexadecimal s z a = IsUnquoted IsHex BadHex s z a
IsPrefixed base64 s z a = IsUnquoted IsBase64 BadBase64 s z a
IsPrefixed unknown s z a = (s ≡ []) × (a ≡ Bad UnknownPrefix)

-- after a word: a string's quote, the `(` of `simple(`, or neither
abbrev pub IsAfterWord : List ℕ → List ℕ → List ℕ → Front → Type 0
IsAfterWord word [] z a =
    (begins (λ c. c == byte "'") z ≡ false) × ((bytes_eq word (codes "simple") && begins (λ c. c == byte "(") z) ≡ false) × (a ≡ word_front word)
IsAfterWord word (c ∷ s) z a =
    (((c == byte "'") ≡ true) × IsPrefixed (prefix_of word) s z a)
    ⊎ (((c == byte "(") ≡ true) × (bytes_eq word (codes "simple") ≡ true) × (s ≡ []) × (a ≡ Read SimpleOpen))

-- A word, whose first character is c.
abbrev pub ReadsWord : ℕ → List ℕ → List ℕ → Front → Type 0
ReadsWord c s z a = (word : List ℕ) × (after : List ℕ) × IsRun is_word word (after ++ z) × (s ≡ word ++ after) × IsAfterWord (c ∷ word) after z a

-- the `(` of a tag's number, which has no minus
abbrev pub IsTag : Bool → Bool → List ℕ → List ℕ → Type 0
IsTag negative tagged [] z = (tagged ≡ false) × ((not negative && begins (λ c. c == byte "(") z) ≡ false)
IsTag negative tagged (c ∷ s) z = (tagged ≡ true) × (negative ≡ false) × ((c == byte "(") ≡ true) × (s ≡ [])

-- s is what follows the first character of a number: the rest of its body, an indicator, and the `(` of a tag
pub record IsNumber (negative tagged : Bool) (body mark tag s z : List ℕ) : Type 0 where
  pub run : IsRun is_numeral body (mark ++ (tag ++ z))
  pub indicator : IsIndicator mark (tag ++ z)
  pub tagging : IsTag negative tagged tag z
  pub whole : s ≡ body ++ (mark ++ tag)

-- A number. first is its first digit, or empty after a minus.
abbrev pub ReadsNumber : Bool → List ℕ → List ℕ → List ℕ → Front → Type 0
ReadsNumber negative first s z a =
    (tagged : Bool) × (body : List ℕ) × (mark : List ℕ) × (tag : List ℕ) × IsNumber negative tagged body mark tag s z × (a ≡ number_front negative tagged (mark_of mark) (integer negative (first ++ body)))

-- What a first character begins. Comments: RFC 8610 appendix G.6; `<<` and `>>`: appendix G.3.
pub data Start : Type 0 where
  white slash hash less greater paren double simple letter minus digit other : Start
  single : Class → Start
  opening : (Mark → Class) → Start

abbrev pub start_of : ℕ → Start
start_of c =
    if is_white c then white
    else if c == byte "/" then slash
    else if c == byte "#" then hash
    else if c == byte "[" then opening ArrayOpen
    else if c == byte "{" then opening MapOpen
    else if c == byte "]" then single ArrayClose
    else if c == byte "}" then single MapClose
    else if c == byte ")" then single ParenClose
    else if c == byte "," then single Comma
    else if c == byte ":" then single Colon
    else if c == byte "<" then less
    else if c == byte ">" then greater
    else if c == byte "(" then paren
    else if c == byte "\"" then double
    else if c == byte "'" then simple
    else if c == byte "-" then minus
    else if is_ascii_digit c then digit
    else if is_ascii_alphabetic c then letter
    else other

-- a `(` that follows no number and no `simple`: a string in chunks begins with `(_` (RFC 8949 section 8.1)
abbrev pub paren_front : List ℕ → Front
paren_front mark =
    if bytes_eq mark [] then Bad UnexpectedCharacter
    else if bytes_eq mark (codes "_") then Read ChunkOpen
    else Bad BadIndicator

-- The front is the character c and s after it, and z follows.
abbrev pub ReadsFrom : Start → Profile → ℕ → List ℕ → List ℕ → Front → Type 0
ReadsFrom white profile c s z a = (s ≡ []) × (a ≡ WhiteSpace)
ReadsFrom slash profile c s z a = ((body : List ℕ) × Through (byte "/") body s × (a ≡ WhiteSpace)) ⊎ (Lacks (byte "/") s z × (a ≡ Bad UnclosedComment))
ReadsFrom hash One c s z a = (s ≡ []) × (a ≡ Bad UnexpectedCharacter)
ReadsFrom hash Two c s z a = ((body : List ℕ) × Through 10 body s × (a ≡ WhiteSpace)) ⊎ (Lacks 10 s z × (a ≡ WhiteSpace))
ReadsFrom (single k) profile c s z a = (s ≡ []) × (a ≡ Read k)
ReadsFrom (opening k) profile c s z a = IsIndicator s z × (a ≡ marked k (mark_of s))
ReadsFrom less profile c s z a = ((s ≡ byte "<" ∷ []) × (a ≡ Read EmbedOpen)) ⊎ ((s ≡ []) × (begins (λ d. d == byte "<") z ≡ false) × (a ≡ Bad UnexpectedCharacter))
ReadsFrom greater profile c s z a = ((mark : List ℕ) × (s ≡ byte ">" ∷ mark) × IsIndicator mark z × (a ≡ marked EmbedClose (mark_of mark))) ⊎ ((s ≡ []) × (begins (λ d. d == byte ">") z ≡ false) × (a ≡ Bad UnexpectedCharacter))
ReadsFrom paren profile c s z a = IsIndicator s z × (a ≡ paren_front s)
ReadsFrom double profile c s z a = IsQuoted (byte "\"") Text s z a
ReadsFrom simple profile c s z a = IsQuoted (byte "'") (Bytes true) s z a
ReadsFrom minus profile c s z a = ReadsNumber true [] s z a
ReadsFrom digit profile c s z a = ReadsNumber false (c ∷ []) s z a
ReadsFrom letter profile c s z a = ReadsWord c s z a
ReadsFrom other profile c s z a = (s ≡ []) × (a ≡ Bad UnexpectedCharacter)

abbrev pub Reads : Profile → List ℕ → List ℕ → Front → Type 0
Reads profile [] z a = ⊥
Reads profile (c ∷ s) z a = ReadsFrom (start_of c) profile c s z a
