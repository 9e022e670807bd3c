-- Integers (RFC 8949 section 8, RFC 8610 appendix G.5), and words.
use Rattle.std.specs.Prelude.{◌≡◌, ℕ, ◌+◌, ◌*◌, ◌^◌, ◌≤◌, Bool, true, false, ◌||◌, ◌&&◌, not, List, [], ◌∷◌, length, take, drop, ◌==◌, nat_lt, bytes_eq, codes, Option, Result, Ok, Err, if◌then◌else◌}
use Rattle.cborn_lex.specs.Common.{list_all, list_any, is_digit, digit_value, is_ascii_digit, Mark, LexReason, UnexpectedCharacter, BadNumber, NumberTooLarge, FloatLeftOut, Class, Number, TagOpen, Word}
use Rattle.cborn_lex.specs.Tokens.{Front, Read, Bad, begins, is_numeral, marked}

-- one or more digits of the base
abbrev pub are_digits : ℕ → List ℕ → Bool
are_digits base ds = begins (λ d. true) ds && list_all (λ d. is_digit d base) ds

-- the number that digits spell, after digits that spell n
abbrev pub number : ℕ → ℕ → List ℕ → ℕ
number base n [] = n
number base n (d ∷ ds) = number base (n * base + digit_value d) ds

abbrev pub within : ℕ → Result ℕ LexReason
within n = if nat_lt n (2 ^ 128) then Ok n else Err NumberTooLarge

abbrev pub has_prefix : List ℕ → List ℕ → Bool
has_prefix p x = bytes_eq (take (length p) x) p

abbrev pub has_any : List ℕ → List ℕ → Bool
has_any cs x = list_any (λ c. list_any (λ d. c == d) cs) x

-- The value of a number, whose text without its minus is body. The first line that applies counts.
abbrev pub integer : Bool → List ℕ → Result ℕ LexReason
integer negative body =
    if has_prefix (codes "0x") body || has_prefix (codes "0X") body then
    (if are_digits 16 (drop 2 body) then within (number 16 0 (drop 2 body))
    else if has_any (codes ".pP") (drop 2 body) then Err FloatLeftOut
    else Err BadNumber)
    else if has_prefix (codes "0o") body || has_prefix (codes "0O") body then
    (if are_digits 8 (drop 2 body) then within (number 8 0 (drop 2 body)) else Err BadNumber)
    else if has_prefix (codes "0b") body || has_prefix (codes "0B") body then
    (if are_digits 2 (drop 2 body) then within (number 2 0 (drop 2 body)) else Err BadNumber)
    else if are_digits 10 body then
    (if bytes_eq body (codes "0") || not (has_prefix (codes "0") body) then within (number 10 0 body) else Err BadNumber)
    else if begins is_ascii_digit body && has_any (codes ".eE") body then Err FloatLeftOut
    else if negative && has_prefix (codes "Infinity") body then Err FloatLeftOut
    else Err BadNumber

-- the first len characters of x are a decimal integer without a leading zero, of at most 19 digits, and the number ends there
pub record BeginsDecimal (x : List ℕ) (len : ℕ) : Type 0 where
  pub within : len ≤ length x
  pub few : len ≤ 19
  pub digits : are_digits 10 (take len x) ≡ true
  pub lone : (bytes_eq (take len x) (codes "0") || not (has_prefix (codes "0") (take len x))) ≡ true
  pub ends : begins is_numeral (drop len x) ≡ false

-- -0 is 0
abbrev pub signed : Bool → ℕ → Mark → Class
signed negative n m = Number (negative && not (n == 0)) n m

-- the front of a number, or of a tag's number with its `(`
abbrev pub number_front : Bool → Bool → Option Mark → Result ℕ LexReason → Front
number_front negative tagged m (Err r) = Bad r
number_front negative true m (Ok n) = marked (TagOpen n) m
number_front negative false m (Ok n) = marked (signed negative n) m

-- the front of a word that is neither a prefix nor `simple(`
abbrev pub word_front : List ℕ → Front
word_front w =
    if bytes_eq w (codes "false") then Read (Word 20)
    else if bytes_eq w (codes "true") then Read (Word 21)
    else if bytes_eq w (codes "null") then Read (Word 22)
    else if bytes_eq w (codes "undefined") then Read (Word 23)
    else if has_prefix (codes "NaN") w || has_prefix (codes "Infinity") w then Bad FloatLeftOut
    else Bad UnexpectedCharacter
