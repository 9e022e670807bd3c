-- A device of the proofs: functions that the code computes. No definition cites it.
use Rattle.std.specs.Prelude.{ℕ, ◌+◌, ◌-◌, ◌*◌, Bool, true, false, not, List, [], ◌∷◌, ◌++◌, drop, Option, Some, None, ◌==◌, ◌&&◌, nat_le, cond}
use Rattle.cborn_lex.specs.Common.{is_digit, LexReason, BadHex, BadBase64}
use Rattle.cborn_lex.specs.Tokens.{is_white}
use Rattle.cborn_lex.specs.declared.encoded.Encoding.{Encoding}
use Rattle.cborn_lex.specs.declared.encoded.Encoding.TheVariants.{Hex, Base64}
use Rattle.cborn_lex.specs.Strings.{IsHex, IsBase64, is_escape, escape_code, are_hex, code, is_high, is_low}

abbrev pub onto : ℕ → Option (List ℕ) → Option (List ℕ)
onto c None = None
onto c (Some x) = Some (c ∷ x)

-- the digits of a content in hexadecimal; the test says whether a comment is open
abbrev pub strip : Bool → List ℕ → Option (List ℕ)
strip false [] = Some []
strip true [] = None
strip true (c ∷ x) = cond (c == 47) (strip false x) (strip true x)
strip false (c ∷ x) = cond (is_digit c 16) (onto c (strip false x)) (cond (is_white c) (strip false x) (cond (c == 47) (strip true x) None))

abbrev pub after : List ℕ → Option (List ℕ) → Option (List ℕ)
after xs None = None
after xs (Some ys) = Some (xs ++ ys)

-- a content stands for these bytes
abbrev pub IsEncoded : Encoding → List ℕ → List ℕ → Type 0
IsEncoded Hex = IsHex
IsEncoded Base64 = IsBase64

-- why a content is bad that stands for none
abbrev pub refusal : Encoding → LexReason
refusal Hex = BadHex
refusal Base64 = BadBase64

-- a character of a string that stands for itself
abbrev pub is_raw : ℕ → Bool
is_raw c = nat_le 32 c && not (c == 92)

-- the number of the four hexadecimal digits at the front
abbrev pub code_at : List ℕ → Option ℕ
code_at (a ∷ b ∷ c ∷ d ∷ x) = cond (are_hex a b c d) (Some (code a b c d)) None
code_at _ = None

-- a low surrogate in an escape at the front
abbrev pub low_code : List ℕ → Option ℕ
low_code (s ∷ u ∷ e ∷ f ∷ g ∷ h ∷ x) = cond ((s == 92 && u == 117) && (are_hex e f g h && is_low (code e f g h))) (Some (code e f g h)) None
low_code _ = None

-- a high and a low surrogate: their character, and the bytes that both escapes take
abbrev pub paired : ℕ → Option ℕ → Option (ℕ × ℕ)
paired n None = None
paired n (Some m) = Some (0x1_0000 + (n - 0xD800) * 0x400 + (m - 0xDC00), 12)

-- what an escape of four digits is, by its number and what follows it: its character, and the bytes that it takes; half a pair alone is no escape
abbrev pub unit_from : Option ℕ → List ℕ → Option (ℕ × ℕ)
unit_from None x = None
unit_from (Some n) x = cond (is_high n) (paired n (low_code x)) (cond (is_low n) None (Some (n, 6)))

-- an escape after its backslash: its character, and the bytes that it takes
abbrev pub escape_of : ℕ → List ℕ → Option (ℕ × ℕ)
escape_of q [] = None
escape_of q (e ∷ x) = cond (is_escape q e) (Some (escape_code e, 2)) (cond (e == 117) (unit_from (code_at x) (drop 4 x)) None)
