-- The characters that tokens are made of, indicators, and what the front of a text can be.
use Rattle.std.specs.Prelude.{ℕ, Bool, List, [], ◌∷◌, false, ◌||◌, not, ◌==◌, bytes_eq, codes, Option, Some, None, if◌then◌else◌}
use Rattle.cborn_lex.specs.Common.{byte, is_ascii_alphanumeric, Class, Mark, LexReason, BadIndicator}
use Rattle.cborn_model.specs.declared.heads.Width.TheVariants.{One, Two, Four, Eight}
use Rattle.cborn_lex.specs.declared.classes.Mark.TheVariants.{Absent, Endless, Wide}

-- the front of a text: white space or a comment, a token, or a lexical fault
pub data Front : Type 0 where
  WhiteSpace : Front
  Read : Class → Front
  Bad : LexReason → Front

-- space, tab, LF, CR
abbrev pub is_white : ℕ → Bool
is_white c = ((c == 32) || (c == 9)) || ((c == 10) || (c == 13))

-- ASCII letters, digits and underscores
abbrev pub is_word : ℕ → Bool
is_word c = is_ascii_alphanumeric c || (c == byte "_")

-- ASCII letters, digits and points
abbrev pub is_numeral : ℕ → Bool
is_numeral c = is_ascii_alphanumeric c || (c == byte ".")

-- any character but q
abbrev pub is_not : ℕ → ℕ → Bool
is_not q c = not (c == q)

-- it begins with a character that passes
abbrev pub begins : (ℕ → Bool) → List ℕ → Bool
begins p [] = false
begins p (c ∷ x) = p c

-- an indicator (RFC 8949 section 8.1), or nothing
abbrev pub mark_of : List ℕ → Option Mark
mark_of t =
    if bytes_eq t [] then Some Absent
    else if bytes_eq t (codes "_") then Some Endless
    else if bytes_eq t (codes "_0") then Some (Wide One)
    else if bytes_eq t (codes "_1") then Some (Wide Two)
    else if bytes_eq t (codes "_2") then Some (Wide Four)
    else if bytes_eq t (codes "_3") then Some (Wide Eight)
    else None

-- the front of a token that may have an indicator
abbrev pub marked : (Mark → Class) → Option Mark → Front
marked k (Some m) = Read (k m)
marked k None = Bad BadIndicator
