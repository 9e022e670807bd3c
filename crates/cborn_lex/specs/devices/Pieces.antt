-- A device of the proofs: a text as a list of its pieces. No definition cites it.
use Rattle.std.specs.Prelude.{◌≡◌, ℕ, ◌+◌, List, [], ◌∷◌, ◌++◌, length}
use Rattle.cborn_lex.specs.Common.{Profile, Class, Token, LexReason}
use Rattle.cborn_lex.specs.Tokens.{Front, WhiteSpace, Read, Bad}
use Rattle.cborn_lex.specs.Forms.{Reads}

-- a character of white space, a comment or a token, each with its slice of the text
pub data Lexeme : Type 0 where
  white_space : List ℕ → Lexeme
  token : Class → List ℕ → Lexeme

abbrev pub slice : Lexeme → List ℕ
slice (white_space s) = s
slice (token k s) = s

abbrev pub front_of : Lexeme → Front
front_of (white_space s) = WhiteSpace
front_of (token k s) = Read k

abbrev pub spelled : List Lexeme → List ℕ
spelled [] = []
spelled (p ∷ ps) = slice p ++ spelled ps

-- each piece reads as what it is, before the pieces after it and z
abbrev pub AreRead : Profile → List Lexeme → List ℕ → Type 0
AreRead profile [] z = Unit {0}
AreRead profile (p ∷ ps) z = Reads profile (slice p) (spelled ps ++ z) (front_of p) × AreRead profile ps z

-- the tokens among pieces, the first of which starts at n
abbrev pub tokens : ℕ → List Lexeme → List Token
tokens n [] = []
tokens n (white_space s ∷ ps) = tokens (n + length s) ps
tokens n (token k s ∷ ps) = record { start = n; stop = n + length s; class = k } ∷ tokens (n + length s) ps

-- the pieces of a part of a text, from the offset n up to m, where y begins
pub record Parted (profile : Profile) (n : ℕ) (x : List ℕ) (ts : List Token) (m : ℕ) (y : List ℕ) : Type 0 where
  pub pieces : List Lexeme
  pub read : AreRead profile pieces y
  pub whole : x ≡ spelled pieces ++ y
  pub place : m ≡ n + length (spelled pieces)
  pub placed : ts ≡ tokens n pieces

-- no piece begins the text z
abbrev pub BeginsNoPiece : Profile → List ℕ → Type 0
BeginsNoPiece profile z = (p : Lexeme) (x : List ℕ) → Reads profile (slice p) x (front_of p) → z ≡ slice p ++ x → ⊥

-- the pieces of a whole text
pub record LexParted (profile : Profile) (text : List ℕ) (ts : List Token) : Type 0 where
  pub pieces : List Lexeme
  pub read : AreRead profile pieces []
  pub whole : text ≡ spelled pieces
  pub placed : ts ≡ tokens 0 pieces

-- the pieces before a lexical fault
pub record StopParted (profile : Profile) (text : List ℕ) (n : ℕ) (r : LexReason) : Type 0 where
  pub pieces : List Lexeme
  pub front : List ℕ
  pub rest : List ℕ
  pub read : AreRead profile pieces (front ++ rest)
  pub bad : Reads profile front rest (Bad r)
  pub whole : text ≡ spelled pieces ++ (front ++ rest)
  pub place : n ≡ length (spelled pieces)
