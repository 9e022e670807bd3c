-- A device of the proofs: what a text has at an offset. No definition cites it.
use Rattle.std.specs.Prelude.{◌≡◌, ℕ, ◌<◌, ◌≤◌, Bool, true, false, List, [], ◌∷◌, ◌==◌, codes, length, slice_index, ◌⊎◌}
use Rattle.cborn_edn.specs.Common.{list_any, Profile, IsUtf8, Mark, Class, Absent, TokensBetween}
use Rattle.cborn_lex.specs.declared.classes.Class.TheVariants.{ArrayOpen, MapOpen, Text}

-- there is a token of this class from the offset n up to m
abbrev pub IsTokenAt : Profile → List ℕ → ℕ → ℕ → Class → Type 0
IsTokenAt profile text n m k = TokensBetween profile text n m (record { start = n; stop = m; class = k } ∷ [])

-- the bracket that begins a map, or else an array, and its token
abbrev pub opening_character : Bool → ℕ
opening_character true = 123
opening_character false = 91

abbrev pub opening : Bool → Mark → Class
opening true = MapOpen
opening false = ArrayOpen

-- this character ends a string that it follows, since it begins no other piece
abbrev pub ends_string : ℕ → Bool
ends_string c = list_any (λ d. c == d) (codes ",]}:)>")

-- the text ends at the offset n, or goes on with a character that no piece of a string begins with
abbrev pub NoPieceAt : List ℕ → ℕ → Type 0
NoPieceAt text n = (n ≡ length text) ⊎ ((n < length text) × (ends_string (slice_index text n) ≡ true))

-- At the offset n there is a text string with this content and no indicator. Then there is white space up to the offset m, and no piece of the string follows.
pub record IsTextAt (profile : Profile) (text : List ℕ) (n m : ℕ) (content : List ℕ) : Type 0 where
  pub stop : ℕ
  pub token : IsTokenAt profile text n stop (Text content Absent)
  pub utf8 : IsUtf8 text → IsUtf8 content
  pub white_space : TokensBetween profile text stop m []
  pub ends : NoPieceAt text m
  pub inside : m ≤ length text
