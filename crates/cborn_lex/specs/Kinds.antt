-- A token in two parts: its kind, and its number or the content of its string.
use Rattle.std.specs.Prelude.{◌≡◌, ℕ, List, [], ◌∷◌, ◌++◌, length, Option, Some, None}
use Rattle.cborn_lex.specs.Common.{Profile, Class}
use Rattle.cborn_lex.specs.declared.classes.Kind.{Kind}
use Rattle.cborn_lex.specs.declared.classes.Kind.TheVariants as kinds
use Rattle.cborn_lex.specs.declared.classes.BareToken.{BareToken}
use Rattle.cborn_lex.specs.declared.classes.Class.TheVariants as classes
use Rattle.cborn_lex.specs.Good.{TokensBetween}

-- the class of a token of this kind: with the number n if it is an integer or a tag, and with the content x if it is a string
abbrev pub class_of : Kind → ℕ → List ℕ → Class
class_of (kinds.ArrayOpen m) n x = classes.ArrayOpen m
class_of (kinds.MapOpen m) n x = classes.MapOpen m
class_of kinds.ArrayClose n x = classes.ArrayClose
class_of kinds.MapClose n x = classes.MapClose
class_of kinds.ParenClose n x = classes.ParenClose
class_of kinds.Comma n x = classes.Comma
class_of kinds.Colon n x = classes.Colon
class_of kinds.EmbedOpen n x = classes.EmbedOpen
class_of (kinds.EmbedClose m) n x = classes.EmbedClose m
class_of kinds.ChunkOpen n x = classes.ChunkOpen
class_of (kinds.Number b m) n x = classes.Number b n m
class_of (kinds.TagOpen m) n x = classes.TagOpen n m
class_of (kinds.Word v) n x = classes.Word v
class_of kinds.SimpleOpen n x = classes.SimpleOpen
class_of (kinds.Text m) n x = classes.Text x m
class_of (kinds.Bytes q m) n x = classes.Bytes q x m

-- the content of a string; no other token has one
abbrev pub content_of : Class → List ℕ
content_of (classes.Text x m) = x
content_of (classes.Bytes q x m) = x
content_of _ = []

-- the kind k, the number n and what was appended to old to make it new are a token of the class c
pub record StandsFor (k : Kind) (n : ℕ) (old new : List ℕ) (c : Class) : Type 0 where
  pub content : List ℕ
  pub class : c ≡ class_of k n content
  pub written : new ≡ old ++ content_of c

-- the first token from n on, in two parts; or none up to the end, and nothing is appended
abbrev pub IsNextBareToken : Profile → List ℕ → ℕ → Option BareToken → ℕ → List ℕ → List ℕ → Type 0
IsNextBareToken profile text n (Some t) number old new = (c : Class) × TokensBetween profile text n t.stop (record { start = t.start; stop = t.stop; class = c } ∷ []) × StandsFor t.kind number old new c
IsNextBareToken profile text n None number old new = TokensBetween profile text n (length text) [] × (new ≡ old)
