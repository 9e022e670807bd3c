-- Why a text notates nothing: it isn't made of tokens, its tokens aren't a text of the grammar, or what they say has a meaning error.
use Rattle.std.specs.Prelude.{◌≡◌, ◌⊎◌, ℕ, List, [], ◌∷◌, ◌++◌, length}
use Rattle.cborn_edn.specs.Common.{Trees, HasTokens, FailsAt, Profile, Token, Refused as LexRefused, OutOfMemory as LexOutOfMemory, EdnReason, UnexpectedToken, UnexpectedEnd, TooDeep, IndicatorTooNarrow, IndicatorNotAllowed, MixedString, MixedChunks, TextNotUtf8, BadSimple, TagTooLarge, EdnFault, Lex as LexPart, MeaningError}
use Rattle.cborn_model.specs.First.{IsFirst}
use Rattle.cborn_edn.specs.declared.faults.EdnFault.TheVariants.{Refused, OutOfMemory}
use Rattle.cborn_edn.specs.Grammar.{IsText}

-- the tokens are a text of the grammar, whatever its meaning errors
abbrev pub HasTree : Profile → ℕ → List Token → Type 0
HasTree profile limit x = (ts : Trees) × (l : List MeaningError) × IsText profile limit x ts l

-- some text of the grammar begins with these tokens
abbrev pub GoesOn : Profile → ℕ → List Token → Type 0
GoesOn profile limit x = (y : List Token) × HasTree profile limit (x ++ y)

-- x begins with the tokens f and then t; some text of the grammar begins with f, and none with f and t
pub record StopsAt (profile : Profile) (limit : ℕ) (x f : List Token) (t : Token) : Type 0 where
  pub y : List Token
  pub split : x ≡ f ++ t ∷ y
  pub before : GoesOn profile limit f
  pub here : GoesOn profile limit (f ++ t ∷ []) → ⊥

-- The syntax error of tokens x, reported at p. It is UnexpectedEnd at the text's end if some text begins with all of x. Else it is at the first token with which no text goes on: TooDeep if a text goes on with it within a larger limit, and UnexpectedToken if none does.
abbrev pub IsSyntaxError : Profile → ℕ → ℕ → List Token → ℕ → EdnReason → Type 0
IsSyntaxError profile limit end x p UnexpectedEnd = (p ≡ end) × GoesOn profile limit x × (HasTree profile limit x → ⊥)
IsSyntaxError profile limit end x p UnexpectedToken = (f : List Token) × (t : Token) × StopsAt profile limit x f t × (p ≡ t.start) × (((d : ℕ) × GoesOn profile d (f ++ t ∷ [])) → ⊥)
IsSyntaxError profile limit end x p TooDeep = (f : List Token) × (t : Token) × StopsAt profile limit x f t × (p ≡ t.start) × ((d : ℕ) × GoesOn profile d (f ++ t ∷ []))
IsSyntaxError profile limit end x p _ = ⊥

-- the text has tokens, with this syntax error
abbrev pub HasSyntaxError : Profile → ℕ → List ℕ → ℕ → EdnReason → Type 0
HasSyntaxError profile limit text p r = (x : List Token) × HasTokens profile text x × IsSyntaxError profile limit (length text) x p r

-- the numbers of the reasons: of several meaning errors at one place the one with the lowest number is reported
abbrev pub number_of : EdnReason → ℕ
number_of UnexpectedToken = 20
number_of UnexpectedEnd = 21
number_of TooDeep = 22
number_of IndicatorTooNarrow = 30
number_of IndicatorNotAllowed = 31
number_of MixedString = 32
number_of MixedChunks = 33
number_of TextNotUtf8 = 34
number_of BadSimple = 35
number_of TagTooLarge = 36

-- one of these meaning errors
abbrev pub IsAmong : List MeaningError → ℕ → EdnReason → Type 0
IsAmong [] p r = ⊥
IsAmong (x ∷ l) p r = ((p ≡ x.place) × (r ≡ x.reason)) ⊎ IsAmong l p r

-- the text is one of the grammar, and this is its meaning error with the lowest place, and there with the lowest number
abbrev pub HasMeaningError : Profile → ℕ → List ℕ → ℕ → EdnReason → Type 0
HasMeaningError profile limit text p r = (x : List Token) × (ts : Trees) × (l : List MeaningError) × HasTokens profile text x × IsText profile limit x ts l × IsFirst number_of (IsAmong l) p r

-- Why a text notates nothing. A lexical fault comes before any syntax error, and a syntax error before any meaning error. Out of memory is one fault, also where the reader of tokens asked for the memory, and says nothing of the text.
abbrev pub IsNoNotation : Profile → ℕ → List ℕ → EdnFault → Type 0
IsNoNotation profile limit text (LexPart (LexRefused p r)) = FailsAt profile text p r
IsNoNotation profile limit text (LexPart LexOutOfMemory) = ⊥
IsNoNotation profile limit text (Refused p r) = HasSyntaxError profile limit text p r ⊎ HasMeaningError profile limit text p r
IsNoNotation profile limit text OutOfMemory = Unit {0}
