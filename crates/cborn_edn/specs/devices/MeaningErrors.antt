-- A device of the proofs: the first meaning error, how the reader keeps it, and what is reported of a lexical fault. No definition cites it.
use Rattle.std.specs.Prelude.{◌≡◌, List, [], ◌∷◌, ◌++◌, ◌==◌, ◌&&◌, ◌||◌, Bool, true, false, nat_lt, nat_le, if◌then◌else◌, Option, Some, None}
use Rattle.cborn_edn.specs.Common.{MeaningError, LexFault, Refused as LexRefused, OutOfMemory as LexOutOfMemory, EdnFault, Lex}
use Rattle.cborn_edn.specs.declared.faults.EdnFault.TheVariants.{OutOfMemory}
use Rattle.cborn_edn.specs.Faults.{number_of}

-- a has a lower place than b, or the same place and no higher number
abbrev pub no_later : MeaningError → MeaningError → Bool
no_later a b = nat_lt a.place b.place || (a.place == b.place && nat_le (number_of a.reason) (number_of b.reason))

-- the first of two
abbrev pub earlier : Option MeaningError → Option MeaningError → Option MeaningError
earlier None b = b
earlier (Some a) None = Some a
earlier (Some a) (Some b) = Some (if no_later a b then a else b)

-- the first of several
abbrev pub first_error : List MeaningError → Option MeaningError
first_error [] = None
first_error (s ∷ l) = earlier (Some s) (first_error l)

-- if old is the first of some meaning errors, new is the first of these and of l
abbrev pub Notes : Option MeaningError → Option MeaningError → List MeaningError → Type 0
Notes old new l = (before : List MeaningError) → old ≡ first_error before → new ≡ first_error (before ++ l)

abbrev pub is_none : Option MeaningError → Bool
is_none None = true
is_none (Some s) = false

-- out of memory is one fault, whichever crate asked for the memory
abbrev pub lexical : LexFault → EdnFault
lexical (LexRefused p r) = Lex (LexRefused p r)
lexical LexOutOfMemory = OutOfMemory
