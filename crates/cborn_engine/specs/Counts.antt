-- What is answered for an input that has to hold a given number of items: what is answered for any number, unless it holds another.
use Rattle.std.specs.Prelude.{◌≡◌, ◌≢◌, ◌≤◌, ◌⊎◌, ◌∷◌}
use Rattle.cborn_engine.specs.Common.{ℕ, List, [], length, Option, Result, Ok, Err, ⊤, Global, cow_slice_items, CowSlice, Ordering, IsAtEnd, Consumes, Tree, place, Value, Defect, CompareCountFault, CountFault, Count, CompareFault, EngineFault, Kind}
use Rattle.cborn_engine.specs.Canonical.{IsCanonical, FormAnswers}
use Rattle.cborn_engine.specs.Checking.{IsChecked, CheckAnswers}
use Rattle.cborn_engine.specs.Comparing.{AreCompared}
use Rattle.cborn_engine.specs.Holding.{Spells, SpellsInPlace, Holds}
use Rattle.cborn_engine.specs.Reading.{most_bytes}
use Rattle.cborn_engine.specs.Refusing.{IsRefused}
use Rattle.cborn_engine.specs.Showing.{IsShown, ShowAnswers}
use Rattle.cborn_engine.specs.Streams.{IsRead, Reads, Writes}
use Rattle.cborn_engine.specs.Whole.{IsRefusedWhole, IsUnshownWhole}

-- ---- how many items an input holds

-- the input spells one node, and no more
abbrev pub SpellsOne : Kind → ℕ → List ℕ → Type 0
SpellsOne k limit input = (t : Tree) × Spells k limit input (t ∷ [])

-- it holds one item, and no more
abbrev pub HoldsOne : Kind → ℕ → List ℕ → Type 0
HoldsOne k limit input = (item : Value) × Holds k limit input (item ∷ [])

-- it spells more than one node, of which the second starts here
pub record SecondStarts (k : Kind) (limit : ℕ) (input : List ℕ) (p : ℕ) : Type 0 where
  pub first : Tree
  pub second : Tree
  pub rest : List Tree
  pub spelled : SpellsInPlace k limit input (first ∷ second ∷ rest)
  pub here : place second ≡ p

-- Why it isn't one item: it spells none, which is reported at its end; or more, which is reported where the second starts.
abbrev pub IsNotOne : Kind → ℕ → List ℕ → CountFault → Type 0
IsNotOne k limit input (CountFault.Engine why) = ⊥
IsNotOne k limit input (CountFault.NoItem p) = Spells k limit input [] × (p ≡ length input)
IsNotOne k limit input (CountFault.MoreItems p) = SecondStarts k limit input p

-- ---- how many it has to hold

-- it spells as many nodes as it has to
abbrev pub SpellsCount : Count → Kind → ℕ → List ℕ → Type 0
SpellsCount count k limit input = count ≡ Count.One → SpellsOne k limit input

-- why it doesn't, which is reported of no input that may hold any number
abbrev pub IsMiscount : Count → Kind → ℕ → List ℕ → CountFault → Type 0
IsMiscount count k limit input why = (count ≡ Count.One) × IsNotOne k limit input why

-- an input of the length allowed holds items, and as many as it has to
pub record IsTaken (count : Count) (k : Kind) (limit : ℕ) (input : List ℕ) : Type 0 where
  pub short : length input ≤ most_bytes
  pub items : List Value
  pub held : Holds k limit input items
  pub one : count ≡ Count.One → HoldsOne k limit input

-- ---- what is answered where any number will do, as a call that may count gives it

abbrev pub counted_of : {A : Type 0} → Result A EngineFault → Result A CountFault
counted_of (Ok a) = Ok a
counted_of (Err why) = Err (CountFault.Engine why)

abbrev pub compare_counted_of : CompareFault → CompareCountFault
compare_counted_of (CompareFault.First why) = CompareCountFault.First (CountFault.Engine why)
compare_counted_of (CompareFault.Second why) = CompareCountFault.Second (CountFault.Engine why)
compare_counted_of CompareFault.OutOfMemory = CompareCountFault.OutOfMemory

-- ---- of an input that is held whole

-- what is answered, where Answers says what is answered for any number of items
abbrev pub CountAnswer : {A : Type 0} → Count → Kind → ℕ → List ℕ → (Result A EngineFault → Type 0) → Result A CountFault → Type 0
CountAnswer count k limit input Answers (Ok a) = Answers (Ok a) × SpellsCount count k limit input
CountAnswer count k limit input Answers (Err (CountFault.Engine why)) = Answers (Err why)
CountAnswer {A} count k limit input Answers (Err why) = ((a : A) × Answers (Ok a)) × IsMiscount count k limit input why

-- its canonical form, or why there is none
abbrev pub NormalisedWhole : (List ℕ → List ℕ → Ordering) → Kind → Kind → ℕ → List ℕ → Result (CowSlice ℕ Global) EngineFault → Type 0
NormalisedWhole order k out limit input (Ok output) = (length input ≤ most_bytes) × IsCanonical order k out limit input (cow_slice_items output)
NormalisedWhole order k out limit input (Err why) = IsRefusedWhole k limit most_bytes input why

-- what it spells, in another form
abbrev pub ShownWhole : Kind → Kind → ℕ → List ℕ → Result (CowSlice ℕ Global) EngineFault → Type 0
ShownWhole k out limit input (Ok output) = (length input ≤ most_bytes) × IsShown k out limit input (cow_slice_items output)
ShownWhole k out limit input (Err why) = IsUnshownWhole k out limit most_bytes input why

-- its first defect, or that it has none
abbrev pub CheckedWhole : (List ℕ → List ℕ → Ordering) → ℕ → List ℕ → Result (Option Defect) EngineFault → Type 0
CheckedWhole order limit input (Ok defect) = (length input ≤ most_bytes) × IsChecked order limit input defect
CheckedWhole order limit input (Err why) = IsRefusedWhole Kind.Wire limit most_bytes input why

-- ---- of two inputs

-- a fault of the first
abbrev pub of_the_first : EngineFault → CompareCountFault
of_the_first why = CompareCountFault.First (CountFault.Engine why)

-- out of memory is reported of neither input, but as the comparison's own
abbrev pub of_first_counted : CountFault → CompareCountFault
of_first_counted (CountFault.Engine EngineFault.OutOfMemory) = CompareCountFault.OutOfMemory
of_first_counted why = CompareCountFault.First why

abbrev pub of_second_counted : CountFault → CompareCountFault
of_second_counted (CountFault.Engine EngineFault.OutOfMemory) = CompareCountFault.OutOfMemory
of_second_counted why = CompareCountFault.Second why

-- an input is refused for this, where Refused says for what it is that may hold any number of items
abbrev pub IsNotTaken : Count → (EngineFault → Type 0) → Kind → ℕ → List ℕ → CountFault → Type 0
IsNotTaken count Refused k limit input (CountFault.Engine why) = Refused why × (why ≢ EngineFault.OutOfMemory)
IsNotTaken count Refused k limit input why = (length input ≤ most_bytes) × ((items : List Value) × Holds k limit input items) × IsMiscount count k limit input why

-- Why two inputs that are held whole aren't compared: the first is refused, or it isn't, and the second is. Memory may be refused for either: for the second only where the first is taken.
abbrev pub AreRefusedWhole : Count → Kind → Kind → ℕ → List ℕ → List ℕ → CompareCountFault → Type 0
AreRefusedWhole count k l limit x y (CompareCountFault.First why) = IsNotTaken count (IsRefusedWhole k limit most_bytes x) k limit x why
AreRefusedWhole count k l limit x y (CompareCountFault.Second why) = IsTaken count k limit x × IsNotTaken count (IsRefusedWhole l limit most_bytes y) l limit y why
AreRefusedWhole count k l limit x y CompareCountFault.OutOfMemory = IsRefusedWhole k limit most_bytes x EngineFault.OutOfMemory ⊎ IsTaken count k limit x × IsRefusedWhole l limit most_bytes y EngineFault.OutOfMemory

-- ---- of an input that is read

-- what is answered for any number of items, and what went out of it, unless the input holds another number
abbrev pub NormalisesCount : Count → (List ℕ → List ℕ → Ordering) → Kind → Kind → ℕ → ℕ → Option (List ℕ) → Option (List ℕ) → Option (List ℕ) → Option (List ℕ) → Result Unit CountFault → Type 0
NormalisesCount count order k out limit most = Writes CountFault.Engine (λ input. CountAnswer count k limit input (FormAnswers order k out limit most input))

abbrev pub ShowsCount : Count → Kind → Kind → ℕ → ℕ → Option (List ℕ) → Option (List ℕ) → Option (List ℕ) → Option (List ℕ) → Result Unit CountFault → Type 0
ShowsCount count k out limit most = Writes CountFault.Engine (λ input. CountAnswer count k limit input (ShowAnswers k out limit most input))

abbrev pub ChecksCount : Count → (List ℕ → List ℕ → Ordering) → ℕ → ℕ → Option (List ℕ) → Option (List ℕ) → Result (Option Defect) CountFault → Type 0
ChecksCount count order limit most = Reads CountFault.Engine (λ input. CountAnswer count Kind.Wire limit input (CheckAnswers order limit most input))

-- The first is refused before a byte of the second is read.
abbrev pub CompareCountAnswers : Count → Kind → Kind → ℕ → List ℕ → List ℕ → Result (Option ℕ) CompareCountFault → Type 0
CompareCountAnswers count k l limit x y (Ok answer) = IsTaken count k limit x × IsTaken count l limit y × AreCompared k l limit x y answer
CompareCountAnswers count k l limit x y (Err (CompareCountFault.First why)) = IsNotTaken count (IsRefused k limit most_bytes x) k limit x why × (y ≡ [])
CompareCountAnswers count k l limit x y (Err (CompareCountFault.Second why)) = IsTaken count k limit x × IsNotTaken count (IsRefused l limit most_bytes y) l limit y why
CompareCountAnswers count k l limit x y (Err CompareCountFault.OutOfMemory) = (length x ≤ most_bytes) × (length y ≤ most_bytes)

-- the readers were read to their ends before this was answered
abbrev pub AreReadForCount : Result (Option ℕ) CompareCountFault → Option (List ℕ) → Option (List ℕ) → Type 0
AreReadForCount (Ok answer) rest rest2 = IsAtEnd rest × IsAtEnd rest2
AreReadForCount (Err (CompareCountFault.First why)) rest rest2 = IsRead {A = Option ℕ} CountFault.Engine (Err why) rest
AreReadForCount (Err (CompareCountFault.Second why)) rest rest2 = IsAtEnd rest × IsRead {A = Option ℕ} CountFault.Engine (Err why) rest2
AreReadForCount (Err CompareCountFault.OutOfMemory) rest rest2 = ⊤

-- an input was taken from each reader, and this is answered for them
pub record ComparesCount (count : Count) (k l : Kind) (limit : ℕ) (before after before2 after2 : Option (List ℕ)) (result : Result (Option ℕ) CompareCountFault) : Type 0 where
  pub first : List ℕ
  pub second : List ℕ
  pub taken : Consumes before after first
  pub taken2 : Consumes before2 after2 second
  pub answer : CompareCountAnswers count k l limit first second result
  pub to_end : AreReadForCount result after after2
