-- What comparing two inputs answers.
use Rattle.std.specs.Prelude.{◌≡◌, ◌≢◌, ◌≤◌}
use Rattle.cborn_engine.specs.Common.{ℕ, suc, List, [], length, take, Option, None, Some, Result, Ok, Err, ⊤, IsAtEnd, Consumes, AllZip, Value, Same, CompareFault, EngineFault, Kind}
use Rattle.cborn_engine.specs.Holding.{Holds}
use Rattle.cborn_engine.specs.Refusing.{IsRefused}
use Rattle.cborn_engine.specs.Streams.{IsRead}

-- The items are the same, one by one; or as many as the index are, and those with one more aren't: at the index items differ, or only one sequence has one.
abbrev pub Difference : List Value → List Value → Option ℕ → Type 0
Difference a b None = AllZip Same a b
Difference a b (Some i) = AllZip Same (take i a) (take i b) × (AllZip Same (take (suc i) a) (take (suc i) b) → ⊥)

-- both inputs hold items, and this is their difference
pub record AreCompared (k l : Kind) (limit : ℕ) (x y : List ℕ) (answer : Option ℕ) : Type 0 where
  pub ours : List Value
  pub theirs : List Value
  pub held : Holds k limit x ours
  pub held2 : Holds l limit y theirs
  pub difference : Difference ours theirs answer

-- What comparing these two inputs answers: the first is refused before a byte of the second is read. Out of memory is reported of neither input, but as the comparison's own.
abbrev pub CompareAnswers : Kind → Kind → ℕ → ℕ → List ℕ → List ℕ → Result (Option ℕ) CompareFault → Type 0
CompareAnswers k l limit most x y (Ok answer) = (length x ≤ most) × (length y ≤ most) × AreCompared k l limit x y answer
CompareAnswers k l limit most x y (Err (CompareFault.First why)) = IsRefused k limit most x why × (why ≢ EngineFault.OutOfMemory) × (y ≡ [])
CompareAnswers k l limit most x y (Err (CompareFault.Second why)) =
    (length x ≤ most) × ((items : List Value) × Holds k limit x items) × IsRefused l limit most y why × (why ≢ EngineFault.OutOfMemory)
CompareAnswers k l limit most x y (Err CompareFault.OutOfMemory) = (length x ≤ most) × (length y ≤ most)

-- the readers were read to their ends before this was answered
abbrev pub AreRead : Result (Option ℕ) CompareFault → Option (List ℕ) → Option (List ℕ) → Type 0
AreRead (Ok answer) rest rest2 = IsAtEnd rest × IsAtEnd rest2
AreRead (Err (CompareFault.First why)) rest rest2 = IsRead {A = Option ℕ} (λ w. w) (Err why) rest
AreRead (Err (CompareFault.Second why)) rest rest2 = IsAtEnd rest × IsRead {A = Option ℕ} (λ w. w) (Err why) rest2
AreRead (Err CompareFault.OutOfMemory) rest rest2 = ⊤

-- an input that holds items was taken from the reader, to its end
abbrev pub IsHeldWhole : Kind → ℕ → Option (List ℕ) → Option (List ℕ) → Type 0
IsHeldWhole k limit before after = (input : List ℕ) × Consumes before after input × ((items : List Value) × Holds k limit input items) × IsAtEnd after

-- an input was taken from each reader, and this is answered for them
pub record Compares (k l : Kind) (limit most : ℕ) (before after before2 after2 : Option (List ℕ)) (result : Result (Option ℕ) CompareFault) : Type 0 where
  pub first : List ℕ
  pub second : List ℕ
  pub taken : Consumes before after first
  pub taken2 : Consumes before2 after2 second
  pub answer : CompareAnswers k l limit most first second result
  pub to_end : AreRead result after after2
