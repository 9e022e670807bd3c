-- What reading a piece of an input, and all of it, answers.
use Rattle.std.specs.Prelude.{◌≡◌, ◌+◌, ◌≤◌, ◌++◌}
use Rattle.cborn_engine.specs.Common.{ℕ, List, [], length, take, Option, Result, Ok, Err, Vec, Global, IsAtEnd, Consumes, Keeps, InputFault}

-- the reader gave a piece at the front of the buffer: nothing only at its end, and no more than is left; or one byte more than is left; or it failed, and gave nothing
abbrev pub PieceAnswers : Option (List ℕ) → Option (List ℕ) → ℕ → List ℕ → Result ℕ InputFault → Type 0
PieceAnswers before after left buf (Ok count) =
    (count ≤ left) × (count ≤ length buf) × Consumes before after (take count buf) × (count ≡ 0 → IsAtEnd after)
PieceAnswers before after left buf (Err InputFault.TooLong) = (bytes : List ℕ) × Consumes before after bytes × (length bytes ≡ left + 1)
PieceAnswers before after left buf (Err InputFault.ReadFault) = Keeps before after
PieceAnswers before after left buf (Err InputFault.OutOfMemory) = ⊥

-- the whole input, or how much of it was read until the reader failed, gave a byte too many or memory was refused
abbrev pub CollectAnswers : ℕ → List ℕ → Option (List ℕ) → Result (Vec ℕ Global) InputFault → Type 0
CollectAnswers most input after (Ok bytes) = (bytes.items ≡ input) × (length input ≤ most) × IsAtEnd after
CollectAnswers most input after (Err InputFault.TooLong) = length input ≡ most + 1
CollectAnswers most input after (Err InputFault.ReadFault) = length input ≤ most
CollectAnswers most input after (Err InputFault.OutOfMemory) = length input ≤ most

-- the bytes that were taken from the reader after a front that was taken before, and what is answered of both
pub record CollectsOn (front : List ℕ) (most : ℕ) (before after : Option (List ℕ)) (result : Result (Vec ℕ Global) InputFault) : Type 0 where
  pub input : List ℕ
  pub taken : Consumes before after input
  pub answer : CollectAnswers most (front ++ input) after result

abbrev pub Collects : ℕ → Option (List ℕ) → Option (List ℕ) → Result (Vec ℕ Global) InputFault → Type 0
Collects = CollectsOn []
