-- What reading an input and writing an answer does around what is answered for the input.
use Rattle.std.specs.Prelude.{◌≡◌, ◌⊎◌}
use Rattle.cborn_engine.specs.Common.{ℕ, List, [], Option, Result, Ok, Err, IsAtEnd, Consumes, Appends, EngineFault}
use Rattle.cborn_engine.specs.Writing.{IsFront}

-- The reader was read to its end before this was answered, but where it failed, gave a byte too many or memory was refused, as a call names these.
abbrev pub IsRead : {A E : Type 0} → (EngineFault → E) → Result A E → Option (List ℕ) → Type 0
IsRead name (Ok a) rest = IsAtEnd rest
IsRead name (Err why) rest = IsAtEnd rest ⊎ (why ≡ name EngineFault.ReadFault) ⊎ (why ≡ name EngineFault.TooLong) ⊎ (why ≡ name EngineFault.OutOfMemory)

-- some input was taken from the reader, and this is answered for it
pub record Reads {A E : Type 0} (name : EngineFault → E) (Answers : List ℕ → Result A E → Type 0) (before after : Option (List ℕ)) (result : Result A E) : Type 0 where
  pub input : List ℕ
  pub taken : Consumes before after input
  pub answer : Answers input result
  pub to_end : IsRead name result after

-- what went out of an answer: all of it; or a front of it, where the writer failed; or nothing, where there is none
abbrev pub IsSent : {E : Type 0} → E → (Result (List ℕ) E → Type 0) → List ℕ → Result Unit E → Type 0
IsSent failed Answers output (Ok u) = Answers (Ok output)
IsSent failed Answers output (Err why) = ((why ≡ failed) × ((whole : List ℕ) × Answers (Ok whole) × IsFront output whole)) ⊎ (Answers (Err why) × (output ≡ []))

-- some input was taken from the reader and some output given to the writer, where this is answered for the input
pub record Writes {E : Type 0} (name : EngineFault → E) (Answers : List ℕ → Result (List ℕ) E → Type 0) (before after sent sent_after : Option (List ℕ)) (result : Result Unit E) : Type 0 where
  pub output : List ℕ
  pub given : Appends sent sent_after output
  pub read : Reads name (λ input. IsSent (name EngineFault.WriteFault) (Answers input) output) before after result
