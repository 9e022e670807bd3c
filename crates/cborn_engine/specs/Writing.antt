-- What was written of an answer.
use Rattle.std.specs.Prelude.{◌≡◌, ◌++◌}
use Rattle.cborn_engine.specs.Common.{ℕ, List, Option, Result, Ok, Err, Appends, EngineFault}

-- a list begins with another
abbrev pub IsFront : List ℕ → List ℕ → Type 0
IsFront front whole = (rest : List ℕ) × (front ++ rest ≡ whole)

-- what was written of an answer: all of it, or a front of it if the writer failed
abbrev pub WriteAnswers : List ℕ → List ℕ → Result Unit EngineFault → Type 0
WriteAnswers bytes output (Ok u) = output ≡ bytes
WriteAnswers bytes output (Err why) = (why ≡ EngineFault.WriteFault) × IsFront output bytes

-- the writer was given this answer, or a front of it if it failed, and nothing else
pub record Sends (before after : Option (List ℕ)) (bytes : List ℕ) (result : Result Unit EngineFault) : Type 0 where
  pub output : List ℕ
  pub written : Appends before after output
  pub answer : WriteAnswers bytes output result
