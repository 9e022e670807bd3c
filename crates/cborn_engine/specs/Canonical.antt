-- What normalising an input answers.
use Rattle.std.specs.Prelude.{◌≡◌, ◌↔◌, ◌≤◌}
use Rattle.cborn_engine.specs.Common.{ℕ, List, length, Option, Result, Ok, Err, Ordering, AllZip, AllByRecursion, IsProper, Value, Same, EngineFault, Kind}
use Rattle.cborn_engine.specs.Holding.{Holds, Canon}
use Rattle.cborn_engine.specs.Refusing.{IsRefused}
use Rattle.cborn_engine.specs.Streams.{IsSent, Writes}

-- the input holds items, and the output is their canonical form
pub record IsCanonical (order : List ℕ → List ℕ → Ordering) (k out : Kind) (limit : ℕ) (input output : List ℕ) : Type 0 where
  pub items : List Value
  pub held : Holds k limit input items
  pub written : Canon order out items output

-- What the answer of an input is worth. The input holds `items`, and the answer is their canonical form.
pub record IsNormalForm (order : List ℕ → List ℕ → Ordering) (k out : Kind) (limit : ℕ) (input output : List ℕ) : Type 0 where
  pub items : List Value
  pub held : Holds k limit input items
  -- no other output is their canonical form
  pub one : (w : List ℕ) → Canon order out items w ↔ (w ≡ output)
  -- valid items have this canonical form exactly if they are the same, one by one
  pub alike : (others : List Value) → AllByRecursion IsProper others → Canon order out others output ↔ AllZip Same items others
  -- the output holds items that are the same
  pub kept : (others : List Value) × Holds out limit output others × AllZip Same items others
  -- the output is its own canonical form, and has no other
  pub again : (w : List ℕ) → IsCanonical order out out limit output w ↔ (w ≡ output)

-- the canonical form of what the input holds, or why there is none
abbrev pub FormAnswers : (List ℕ → List ℕ → Ordering) → Kind → Kind → ℕ → ℕ → List ℕ → Result (List ℕ) EngineFault → Type 0
FormAnswers order k out limit most input (Ok form) = (length input ≤ most) × IsCanonical order k out limit input form
FormAnswers order k out limit most input (Err why) = IsRefused k limit most input why

-- what went out of it
abbrev pub NormaliseAnswers : (List ℕ → List ℕ → Ordering) → Kind → Kind → ℕ → ℕ → List ℕ → List ℕ → Result Unit EngineFault → Type 0
NormaliseAnswers order k out limit most input = IsSent EngineFault.WriteFault (FormAnswers order k out limit most input)

-- some input was taken from the reader, and this went out
abbrev pub Normalises : (List ℕ → List ℕ → Ordering) → Kind → Kind → ℕ → ℕ → Option (List ℕ) → Option (List ℕ) → Option (List ℕ) → Option (List ℕ) → Result Unit EngineFault → Type 0
Normalises order k out limit most = Writes (λ why. why) (FormAnswers order k out limit most)
