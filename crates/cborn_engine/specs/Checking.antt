-- What the check for the deterministic encoding answers.
use Rattle.std.specs.Prelude.{◌≤◌}
use Rattle.cborn_engine.specs.Common.{ℕ, List, length, Option, None, Some, Result, Ok, Err, Ordering, trees, PlacedAll, Value, Defect, IsFirstOfSequence, EngineFault, Kind}
use Rattle.cborn_engine.specs.Holding.{Holds, Canon}
use Rattle.cborn_engine.specs.Refusing.{IsRefused}
use Rattle.cborn_engine.specs.Streams.{Reads}

-- the input holds these items
module _ (order : List ℕ → List ℕ → Ordering) (limit : ℕ) (input : List ℕ) (items : List Value) (held : Holds Kind.Wire limit input items) where
  -- it is their canonical form, the very bytes that normalising it writes; or it isn't, and this is its first defect, each node being at its offset
  abbrev pub Verdict : Option Defect → Type 0
  Verdict None = Canon order Kind.Wire items input
  Verdict (Some d) = (Canon order Kind.Wire items input → ⊥) × PlacedAll 0 (trees held.nodes) × IsFirstOfSequence order (trees held.nodes) d.place d.reason

pub record IsChecked (order : List ℕ → List ℕ → Ordering) (limit : ℕ) (input : List ℕ) (defect : Option Defect) : Type 0 where
  pub items : List Value
  pub held : Holds Kind.Wire limit input items
  pub verdict : Verdict order limit input items held defect

abbrev pub CheckAnswers : (List ℕ → List ℕ → Ordering) → ℕ → ℕ → List ℕ → Result (Option Defect) EngineFault → Type 0
CheckAnswers order limit most input (Ok defect) = (length input ≤ most) × IsChecked order limit input defect
CheckAnswers order limit most input (Err why) = IsRefused Kind.Wire limit most input why

-- some input was taken from the reader, and this is answered for it
abbrev pub Checks : (List ℕ → List ℕ → Ordering) → ℕ → ℕ → Option (List ℕ) → Option (List ℕ) → Result (Option Defect) EngineFault → Type 0
Checks order limit most = Reads (λ why. why) (CheckAnswers order limit most)
