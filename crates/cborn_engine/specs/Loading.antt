-- What loading an input answers.
use Rattle.std.specs.Prelude.{◌≤◌}
use Rattle.cborn_engine.specs.Common.{ℕ, List, length, Option, Result, Ok, Err, Vec, ⊤, Global, Tree, EngineFault, Kind}
use Rattle.cborn_engine.specs.Holding.{SpellsInPlace}
use Rattle.cborn_engine.specs.Refusing.{IsRefused}
use Rattle.cborn_engine.specs.Streams.{Reads}

-- a load refuses no node for what it means
abbrev pub IsNoFlaw : EngineFault → Type 0
IsNoFlaw (EngineFault.Invalid why) = ⊥
IsNoFlaw _ = ⊤

-- what a load of this input answers: the nodes that it spells, or why it spells none
abbrev pub LoadAnswers : Kind → ℕ → ℕ → List ℕ → Result (Vec Tree Global) EngineFault → Type 0
LoadAnswers k limit most input (Ok nodes) = (length input ≤ most) × SpellsInPlace k limit input nodes.items
LoadAnswers k limit most input (Err why) = IsRefused k limit most input why × IsNoFlaw why

-- some input was taken from the reader, and this is answered for it
abbrev pub Loads : Kind → ℕ → ℕ → Option (List ℕ) → Option (List ℕ) → Result (Vec Tree Global) EngineFault → Type 0
Loads k limit most = Reads (λ why. why) (LoadAnswers k limit most)
