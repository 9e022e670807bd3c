-- Why an input is refused.
use Rattle.std.specs.Prelude.{◌≡◌, ◌+◌, ◌≤◌}
use Rattle.cborn_engine.specs.Common.{ℕ, List, length, ⊤, IsUtf8, IsValidUpTo, Tree, WireFault, Fault, Profile, EdnFault, IsNoNotation, InvalidReason, Invalid, IsRefusalOfAll, EngineFault, Kind}
use Rattle.cborn_engine.specs.Holding.{SpellsInPlace}

-- the text notates nothing, for this reason
abbrev pub IsNotationFault : Profile → ℕ → List ℕ → EdnFault → Type 0
IsNotationFault p limit input EdnFault.OutOfMemory = ⊥
IsNotationFault p limit input why = IsUtf8 input × IsNoNotation p limit input why

-- the input spells nodes, and the first of them that means nothing has this first flaw
pub record IsFlawed (k : Kind) (limit : ℕ) (input : List ℕ) (p : ℕ) (r : InvalidReason) : Type 0 where
  pub nodes : List Tree
  pub spelled : SpellsInPlace k limit input nodes
  pub flaw : IsRefusalOfAll nodes (Invalid.Refused p r)

-- The input, of which at most so many bytes are allowed, is refused for this: its content, or its length. Where a text isn't UTF-8, the place is the length of its longest front that is. What is read when a reader fails, or memory is refused, is no longer than allowed.
abbrev pub IsRefused : Kind → ℕ → ℕ → List ℕ → EngineFault → Type 0
IsRefused k limit most input EngineFault.TooLong = length input ≡ most + 1
IsRefused k limit most input EngineFault.ReadFault = length input ≤ most
IsRefused k limit most input EngineFault.OutOfMemory = length input ≤ most
IsRefused Kind.Wire limit most input (EngineFault.Wire (WireFault.Refused p r)) = (length input ≤ most) × Fault limit input p r
IsRefused k limit most input (EngineFault.Invalid (Invalid.Refused p r)) = (length input ≤ most) × IsFlawed k limit input p r
IsRefused Kind.Notation limit most input (EngineFault.Edn why) = (length input ≤ most) × IsNotationFault Profile.One limit input why
IsRefused Kind.Notation2 limit most input (EngineFault.Edn why) = (length input ≤ most) × IsNotationFault Profile.Two limit input why
IsRefused Kind.Wire limit most input (EngineFault.TextInput p) = ⊥
IsRefused k limit most input (EngineFault.TextInput p) = (length input ≤ most) × (IsUtf8 input → ⊥) × IsValidUpTo input p
IsRefused k limit most input _ = ⊥

-- no fault of the input
abbrev pub IsNoRefusal : EngineFault → Type 0
IsNoRefusal EngineFault.ReadFault = ⊤
IsNoRefusal EngineFault.OutOfMemory = ⊤
IsNoRefusal _ = ⊥

-- the reader, the writer or memory failed
abbrev pub IsTrouble : EngineFault → Type 0
IsTrouble EngineFault.ReadFault = ⊤
IsTrouble EngineFault.WriteFault = ⊤
IsTrouble EngineFault.OutOfMemory = ⊤
IsTrouble _ = ⊥
