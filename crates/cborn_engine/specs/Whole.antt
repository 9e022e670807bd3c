-- What is answered for an input that is held whole.
use Rattle.std.specs.Prelude.{◌≡◌, ◌<◌, ◌≤◌}
use Rattle.cborn_engine.specs.Common.{ℕ, List, length, Result, Err, WireFault, WireReason, Fault, EngineFault, Kind}
use Rattle.cborn_engine.specs.Loading.{IsNoFlaw}
use Rattle.cborn_engine.specs.Refusing.{IsRefused}
use Rattle.cborn_engine.specs.Showing.{IsUnshowable}

-- it is a text, or bytes without a fault (RFC 8949 section 3)
pub record HasNoFault (k : Kind) (limit : ℕ) (input : List ℕ) : Type 0 where
  pub none : (p : ℕ) (r : WireReason) → k ≡ Kind.Wire → Fault limit input p r → ⊥

-- Why such an input is refused. There is no reader that fails, and its length is known, however much longer than allowed it is. Out of memory is never the answer for bytes with a fault.
abbrev pub IsRefusedWhole : Kind → ℕ → ℕ → List ℕ → EngineFault → Type 0
IsRefusedWhole k limit most input EngineFault.TooLong = most < length input
IsRefusedWhole k limit most input EngineFault.ReadFault = ⊥
IsRefusedWhole k limit most input EngineFault.OutOfMemory = (length input ≤ most) × HasNoFault k limit input
IsRefusedWhole k limit most input why = IsRefused k limit most input why

-- why it isn't shown: it is refused, but not for what it means, or what it spells has no notation
abbrev pub IsUnshownWhole : Kind → Kind → ℕ → ℕ → List ℕ → EngineFault → Type 0
IsUnshownWhole k out limit most input (EngineFault.Show why) = (length input ≤ most) × IsUnshowable k out limit input why
IsUnshownWhole k out limit most input why = IsRefusedWhole k limit most input why × IsNoFlaw why

-- Bytes that aren't well-formed are refused for their one fault, whatever memory there is, as a call names it.
abbrev pub TellsFaultAs : {A E : Type 0} → (EngineFault → E) → Kind → ℕ → List ℕ → Result A E → Type 0
TellsFaultAs name k limit input result = (p : ℕ) (r : WireReason) → k ≡ Kind.Wire → Fault limit input p r → result ≡ Err (name (EngineFault.Wire (WireFault.Refused p r)))
