-- Devices: why an input that is held is refused. No public contract cites them.
use Rattle.std.specs.Prelude.{◌≡◌, ◌≤◌}
use Rattle.cborn_engine.specs.Common.{ℕ, List, length, WireFault, WireReason, Fault, EngineFault, Kind}
use Rattle.cborn_engine.specs.Whole.{IsRefusedWhole, IsUnshownWhole}

-- the one fault of bytes that aren't well-formed
abbrev pub IsWireFault : ℕ → List ℕ → EngineFault → Type 0
IsWireFault limit input why = (p : ℕ) × (r : WireReason) × (why ≡ EngineFault.Wire (WireFault.Refused p r)) × Fault limit input p r

-- an input is refused for this, whatever length is allowed that it has
abbrev pub IsRefusedHeld : Kind → ℕ → List ℕ → EngineFault → Type 0
IsRefusedHeld k limit input why = (most : ℕ) → length input ≤ most → IsRefusedWhole k limit most input why

-- it isn't shown for this
abbrev pub IsUnshownHeld : Kind → Kind → ℕ → List ℕ → EngineFault → Type 0
IsUnshownHeld k out limit input why = (most : ℕ) → length input ≤ most → IsUnshownWhole k out limit most input why
