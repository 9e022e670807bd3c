-- Reading one item, whatever follows it.
use Rattle.std.specs.Prelude.{◌≡◌, ℕ, ◌+◌, ◌<◌, ◌≤◌, List, [], ◌++◌, ◌⊎◌, length, drop, Option, Some, None, Result, Ok, Err}
use Rattle.cborn_model.specs.Tree.{Tree, depth}
use Rattle.cborn_model.specs.Spelled.{spelled, Fits}
use Rattle.cborn_model.specs.Placed.{Placed}
use Rattle.cborn_wire.specs.declared.faults.WireFault.{WireFault}
use Rattle.cborn_wire.specs.declared.faults.WireFault.TheVariants.{Refused, OutOfMemory}
use Rattle.cborn_wire.specs.declared.faults.WireReason.{WireReason}
use Rattle.cborn_wire.specs.declared.faults.WireReason.TheVariants.{Truncated}
use Rattle.cborn_wire.specs.Faults.{Fault}

-- The node is at the front of x, which is at the offset p, and the rest follows it.
pub record IsFirstItem (limit p : ℕ) (t : Tree) (x rest : List ℕ) : Type 0 where
  pub whole : x ≡ spelled t ++ rest
  pub fits : Fits t
  pub shallow : depth t ≤ limit
  pub placed : Placed p t

-- No node is at the front of x: x is empty, which is truncated at its end, or it has this fault.
abbrev pub ItemFault : ℕ → List ℕ → ℕ → WireReason → Type 0
ItemFault limit x p r =
    ((t : Tree) (rest : List ℕ) → x ≡ spelled t ++ rest → Fits t → depth t ≤ limit → ⊥)
    × (((x ≡ []) × (p ≡ 0) × (r ≡ Truncated)) ⊎ Fault limit x p r)

-- Where in x the item ends that starts at the offset p: there; or x ends at p; or no item starts there, for this fault, whose place counts from the start of x.
abbrev pub EndsItem : ℕ → List ℕ → ℕ → Result (Option ℕ) WireFault → Type 0
EndsItem limit x p (Ok (Some end)) = (p < end) × (end ≤ length x) × (t : Tree) × IsFirstItem limit p t (drop p x) (drop end x)
EndsItem limit x p (Ok None) = p ≡ length x
EndsItem limit x p (Err (Refused q r)) = (at : ℕ) × (q ≡ p + at) × ItemFault limit (drop p x) at r
EndsItem limit x p (Err OutOfMemory) = Unit {0}
