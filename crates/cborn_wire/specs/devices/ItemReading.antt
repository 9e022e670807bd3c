-- A device of the proofs: a reader of items, one after another, as a state of the machine. No definition cites it; the contracts of the crate's own functions do.
use Rattle.std.specs.Prelude.{◌≡◌, ℕ, ◌+◌, ◌<◌, ◌≤◌, List, [], length, take, drop, Option, Some, None, Result, Ok, Err, MatchResult}
use Rattle.std.specs.Option.{option_to_list}
use Rattle.cborn_model.specs.Tree.{Tree, no_item, trees}
use Rattle.cborn_wire.specs.declared.faults.WireFault.{WireFault}
use Rattle.cborn_wire.specs.declared.faults.VisitFault.{VisitFault}
use Rattle.cborn_wire.specs.Visits.{wire_fault}
use Rattle.cborn_wire.specs.Reading.{IsFirstItem, EndsItem}
use Rattle.cborn_wire.specs.declared.head_readers.PartialHead.{PartialHead}
use Rattle.cborn_wire.specs.declared.nodes.OpenString.{OpenString}
use Rattle.cborn_wire.specs.declared.feeders.ItemReader.{ItemReader}
use Rattle.cborn_wire.specs.shared.Machine.{Unfinished, State, Live, start, run, Stops}
use Rattle.cborn_wire.specs.shared.Visiting.{open_in, unfinished, seen_head, IsFed, FailsAs}
use Rattle.cborn_wire.specs.devices.OpenNodes.{seen_string, seen_nodes, IsHeld}

-- the partial head or string
abbrev pub pending : Option PartialHead → Option OpenString → Unfinished
pending None s = unfinished (seen_string s)
pending (Some h) s = seen_head h

-- the state after these whole items
abbrev pub seen : List Tree → ItemReader → State
seen items r = Live r.heads.at (trees items) (open_in (seen_nodes r.nodes)) (pending r.heads.head r.nodes.string)

-- Some bytes make it, the first of them at the offset `base`, and no item is whole in them.
pub record IsMade (r : ItemReader) : Type 0 where
  pub base : ℕ
  pub read : List ℕ
  pub fed : IsFed (IsHeld r.nodes) r.levels.outer.items r.levels.inner r.heads base read
  pub is : run r.heads.limit (start base) read ≡ seen [] r

-- nothing is open after an item
abbrev pub IsBetween : Option Tree → ItemReader → Type 0
IsBetween None r = Unit {0}
IsBetween (Some t) r = seen [] r ≡ start r.heads.at

-- This many bytes of the piece are read, and this item is whole.
pub record Took (piece : List ℕ) (old new : ItemReader) (n : ℕ) (item : Option Tree) : Type 0 where
  pub some : 0 < length piece → 0 < n
  pub within : n ≤ length piece
  pub made : IsMade new
  pub at : new.heads.at ≡ old.heads.at + n
  pub goes : run old.heads.limit (seen [] old) (take n piece) ≡ seen (option_to_list item) new
  pub between : IsBetween item new

abbrev pub ReadsItem : List ℕ → ItemReader → ItemReader → Result (ℕ × Option Tree) VisitFault → Type 0
ReadsItem piece old new r = MatchResult r (λ t. Took piece old new t.0 t.1) (FailsAs no_item (run old.heads.limit (seen [] old) piece))

-- What a reader and the whole items are after these bytes.
pub record IsMoved (old : ItemReader) (before : List Tree) (new : ItemReader) (now : List Tree) (x : List ℕ) : Type 0 where
  pub made : IsMade new
  pub limit : new.heads.limit ≡ old.heads.limit
  pub at : new.heads.at ≡ old.heads.at + length x
  pub goes : run old.heads.limit (seen before old) x ≡ seen now new

-- The piece is read, or the reader stops, and has these whole items.
abbrev pub Runs : List ℕ → ItemReader → List Tree → ItemReader → List Tree → Result (Unit {0}) WireFault → Type 0
Runs piece old before new now r = MatchResult r (λ _. IsMoved old before new now piece) (λ e. Stops old.heads.limit (seen before old) piece e (trees now))

-- Where the item ends that starts at the offset p, as `EndsItem` says. P holds of the item.
abbrev pub EndsHeld : (Tree → Type 0) → ℕ → List ℕ → ℕ → Result (Option ℕ) VisitFault → Type 0
EndsHeld P limit x p (Ok (Some end)) = (p < end) × (end ≤ length x) × (t : Tree) × P t × IsFirstItem limit p t (drop p x) (drop end x)
EndsHeld P limit x p (Ok None) = EndsItem limit x p (Ok None)
EndsHeld P limit x p (Err e) = EndsItem limit x p (Err (wire_fault e))
