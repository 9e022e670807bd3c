-- What a reader that is fed in pieces has to give.
use Rattle.std.specs.Prelude.{◌≡◌, ℕ, ◌+◌, ◌≤◌, List, [], ◌++◌, length, Option, Some, None, Result, Ok, Err}
use Rattle.cborn_model.specs.Tree.{Tree, trees}
use Rattle.cborn_model.specs.Spelled.{Wellformed}
use Rattle.cborn_model.specs.Placed.{PlacedAll}
use Rattle.cborn_wire.specs.declared.faults.WireFault.{WireFault}
use Rattle.cborn_wire.specs.declared.faults.WireFault.TheVariants as faults
use Rattle.cborn_wire.specs.declared.faults.WireReason.{WireReason}
use Rattle.cborn_wire.specs.Faults.{Refused}

-- The items are those of the longest front of x that is well-formed, one after another from p on. What follows them in x is the rest.
pub record AreComplete (limit p : ℕ) (items : List Tree) (x : List ℕ) : Type 0 where
  pub front : List ℕ
  pub rest : List ℕ
  pub whole : x ≡ front ++ rest
  pub read : Wellformed limit (trees items) front
  pub placed : PlacedAll p (trees items)
  pub longest : (f y : List ℕ) (others : List Tree) → x ≡ f ++ y → Wellformed limit (trees others) f → length f ≤ length front

-- What contracts see of a feeder: its limit, the number of bytes that it accepted, the bytes from the first item that wasn't taken on, the items to take, and the fault for which it refused a piece. Once it refused one, the bytes mean nothing.
pub record Feeding : Type 0 where
  pub limit : ℕ
  pub fed : ℕ
  pub held : List ℕ
  pub items : List Tree
  pub fault : Option WireFault

-- a feeder that was fed nothing
abbrev pub fresh : ℕ → Feeding
fresh limit = record { limit = limit; fed = 0; held = []; items = []; fault = None }

-- The bytes held are the last of those that were accepted, and the items to take are those that are complete at their front.
abbrev pub IsFed : Feeding → Type 0
IsFed f = (base : ℕ) × (f.fed ≡ base + length f.held) × AreComplete f.limit base f.items f.held

-- g is f once the piece was accepted: no head in it is refused.
abbrev pub Accepts : List ℕ → Feeding → Feeding → Type 0
Accepts piece f g =
    (g ≡ record f { fed = f.fed + length piece; held = f.held ++ piece; items = g.items }) × IsFed g
    × ((p : ℕ) (r : WireReason) → Refused f.limit (f.held ++ piece) p r → ⊥)

-- f refuses the piece for the head at this place in the input, and g has the items that are complete before it.
abbrev pub Refuses : List ℕ → Feeding → Feeding → ℕ → WireReason → Type 0
Refuses piece f g place r =
    (base : ℕ) × (p : ℕ) × (f.fed ≡ base + length f.held) × (place ≡ base + p)
    × Refused f.limit (f.held ++ piece) p r × AreComplete f.limit base g.items (f.held ++ piece)

-- Memory was refused while f took the piece: g has some of the items that are complete with it, from the first one on, and all that f had.
abbrev pub RunsShort : List ℕ → Feeding → Feeding → Type 0
RunsShort piece f g =
    (base : ℕ) × (new : List Tree) × (lost : List Tree) × (f.fed ≡ base + length f.held)
    × (g.items ≡ f.items ++ new) × AreComplete f.limit base (g.items ++ lost) (f.held ++ piece)

-- f, which has refused no piece, is fed this one, and is then g.
abbrev pub Feeds : List ℕ → Feeding → Result (Unit {0}) WireFault → Feeding → Type 0
Feeds piece f (Ok _) g = Accepts piece f g
Feeds piece f (Err (faults.Refused p r)) g =
    (g ≡ record f { held = g.held; items = g.items; fault = Some (faults.Refused p r) }) × Refuses piece f g p r
Feeds piece f (Err faults.OutOfMemory) g =
    (g ≡ record f { held = g.held; items = g.items; fault = Some faults.OutOfMemory }) × RunsShort piece f g
