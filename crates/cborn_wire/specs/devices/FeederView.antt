-- A device of the proofs: what the fields of a feeder are seen as, and what is true of them. No definition cites it.
use Rattle.std.specs.Prelude.{◌≡◌, ℕ, None}
use Rattle.cborn_wire.specs.declared.feeders.Feeder.TheInside.{Inside}
use Rattle.cborn_wire.specs.Feeding.{Feeding}
use Rattle.cborn_wire.specs.shared.Machine.{held, IsReached}
use Rattle.cborn_wire.specs.devices.ItemReading.{seen, IsMade}

abbrev pub seen_feeder : Inside → Feeding
seen_feeder f = record { limit = f.reader.heads.limit; fed = f.fed; held = held (seen f.ready.items f.reader); items = f.ready.items; fault = f.fault }

-- Until a piece is refused, some bytes make the reader and the items, and it is at the end of the accepted bytes.
abbrev pub Keeps : Inside → Type 0
Keeps f = f.fault ≡ None → IsMade f.reader × ((base : ℕ) × IsReached f.reader.heads.limit base (seen f.ready.items f.reader)) × (f.fed ≡ f.reader.heads.at)
