-- The table of faults by slots gives the reason of `Faults`.
use Rattle.std.specs.Prelude.{◌≡◌, ◌/◌, ◌%◌, ◌<◌, ◌∷◌}
use Rattle.cborn_wire.proofs.Common.{ℕ, List, Bool, true, false, leb, Some, arith, agree_below_at, WireReason, OfBytes, OfText, Slot, item, chunk, judged, reason_at, value, element_or_end, common_steps, nat_tests}
use Rattle.cborn_wire.specs.Faults.{reason_of}
use Rattle.cborn_wire.specs.SlotFaults as table

abbrev pub is_chunk : Slot → Bool
is_chunk (chunk k) = true
is_chunk _ = false

item_reason : (full : Bool) (m i : ℕ) (y : List ℕ) (r : WireReason) → table.reason_of item full m i y ≡ Some r → r ≡ reason_of false m i
item_reason full m i y r e = grind (arith, nat_tests)

end_reason : (full : Bool) (m i : ℕ) (y : List ℕ) (r : WireReason) → table.reason_of element_or_end full m i y ≡ Some r → r ≡ reason_of false m i
end_reason full m i y r e = grind (arith, nat_tests)

bytes_reason : (full : Bool) (m i : ℕ) (y : List ℕ) (r : WireReason) → table.reason_of (chunk OfBytes) full m i y ≡ Some r → r ≡ reason_of true m i
bytes_reason full m i y r e = grind (arith, nat_tests)

text_reason : (full : Bool) (m i : ℕ) (y : List ℕ) (r : WireReason) → table.reason_of (chunk OfText) full m i y ≡ Some r → r ≡ reason_of true m i
text_reason full m i y r e = grind (arith, nat_tests)

pub table_reason : (limit : ℕ) (s : Slot) (k b : ℕ) (y : List ℕ) (r : WireReason) → reason_at limit s k (b ∷ y) ≡ Some r → r ≡ reason_of (is_chunk s) (b / 32) (b % 32)
table_reason limit item k b y r e = item_reason (leb limit k) (b / 32) (b % 32) y r e
table_reason limit value k b y r e = item_reason (leb limit k) (b / 32) (b % 32) y r e
table_reason limit (chunk OfBytes) k b y r e = bytes_reason (leb limit k) (b / 32) (b % 32) y r e
table_reason limit (chunk OfText) k b y r e = text_reason (leb limit k) (b / 32) (b % 32) y r e
table_reason limit s k b y r e = end_reason (leb limit k) (b / 32) (b % 32) y r e

-- The table judges a head by no other bytes.
pub judged_reason : (limit : ℕ) (s : Slot) (k b : ℕ) (y : List ℕ) → b < 256 → reason_at limit s k (judged b y) ≡ reason_at limit s k (b ∷ y)
judged_reason limit s k b y byte = grind (arith, common_steps, nat_tests, agree_below_at)
