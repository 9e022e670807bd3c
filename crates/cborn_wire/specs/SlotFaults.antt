-- Faults by slots: at which heads bytes stop being well-formed, by a table over what is open around a head. `Refused` in `Faults` says it without slots: that both agree is the law `faults_by_slots`.
use Rattle.std.specs.Prelude.{◌≡◌, ℕ, ◌/◌, ◌%◌, List, [], ◌∷◌, ◌++◌, length, Bool, true, false, ◌&&◌, ◌||◌, not, if◌then◌else◌, nat_lt, nat_le, ◌==◌, Option, Some, None}
use Rattle.cborn_model.specs.Heads.{code}
use Rattle.cborn_wire.specs.declared.faults.WireReason.{WireReason}
use Rattle.cborn_wire.specs.declared.faults.WireReason.TheVariants.{ReservedInfo, EndlessNotAllowed, BadChunk, UnexpectedBreak, FloatLeftOut, BadSimple, TooDeep}
use Rattle.cborn_wire.specs.Slots.{major_of, Slot, item, value, chunk, Open}

-- An initial byte is its major type m, the high three bits, and its additional information i, the low five. 7 is the last major type: 7 ≤ m says that it is this one.

abbrev pub is_break : ℕ → ℕ → Bool
is_break m i = nat_le 7 m && i == 31

-- in an indefinite string neither a break nor a definite string of its kind (RFC 8949 section 3.2.3)
abbrev pub is_bad_chunk : Slot → ℕ → ℕ → Bool
is_bad_chunk (chunk k) m i = not (is_break m i || (m == code (major_of k) && not (i == 31)))
is_bad_chunk _ m i = false

-- an item is needed here, and no break is allowed
abbrev pub needs_item : Slot → Bool
needs_item item = true
needs_item value = true
needs_item _ = false

abbrev pub begins_low : List ℕ → Bool
begins_low [] = false
begins_low (b ∷ y) = nat_lt b 32

-- The table of faults: the first line that applies to an initial byte in the slot s, with y after it. `full`: as many arrays, maps and tags are open around the slot as the limit allows. Integers and tags have no indefinite form (RFC 8949 section 3.2), and a simple value below 32 none of two bytes (section 3.3).
abbrev pub reason_of : Slot → Bool → ℕ → ℕ → List ℕ → Option WireReason
reason_of s full m i y =
    if nat_le 28 i && nat_le i 30 then Some ReservedInfo
    else if i == 31 && (nat_le m 1 || m == 6) then Some EndlessNotAllowed
    else if is_bad_chunk s m i then Some BadChunk
    else if is_break m i && needs_item s then Some UnexpectedBreak
    else if nat_le 7 m && (nat_le 25 i && nat_le i 27) then Some FloatLeftOut
    else if nat_le 7 m && i == 24 && begins_low y then Some BadSimple
    else if nat_le 4 m && nat_le m 6 && full then Some TooDeep
    else None

-- the reason for the head at the front of these bytes, in the slot s inside k arrays, maps and tags
abbrev pub reason_at : ℕ → Slot → ℕ → List ℕ → Option WireReason
reason_at limit s k [] = None
reason_at limit s k (b ∷ y) = reason_of s (nat_le limit k) (b / 32) (b % 32) y

-- the head at p isn't allowed in its slot
abbrev pub SlotRefused : ℕ → List ℕ → ℕ → WireReason → Type 0
SlotRefused limit x p r = (f : List ℕ) × (y : List ℕ) × (s : Slot) × (k : ℕ) × (x ≡ f ++ y) × (length f ≡ p) × Open limit f s k × (reason_at limit s k y ≡ Some r)
