-- A device of the proofs: the table of faults once more, by the major type and the information as data. No definition and no public contract cites it. That it says what the table of `SlotFaults` says is proved in proofs/HeadReading/InitialBytes.antt.
use Rattle.std.specs.Prelude.{ℕ, ◌/◌, ◌%◌, List, [], ◌∷◌, Bool, true, false, ◌&&◌, ◌||◌, not, if◌then◌else◌, nat_lt, nat_le, ◌==◌, Option, Some, None}
use Rattle.cborn_model.specs.declared.heads.Width.{Width}
use Rattle.cborn_model.specs.declared.heads.Width.TheVariants.{Direct, One, Two, Four, Eight}
use Rattle.cborn_model.specs.declared.heads.Major.{Major}
use Rattle.cborn_model.specs.declared.heads.Major.TheVariants.{Unsigned, Negative, ByteString, TextString, Array, Map, Tag, Other}
use Rattle.cborn_model.specs.Heads.{Argument, Given, EndlessArgument}
use Rattle.cborn_wire.specs.declared.faults.WireReason.{WireReason}
use Rattle.cborn_wire.specs.declared.faults.WireReason.TheVariants.{ReservedInfo, EndlessNotAllowed, BadChunk, UnexpectedBreak, FloatLeftOut, BadSimple, TooDeep}
use Rattle.cborn_wire.specs.Slots.{StringKind, OfBytes, OfText, Slot, chunk}
use Rattle.cborn_wire.specs.SlotFaults.{needs_item, begins_low}
use Rattle.cborn_wire.specs.HeadReading.{major_at}

-- What the information says: the argument itself, the width of the argument that follows, nothing (28 to 30), or that the length is indefinite (31).
pub data Info : Type 0 where
  Now : ℕ → Info
  Next : Width → Info
  Reserved EndlessInformation : Info

abbrev pub info_at : ℕ → Info
info_at i =
    if nat_lt i 24 then Now i
    else if i == 24 then Next One
    else if i == 25 then Next Two
    else if i == 26 then Next Four
    else if i == 27 then Next Eight
    else if i == 31 then EndlessInformation
    else Reserved

-- what the information of a head says
abbrev pub info_for : Argument → Info
info_for (Given Direct n) = Now n
info_for (Given One n) = Next One
info_for (Given Two n) = Next Two
info_for (Given Four n) = Next Four
info_for (Given Eight n) = Next Eight
info_for EndlessArgument = EndlessInformation

abbrev pub is_reserved : Info → Bool
is_reserved Reserved = true
is_reserved _ = false

abbrev pub is_endless_head : Info → Bool
is_endless_head EndlessInformation = true
is_endless_head _ = false

-- the major types that have no indefinite form (RFC 8949 section 3.2)
abbrev pub is_always_bounded : Major → Bool
is_always_bounded Unsigned = true
is_always_bounded Negative = true
is_always_bounded Tag = true
is_always_bounded _ = false

abbrev pub is_other : Major → Bool
is_other Other = true
is_other _ = false

-- arrays, maps and tags
abbrev pub is_container : Major → Bool
is_container Array = true
is_container Map = true
is_container Tag = true
is_container _ = false

abbrev pub is_of_kind : StringKind → Major → Bool
is_of_kind OfBytes ByteString = true
is_of_kind OfText TextString = true
is_of_kind _ _ = false

abbrev pub is_break : Major → Info → Bool
is_break m i = is_other m && is_endless_head i

-- in an indefinite string neither a break nor a definite string of its kind (RFC 8949 section 3.2.3)
abbrev pub is_bad_chunk : Slot → Major → Info → Bool
is_bad_chunk (chunk k) m i = not (is_break m i || (is_of_kind k m && not (is_endless_head i)))
is_bad_chunk _ m i = false

abbrev pub is_float : Info → Bool
is_float (Next Two) = true
is_float (Next Four) = true
is_float (Next Eight) = true
is_float _ = false

abbrev pub is_one : Info → Bool
is_one (Next One) = true
is_one _ = false

abbrev pub head_reason : Slot → Bool → Major → Info → List ℕ → Option WireReason
head_reason s full m i y =
    if is_reserved i then Some ReservedInfo
    else if is_endless_head i && is_always_bounded m then Some EndlessNotAllowed
    else if is_bad_chunk s m i then Some BadChunk
    else if is_break m i && needs_item s then Some UnexpectedBreak
    else if is_other m && is_float i then Some FloatLeftOut
    else if is_other m && is_one i && begins_low y then Some BadSimple
    else if is_container m && full then Some TooDeep
    else None

abbrev pub front_reason : ℕ → Slot → ℕ → List ℕ → Option WireReason
front_reason limit s k [] = None
front_reason limit s k (b ∷ y) = head_reason s (nat_le limit k) (major_at (b / 32)) (info_at (b % 32)) y
