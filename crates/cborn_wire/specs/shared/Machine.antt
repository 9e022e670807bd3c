-- A device of the proofs: a machine that takes one byte after another, and is at each moment what the bytes so far make of it. It is no definition of what is well-formed and what is a fault, and no definition cites it. That it agrees with the definitions is proved in proofs/.
use Rattle.std.specs.Prelude.{◌≡◌, ℕ, suc, ◌+◌, ◌*◌, ◌/◌, ◌%◌, List, [], ◌∷◌, ◌++◌, length, Bool, false, if◌then◌else◌, nat_lt, nat_le, Option, Some, None, slice_index, ◌⊎◌}
use Rattle.std.specs.Int.{w16, w32, w64, from_be_bytes}
use Rattle.cborn_model.specs.Bytes.{AreBytes}
use Rattle.cborn_model.specs.declared.heads.Width.{Width}
use Rattle.cborn_model.specs.declared.heads.Width.TheVariants.{Direct, One, Two, Four, Eight}
use Rattle.cborn_model.specs.declared.heads.Major.{Major}
use Rattle.cborn_model.specs.declared.heads.Major.TheVariants.{Unsigned, Negative, ByteString, TextString, Array, Map, Tag, Other}
use Rattle.cborn_model.specs.Heads.{code, information, Argument, Given, EndlessArgument, head}
use Rattle.cborn_model.specs.Partial.{Opening, an_array, a_map, a_tag, in_chunks, built, string_tree}
use Rattle.cborn_model.specs.Tree.{Tree, Uint, Nint, Simple, Trees, no_item, more}
use Rattle.cborn_model.specs.Spelled.{spelled_all}
use Rattle.cborn_wire.specs.declared.faults.WireFault.{WireFault}
use Rattle.cborn_wire.specs.declared.faults.WireFault.TheVariants as faults
use Rattle.cborn_wire.specs.declared.faults.WireReason.{WireReason}
use Rattle.cborn_wire.specs.declared.faults.WireReason.TheVariants.{ReservedInfo, EndlessNotAllowed, UnexpectedBreak, FloatLeftOut, BadSimple}
use Rattle.cborn_wire.specs.Slots.{StringKind, OfBytes, OfText, OpenContainer, opened, beginnings, major_of, slot, slot_in, open_depth}
use Rattle.cborn_wire.specs.SlotFaults.{needs_item}
use Rattle.cborn_wire.specs.shared.InitialBytes.{Info, Now, Next, Reserved, EndlessInformation, info_at, head_reason}
use Rattle.cborn_wire.specs.HeadReading.{major_at, size_in, count_in}

-- one list of nodes after another, and a node at the end of a list

abbrev pub append_trees : Trees → Trees → Trees
append_trees no_item ts = ts
append_trees (more u us) ts = more u (append_trees us ts)

abbrev pub snoc : Trees → Tree → Trees
snoc no_item t = more t no_item
snoc (more u ts) t = more u (snoc ts t)

-- An argument of a width: how many bytes follow the initial byte, and the number that they write.

abbrev pub width_bytes : Width → ℕ
width_bytes Direct = 0
width_bytes One = 1
width_bytes Two = 2
width_bytes Four = 4
width_bytes Eight = 8

abbrev pub number : Width → List ℕ → ℕ
number Direct bytes = 0
number One bytes = slice_index bytes 0
number Two bytes = from_be_bytes w16 bytes
number Four bytes = from_be_bytes w32 bytes
number Eight bytes = from_be_bytes w64 bytes

-- what bytes are gathered for: the argument of a head, or the content of a definite string
pub data Goal : Type 0 where
  argument_of : Major → Width → Goal
  content_of : StringKind → Width → Goal

-- A partial head or definite string: the offset of its head, what is gathered, how many bytes there have to be, and those that came.
pub data Unfinished : Type 0 where
  nothing : Unfinished
  gathering : ℕ → Goal → ℕ → List ℕ → Unfinished

-- `Live`: the offset of the next byte, the complete items, what is open, the innermost first, and the partial head or string. `Failed`: the items that were complete before the fault, its offset and its reason.
pub data State : Type 0 where
  Live : ℕ → Trees → List OpenContainer → Unfinished → State
  Failed : Trees → ℕ → WireReason → State

-- before any byte, the first being at p
abbrev pub start : ℕ → State
start p = Live p no_item [] nothing

abbrev pub ready_in : State → Trees
ready_in (Live fed ready os partial) = ready
ready_in (Failed ready p r) = ready

-- the bytes of complete items and of what is open
abbrev pub front : Trees → List OpenContainer → List ℕ
front ready os = spelled_all ready ++ beginnings os

abbrev pub partial_bytes : Unfinished → List ℕ
partial_bytes nothing = []
partial_bytes (gathering p (argument_of m w) n got) = (32 * code m + information w 0) ∷ got
partial_bytes (gathering p (content_of k w) n got) = head (major_of k) (Given w n) ++ got

-- the bytes that make a live state
abbrev pub held : State → List ℕ
held (Live fed ready os partial) = front ready os ++ partial_bytes partial
held (Failed ready p r) = []

-- k are as many as are announced
abbrev pub is_all : Option ℕ → ℕ → Bool
is_all (Some n) k = nat_le n k
is_all None k = false

-- With n nodes in it the container is whole.
abbrev pub is_full : Opening → ℕ → Bool
is_full (an_array p s c) n = is_all c n
is_full (a_map p s c) n = is_all c (n / 2)
is_full (a_tag p w m) n = is_all (Some 1) n
is_full (in_chunks p k) n = false

-- after a complete node, inside what is open
abbrev pub finished : ℕ → Trees → List OpenContainer → Tree → State
finished fed ready [] t = Live fed (snoc ready t) [] nothing
finished fed ready (opened o ts ∷ os) t = if is_full o (length (ts ++ t ∷ [])) then finished fed ready os (built o (ts ++ t ∷ [])) else Live fed ready (opened o (ts ++ t ∷ []) ∷ os) nothing

-- after the head of a container and these nodes in it
abbrev pub holding : ℕ → Trees → List OpenContainer → Opening → List Tree → State
holding fed ready os o ts = if is_full o (length ts) then finished fed ready os (built o ts) else Live fed ready (opened o ts ∷ os) nothing

-- after a definite string's head and these bytes of its content
abbrev pub content_at : ℕ → ℕ → Trees → List OpenContainer → StringKind → Width → ℕ → List ℕ → State
content_at fed p ready os k w n got = if nat_le n (length got) then finished fed ready os (string_tree p k w got) else Live fed ready os (gathering p (content_of k w) n got)

-- after a break, at p
abbrev pub ended : ℕ → ℕ → Trees → List OpenContainer → State
ended fed p ready [] = Failed ready p UnexpectedBreak
ended fed p ready (opened o ts ∷ os) = if needs_item (slot_in (opened o ts)) then Failed ready p UnexpectedBreak else finished fed ready os (built o ts)

-- after a whole head, at p
abbrev pub after_head : ℕ → ℕ → Trees → List OpenContainer → Major → Argument → State
after_head fed p ready os Unsigned (Given w n) = finished fed ready os (Uint p w n)
after_head fed p ready os Negative (Given w n) = finished fed ready os (Nint p w n)
after_head fed p ready os ByteString (Given w n) = content_at fed p ready os OfBytes w n []
after_head fed p ready os TextString (Given w n) = content_at fed p ready os OfText w n []
after_head fed p ready os ByteString EndlessArgument = holding fed ready os (in_chunks p OfBytes) []
after_head fed p ready os TextString EndlessArgument = holding fed ready os (in_chunks p OfText) []
after_head fed p ready os Array a = holding fed ready os (an_array p (size_in a) (count_in a)) []
after_head fed p ready os Map a = holding fed ready os (a_map p (size_in a) (count_in a)) []
after_head fed p ready os Tag (Given w n) = holding fed ready os (a_tag p w n) []
after_head fed p ready os Other (Given Direct n) = finished fed ready os (Simple p n)
after_head fed p ready os Other (Given One n) = if nat_lt n 32 then Failed ready p BadSimple else finished fed ready os (Simple p n)
after_head fed p ready os Other EndlessArgument = ended fed p ready os
after_head fed p ready os Other (Given w n) = Failed ready p FloatLeftOut
after_head fed p ready os m EndlessArgument = Failed ready p EndlessNotAllowed

-- after all bytes that were wanted
abbrev pub gathered : ℕ → ℕ → Trees → List OpenContainer → Goal → List ℕ → State
gathered fed p ready os (argument_of m w) got = after_head fed p ready os m (Given w (number w got))
gathered fed p ready os (content_of k w) got = finished fed ready os (string_tree p k w got)

-- after these of the n bytes
abbrev pub gather : ℕ → ℕ → Trees → List OpenContainer → Goal → ℕ → List ℕ → State
gather fed p ready os g n got = if nat_le n (length got) then gathered fed p ready os g got else Live fed ready os (gathering p g n got)

-- after an initial byte that is allowed in the slot
abbrev pub begin_head : ℕ → Trees → List OpenContainer → Major → Info → State
begin_head fed ready os m (Now n) = after_head (suc fed) fed ready os m (Given Direct n)
begin_head fed ready os m (Next w) = gather (suc fed) fed ready os (argument_of m w) (width_bytes w) []
begin_head fed ready os m EndlessInformation = after_head (suc fed) fed ready os m EndlessArgument
begin_head fed ready os m Reserved = Failed ready fed ReservedInfo

abbrev pub unless : Option WireReason → Trees → ℕ → State → State
unless None ready p s = s
unless (Some r) ready p s = Failed ready p r

-- after an initial byte, in the slot that what is open leaves
abbrev pub at_slot : ℕ → ℕ → Trees → List OpenContainer → Major → Info → State
at_slot limit fed ready os m i = unless (head_reason (slot os) (nat_le limit (open_depth os)) m i []) ready fed (begin_head fed ready os m i)

-- after one byte
abbrev pub step : ℕ → State → ℕ → State
step limit (Failed ready p r) b = Failed ready p r
step limit (Live fed ready os nothing) b = at_slot limit fed ready os (major_at (b / 32)) (info_at (b % 32))
step limit (Live fed ready os (gathering p g n got)) b = gather (suc fed) p ready os g n (got ++ b ∷ [])

-- after all bytes of a list, in order
abbrev pub run : ℕ → State → List ℕ → State
run limit s [] = s
run limit s (b ∷ x) = run limit (step limit s b) x

-- what some bytes make, the first being at base
abbrev pub IsReached : ℕ → ℕ → State → Type 0
IsReached limit base s = (x : List ℕ) × AreBytes x × (run limit (start base) x ≡ s)

-- The complete items are as they were, or one more is complete and nothing is open.
abbrev pub AtMostOneMore : Trees → State → Type 0
AtMostOneMore ready s = (ready_in s ≡ ready) ⊎ ((fed : ℕ) × (t : Tree) × (s ≡ Live fed (snoc ready t) [] nothing))

-- A reader that is fed the bytes x in the state s stops with this fault, and then has these complete items: the machine fails, or memory was refused after some front of x.
abbrev pub Stops : ℕ → State → List ℕ → WireFault → Trees → Type 0
Stops limit s x (faults.Refused p r) ready = run limit s x ≡ Failed ready p r
Stops limit s x faults.OutOfMemory ready = (y : List ℕ) × (z : List ℕ) × (x ≡ y ++ z) × (ready_in (run limit s y) ≡ ready)
