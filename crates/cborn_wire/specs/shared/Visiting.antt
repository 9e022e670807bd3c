-- A device of the proofs: what a machine keeps of the partial sequence that its visitor holds, and what both are as a state of the machine of these proofs.
use Rattle.std.specs.Prelude.{◌≡◌, ℕ, ◌+◌, ◌-◌, ◌%◌, ◌^◌, ◌<◌, ◌≤◌, List, [], ◌∷◌, ◌++◌, length, take, Bool, true, false, not, Option, Some, None, Result, Ok, Err, IfOk, MatchResult, if◌then◌else◌, nat_eq, nat_lt}
use Rattle.cborn_model.specs.Bytes.{AreBytes}
use Rattle.cborn_model.specs.declared.heads.Major.{Major}
use Rattle.cborn_model.specs.declared.heads.Major.TheVariants.{ByteString, TextString, Other}
use Rattle.cborn_model.specs.Heads.{Argument, Given, EndlessArgument}
use Rattle.cborn_model.specs.Tree.{Tree, Trees, trees}
use Rattle.cborn_model.specs.Partial.{Opening, an_array, a_map, a_tag, in_chunks, Partial, top, inside, Part, no_part, part, TakesItem, TakesString, Proper}
use Rattle.cborn_wire.specs.declared.faults.VisitFault.{VisitFault}
use Rattle.cborn_wire.specs.declared.faults.VisitFault.TheVariants.{Refused, Memory}
use Rattle.cborn_wire.specs.declared.faults.WireReason.{WireReason}
use Rattle.cborn_wire.specs.Slots.{OfBytes, OfText, Slot, item, value, element_or_end, key_or_end, chunk, OpenContainer, opened, HeadFits}
use Rattle.cborn_wire.specs.SlotFaults.{needs_item}
use Rattle.cborn_wire.specs.HeadReading.{major_at}
use Rattle.cborn_wire.specs.shared.Ground.{place_of}
use Rattle.cborn_wire.specs.shared.Machine.{width_bytes, Unfinished, argument_of, content_of, nothing, gathering, State, Live, Failed, ready_in, start, run, AtMostOneMore}
use Rattle.cborn_wire.specs.declared.levels.LevelKind.{LevelKind}
use Rattle.cborn_wire.specs.declared.levels.LevelKind.TheVariants.{Sequence, Array, Map, GreatMap, Tag, EndlessArray, EndlessMap, Chunks}
use Rattle.cborn_wire.specs.declared.levels.Level.{Level}
use Rattle.cborn_wire.specs.declared.head_readers.PartialHead.{PartialHead}
use Rattle.cborn_wire.specs.declared.head_readers.HeadReader.{HeadReader}

-- a partial sequence as a state of the machine of the proofs

abbrev pub ready : Partial → Trees
ready (top ts) = trees ts
ready (inside f o ts) = ready f

abbrev pub open_in : Partial → List OpenContainer
open_in (top ts) = []
open_in (inside f o ts) = opened o ts ∷ open_in f

abbrev pub unfinished : Part → Unfinished
unfinished no_part = nothing
unfinished (part p k w n x) = gathering p (content_of k w) n x

abbrev pub state : ℕ → Partial → Part → State
state at f c = Live at (ready f) (open_in f) (unfinished c)

-- what is open is spelled by bytes
abbrev pub AreFromBytes : Partial → Type 0
AreFromBytes (top ts) = Unit {0}
AreFromBytes (inside f o ts) = AreFromBytes f × HeadFits o

-- the levels of what is open

-- n minus k, modulo 2^64
abbrev pub lessened : ℕ → ℕ → ℕ
lessened n k = (n + (2 ^ 64 - k % 2 ^ 64)) % 2 ^ 64

-- how many nodes the head announces; 0 if it says no number
abbrev pub announced_nodes : Opening → ℕ
announced_nodes (an_array p s (Some n)) = n
announced_nodes (a_map p s (Some n)) = n + n
announced_nodes (a_tag p w n) = 1
announced_nodes o = 0

abbrev pub argument_in : Opening → ℕ
argument_in (an_array p s (Some n)) = n
argument_in (a_map p s (Some n)) = n
argument_in (a_tag p w n) = n
argument_in o = 0

-- with k nodes in it
abbrev pub kind_in : Opening → ℕ → LevelKind
kind_in (an_array p s (Some n)) k = Array
kind_in (an_array p s None) k = EndlessArray
kind_in (a_map p s (Some n)) k = if nat_lt (k + 2 ^ 64) (n + n) then GreatMap else Map
kind_in (a_map p s None) k = EndlessMap
kind_in (a_tag p w n) k = Tag
kind_in (in_chunks p c) k = Chunks c

abbrev pub level_with : Opening → ℕ → Level
level_with o k = record { place = place_of o; kind = kind_in o k; argument = argument_in o; missing = lessened (announced_nodes o) k }

abbrev pub level_in : Opening → List Tree → Level
level_in o ts = level_with o (length ts)

-- the input with k items
abbrev pub input_level : ℕ → Level
input_level k = record { place = 0; kind = Sequence; argument = 0; missing = lessened 0 k }

-- the outermost first
abbrev pub levels : Partial → List Level
levels (top ts) = input_level (length ts) ∷ []
levels (inside f o ts) = levels f ++ level_in o ts ∷ []

-- The levels are those of the partial sequence, which bytes spell: the innermost is l, the others are around it.
abbrev pub Keeps : Partial → List Level → Level → Type 0
Keeps f around l = (levels f ≡ around ++ l ∷ []) × Proper f × AreFromBytes f

-- the levels of an input of which nothing was read
abbrev pub IsInput : List Level → Level → Type 0
IsInput around l = (around ≡ []) × (l ≡ input_level 0)

-- what a level is with one more part; None if that was its last

abbrev pub kind_at_none : LevelKind → Option LevelKind
kind_at_none Array = None
kind_at_none Map = None
kind_at_none Tag = None
kind_at_none GreatMap = Some Map
kind_at_none k = Some k

abbrev pub with_kind : Level → Option LevelKind → Option Level
with_kind l None = None
with_kind l (Some k) = Some (record l { kind = k })

-- where a multiple of 2^64 parts is missing
abbrev pub at_none : Level → Option Level
at_none l = with_kind l (kind_at_none l.kind)

abbrev pub with_part : Level → Option Level
with_part l = let on = record l { missing = lessened l.missing 1 } in if nat_eq on.missing 0 then at_none on else Some on

-- how many parts are whole, modulo 2^64
abbrev pub parts_in : LevelKind → ℕ → ℕ → ℕ
parts_in Map n m = lessened ((n + n) % 2 ^ 64) m
parts_in GreatMap n m = lessened ((n + n) % 2 ^ 64) m
parts_in k n m = lessened n m

abbrev pub parts_of : Level → ℕ
parts_of l = parts_in l.kind l.argument l.missing

abbrev pub is_array : LevelKind → Bool
is_array Array = true
is_array EndlessArray = true
is_array k = false

-- how many parts at most may come in an array
abbrev pub room_in : LevelKind → ℕ → ℕ
room_in EndlessArray m = 2 ^ 64 - 1
room_in k m = m

abbrev pub is_chunks : LevelKind → Bool
is_chunks (Chunks c) = true
is_chunks k = false

-- of this many missing parts
abbrev pub is_even : ℕ → Bool
is_even m = nat_eq (m % 2) 0

-- in a map of which this many parts are missing a key comes next
abbrev pub is_at_key : LevelKind → ℕ → Bool
is_at_key Map m = is_even m
is_at_key GreatMap m = is_even m
is_at_key EndlessMap m = is_even m
is_at_key k m = false

-- its slot, as the code knows it, which has one for all in which the same heads are allowed
abbrev pub slot_of : LevelKind → ℕ → Slot
slot_of EndlessArray m = element_or_end
slot_of EndlessMap m = if is_even m then element_or_end else item
slot_of (Chunks c) m = chunk c
slot_of k m = item

-- the code's one of all in which the same heads are allowed
abbrev pub plain : Slot → Slot
plain value = item
plain key_or_end = element_or_end
plain s = s

-- it isn't that of a chunk
abbrev pub IsNoChunkSlot : Slot → Type 0
IsNoChunkSlot (chunk k) = ⊥
IsNoChunkSlot s = Unit {0}

-- a break may end it
abbrev pub may_end : LevelKind → ℕ → Bool
may_end k m = not (needs_item (slot_of k m))

-- what is read and what comes

-- this many bytes of a string are to come
abbrev pub Missing : ℕ → Part → Type 0
Missing left no_part = left ≡ 0
Missing left (part p k w n x) = (left + length x ≡ n) × (0 < left)

-- a part of a string may be next
abbrev pub PartFits : Partial → Part → Type 0
PartFits f no_part = Unit {0}
PartFits f (part p k w n x) = TakesString f k

-- this head may be next
abbrev pub Takes : Partial → Major → Argument → Type 0
Takes f ByteString (Given w n) = TakesString f OfBytes
Takes f TextString (Given w n) = TakesString f OfText
Takes f Other EndlessArgument = Unit {0}
Takes f _ _ = TakesItem f

-- The levels are those of a partial sequence that the visitor holds, and both are the state s at the offset `at`.
pub record Stands (holds : Partial → Part → Type 0) (around : List Level) (l : Level) (left at : ℕ) (s : State) : Type 0 where
  pub partial : Partial
  pub amid : Part
  pub held : holds partial amid
  pub levels : Keeps partial around l
  pub missing : Missing left amid
  pub fits : PartFits partial amid
  pub is : s ≡ state at partial amid

-- the state s is this failure, after these whole nodes; or memory was refused
abbrev pub FailsAs : Trees → State → VisitFault → Type 0
FailsAs ts s (Refused p r) = s ≡ Failed ts p r
FailsAs ts s (Memory e) = Unit {0}

-- A call gives the number of bytes of a string that are to come, or failed.
abbrev pub Gives : (Partial → Part → Type 0) → List Level → Level → ℕ → Trees → State → Result ℕ VisitFault → Type 0
Gives holds around l at ts s r = MatchResult r (λ left. Stands holds around l left at s) (FailsAs ts s)

-- the partial head in bytes of its argument so far
abbrev pub seen_head : PartialHead → Unfinished
seen_head h = gathering h.place (argument_of (major_at h.major) h.width) (width_bytes h.width) (take h.len h.bytes)

abbrev pub IsShort : PartialHead → Type 0
IsShort h = length (take h.len h.bytes) < width_bytes h.width

-- What is read is at the state s at the offset `at`, and the visitor holds what that says; after a partial head it holds what was before.
abbrev pub HereAt : (Partial → Part → Type 0) → List Level → Level → ℕ → ℕ → Option PartialHead → State → Type 0
HereAt holds around l left at None s = Stands holds around l left at s
HereAt holds around l left at (Some h) s = IsShort h × (f : Partial) × holds f no_part × Keeps f around l × Takes f (major_at h.major) (Given h.width 0) × (s ≡ Live at (ready f) (open_in f) (seen_head h))

abbrev pub Here : (Partial → Part → Type 0) → List Level → Level → HeadReader → State → Type 0
Here holds around l m s = HereAt holds around l m.left m.at m.head s

-- This many bytes of the piece are taken, and at most one more item is whole; or the call fails as the piece does.
abbrev pub TakesPiece : ℕ → State → List ℕ → (Partial → Part → Type 0) → List Level → Level → ℕ → ℕ → Option PartialHead → Result ℕ VisitFault → Type 0
TakesPiece limit s piece holds around l left at h result =
    MatchResult result (λ n. HereAt holds around l left (at + n) h (run limit s (take n piece)) × AtMostOneMore (ready_in s) (run limit s (take n piece))) (FailsAs (ready_in s) (run limit s piece))

-- At least one byte is taken, and no more than there are; limit and offset stay.
abbrev pub TakesSome : ℕ → HeadReader → HeadReader → Result ℕ VisitFault → Type 0
TakesSome most old new r = IfOk r (λ n. (0 < n) × (n ≤ most)) × (new.limit ≡ old.limit) × (new.at ≡ old.at)

-- nothing was read, and the first byte is at the offset `at`
abbrev pub IsFresh : ℕ → ℕ → HeadReader → Type 0
IsFresh limit at m = (m.limit ≡ limit) × (m.at ≡ at) × (m.left ≡ 0) × (m.head ≡ None) × (m.limit ≤ 1024)

-- nothing is open, and no head or string is partial
abbrev pub MayEnd : List Level → HeadReader → Type 0
MayEnd around m = (m.head ≡ None) × (m.left ≡ 0) × (around ≡ [])

-- A reader that began at the offset `base` was handed the bytes x, and its visitor holds what they hold.
abbrev pub IsFed : (Partial → Part → Type 0) → List Level → Level → HeadReader → ℕ → List ℕ → Type 0
IsFed holds around l m base x = AreBytes x × (m.limit ≤ 1024) × Here holds around l m (run m.limit (start base) x)

-- the offset of the head that comes next, or of the one that is partial

abbrev pub head_at : ℕ → Option PartialHead → ℕ
head_at at None = at
head_at at (Some h) = h.place

abbrev pub next_head : HeadReader → ℕ
next_head m = head_at m.at m.head

-- The piece is refused after the bytes x: the first n bytes of the piece were taken, the items that are whole then are whole before the fault, and the head that is refused comes next or is partial.
pub record RefusesPiece (holds : Partial → Part → Type 0) (around : List Level) (l : Level) (m : HeadReader) (base : ℕ) (x piece : List ℕ) (p : ℕ) (r : WireReason) : Type 0 where
  pub taken : ℕ
  pub within : taken ≤ length piece
  pub fed : IsFed holds around l m base (x ++ take taken piece)
  pub fails : run m.limit (start base) (x ++ piece) ≡ Failed (ready_in (run m.limit (start base) (x ++ take taken piece))) p r
  pub next : next_head m ≡ p

-- After the bytes x this many bytes of the piece are read, or it is refused.
abbrev pub Reads : (Partial → Part → Type 0) → List Level → Level → HeadReader → ℕ → List ℕ → List ℕ → Result ℕ VisitFault → Type 0
Reads holds around l m base x piece (Ok n) = IsFed holds around l m base (x ++ take n piece)
Reads holds around l m base x piece (Err (Refused p r)) = RefusesPiece holds around l m base x piece p r
Reads holds around l m base x piece (Err (Memory e)) = Unit {0}

-- After the bytes x at most one more item is whole in what is read of the piece, and none before the fault of one that is refused.
abbrev pub ReadsItem : ℕ → ℕ → List ℕ → List ℕ → Result ℕ VisitFault → Type 0
ReadsItem limit base x piece (Ok n) = AtMostOneMore (ready_in (run limit (start base) x)) (run limit (start base) (x ++ take n piece))
ReadsItem limit base x piece (Err (Refused p r)) = run limit (start base) (x ++ piece) ≡ Failed (ready_in (run limit (start base) x)) p r
ReadsItem limit base x piece (Err (Memory e)) = Unit {0}
