-- A device of the proofs: leaves that have one head, as the reader takes them. No definition cites it.
use Rattle.std.specs.Prelude.{◌≡◌, ℕ, ◌+◌, ◌/◌, ◌<◌, ◌≤◌, List, length, take, slice_index, ⊤}
use Rattle.cborn_model.specs.declared.heads.Width.{Width}
use Rattle.cborn_model.specs.declared.heads.Width.TheVariants.{Direct}
use Rattle.cborn_model.specs.declared.heads.Major.{Major}
use Rattle.cborn_model.specs.declared.heads.Major.TheVariants.{Unsigned, Negative, ByteString, TextString, Other}
use Rattle.cborn_model.specs.Tree.{Tree, Uint, Nint, Bytes, Text, Simple}
use Rattle.cborn_model.specs.Partial.{Partial, Part, no_part, put, TakesItem}
use Rattle.cborn_wire.specs.declared.heads.Argument.TheVariants.{Given}
use Rattle.cborn_wire.specs.declared.levels.Level.{Level}
use Rattle.cborn_wire.specs.declared.leaves.GivenHead.{GivenHead}
use Rattle.cborn_wire.specs.HeadReading.{major_at, IsHeadOf}
use Rattle.cborn_wire.specs.shared.Machine.{AtMostOneMore, finished, run}
use Rattle.cborn_wire.specs.shared.Visiting.{ready, open_in, state, lessened, Keeps, Stands}

-- this head is at the front of x, and of major type 7 only with a direct argument
pub record IsGiven (x : List ℕ) (h : GivenHead) : Type 0 where
  pub head : IsHeadOf x (record { major = h.first / 32; argument = Given h.width h.argument }) h.len
  pub first : h.first ≡ slice_index x 0
  pub direct : 224 ≤ h.first → h.width ≡ Direct

-- an integer, a string of definite length or a simple value has such a head
abbrev pub IsLeaf : Major → Width → Type 0
IsLeaf Unsigned w = ⊤
IsLeaf Negative w = ⊤
IsLeaf ByteString w = ⊤
IsLeaf TextString w = ⊤
IsLeaf Other w = w ≡ Direct
IsLeaf m w = ⊥

-- how many bytes follow its head
abbrev pub content_len : Major → ℕ → ℕ
content_len ByteString n = n
content_len TextString n = n
content_len m n = 0

abbrev pub leaf_tree : ℕ → Major → Width → ℕ → List ℕ → Tree
leaf_tree p Unsigned w n x = Uint p w n
leaf_tree p Negative w n x = Nint p w n
leaf_tree p ByteString w n x = Bytes p w x
leaf_tree p TextString w n x = Text p w x
leaf_tree p m w n x = Simple p n

-- the first n bytes of x are a leaf with this head
pub record IsLeafOf (x : List ℕ) (h : GivenHead) (n : ℕ) : Type 0 where
  pub given : IsGiven x h
  pub leaf : IsLeaf (major_at (h.first / 32)) h.width
  pub len : n ≡ h.len + content_len (major_at (h.first / 32)) h.argument
  pub whole : n ≤ length x

-- The bytes x, at the offsets from `place` to `end`, are leaves that follow the partial sequence f. After all of them but the last one, `before` is the partial sequence and these are its levels.
pub record AfterLeaves (place end : ℕ) (f : Partial) (holds : Partial → Type 0) (around : List Level) (l : Level) (x : List ℕ) : Type 0 where
  pub before : Partial
  pub last : Tree
  pub held : holds (put before last)
  pub levels : Keeps before around l
  pub takes : TakesItem before
  pub same : ready before ≡ ready f
  pub is : (limit : ℕ) → run limit (state place f no_part) x ≡ finished end (ready before) (open_in before) last

-- The first n bytes of x are leaves at the offset `place`. The visitor takes them where l is the innermost level, and count of them, but not the last.
abbrev pub TakesRun : ℕ → List ℕ → Level → ℕ → (Partial → Part → Type 0) → (Partial → Part → Type 0) → ℕ → Type 0
TakesRun place x l count old new n =
    (0 < n) × (n ≤ length x) × ((f : Partial) (around : List Level) → old f no_part → Keeps f around l → TakesItem f → AfterLeaves place (place + n) f (λ h. new h no_part) around (record l { missing = lessened l.missing count }) (take n x))

-- the first n bytes of the piece were read after the partial sequence f, and at most one more item of the input is whole
abbrev pub TakesHead : ℕ → ℕ → Partial → List ℕ → (Partial → Part → Type 0) → List Level → Level → ℕ → Type 0
TakesHead limit place f piece holds around l n =
    Stands holds around l 0 (place + n) (run limit (state place f no_part) (take n piece)) × AtMostOneMore (ready f) (run limit (state place f no_part) (take n piece))
