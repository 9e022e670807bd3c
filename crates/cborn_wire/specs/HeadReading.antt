-- What is at the front of some bytes, read as a head (RFC 8949 section 3).
use Rattle.std.specs.Prelude.{◌≡◌, ℕ, ◌<◌, List, ◌++◌, length, Option, Some, None}
use Rattle.cborn_model.specs.declared.heads.Size.{Size}
use Rattle.cborn_model.specs.declared.heads.Size.TheVariants.{Fixed, Endless}
use Rattle.cborn_model.specs.declared.heads.Major.{Major}
use Rattle.cborn_model.specs.Heads.{WidthFits, Given, EndlessArgument, head}
pub use Rattle.cborn_model.specs.Heads.{major_at}
use Rattle.cborn_model.specs.Heads as heads
use Rattle.cborn_wire.specs.declared.faults.WireReason.{WireReason}
use Rattle.cborn_wire.specs.declared.heads.Argument.{Argument}
use Rattle.cborn_wire.specs.declared.heads.Argument.TheVariants as arguments
use Rattle.cborn_wire.specs.declared.heads.Head.{Head}
use Rattle.cborn_wire.specs.declared.heads.HeadRead.{HeadRead}
use Rattle.cborn_wire.specs.declared.heads.HeadRead.TheVariants.{Full, Short, Bad}
use Rattle.cborn_wire.specs.Slots.{element_or_end}
use Rattle.cborn_wire.specs.SlotFaults.{reason_at}

abbrev pub seen_argument : Argument → heads.Argument
seen_argument (arguments.Given w n) = Given w n
seen_argument arguments.Endless = EndlessArgument

-- the size and the number of items or pairs that the head of an array or a map says

abbrev pub size_in : heads.Argument → Size
size_in (Given w n) = Fixed w
size_in EndlessArgument = Endless

abbrev pub count_in : heads.Argument → Option ℕ
count_in (Given w n) = Some n
count_in EndlessArgument = None

-- the argument fits its width
abbrev pub ArgumentFits : heads.Argument → Type 0
ArgumentFits (Given w n) = WidthFits w n
ArgumentFits EndlessArgument = Unit {0}

-- The first line of the table of faults that applies to these bytes wherever an item or a break is allowed: a reserved information, an indefinite length that isn't allowed, a float, a bad simple value.
abbrev pub reason_alone : List ℕ → Option WireReason
reason_alone = reason_at 1 element_or_end 0

-- The first n of the bytes x are this head.
pub record IsHeadOf (x : List ℕ) (h : Head) (n : ℕ) : Type 0 where
  pub rest : List ℕ
  pub major : h.major < 8
  pub fits : ArgumentFits (seen_argument h.argument)
  pub whole : x ≡ head (major_at h.major) (seen_argument h.argument) ++ rest
  pub len : n ≡ length (head (major_at h.major) (seen_argument h.argument))
  pub free : reason_alone x ≡ None

-- The bytes x are not a whole head, and begin one.
pub record IsFrontOfHead (x : List ℕ) : Type 0 where
  pub major : Major
  pub argument : heads.Argument
  pub missing : List ℕ
  pub fits : ArgumentFits argument
  pub whole : x ++ missing ≡ head major argument
  pub some : 0 < length missing
  pub free : reason_alone x ≡ None

-- this is at the front of x
abbrev pub ReadsHead : List ℕ → HeadRead → Type 0
ReadsHead x (Full h n) = IsHeadOf x h n
ReadsHead x Short = IsFrontOfHead x
ReadsHead x (Bad r) = reason_alone x ≡ Some r
