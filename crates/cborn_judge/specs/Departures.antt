-- The departure of one head, of one bignum and of one key from the deterministic encoding (RFC 8949 section 4.2), and the first of some.
use Rattle.std.specs.Prelude.{◌≡◌, ◌≢◌}
use Rattle.cborn_judge.specs.Common.{ℕ, List, Option, Ordering, Less, Width, Finds, DefectReason, LongHead, LooseBignum, KeyOrder}
use Rattle.cborn_judge.specs.Defects.{IsLong, IsLoose}
use Rattle.cborn_judge.specs.Reasons.{defect_rank}
use Rattle.cborn_judge.specs.declared.defects.Defect as defect

abbrev pub FindsDefect : (ℕ → DefectReason → Type 0) → Option defect.Defect → Type 0
FindsDefect = Finds defect_rank (λ d. d.place) (λ d. d.reason)

-- a head at this place, with this argument, is not the shortest
abbrev pub LongAt : ℕ → Width → ℕ → ℕ → DefectReason → Type 0
LongAt q w n p r = (p ≡ q) × (r ≡ LongHead) × IsLong w n

-- the bytes of a bignum at this place are loose
abbrev pub LooseBytesAt : ℕ → List ℕ → ℕ → DefectReason → Type 0
LooseBytesAt q b p r = (p ≡ q) × (r ≡ LooseBignum) × IsLoose b

-- the encoding of a key at this place is not above the one before it
abbrev pub NotAboveAt : (List ℕ → List ℕ → Ordering) → ℕ → List ℕ → List ℕ → ℕ → DefectReason → Type 0
NotAboveAt order q x y p r = (p ≡ q) × (r ≡ KeyOrder) × (order x y ≢ Less)
