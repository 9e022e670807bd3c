-- A device of the proofs: the defects of parts of a node. Of public contracts that of `Encoder` alone cites it.
use Rattle.std.specs.Prelude.{◌≡◌, ◌⊎◌}
use Rattle.cborn_judge.specs.Common.{ℕ, List, Option, Ordering, IsByteString, Tree, Trees, Entries, Size, IsEarliest, DefectReason, LooseBignum, KeyOrder}
use Rattle.cborn_judge.specs.Defects.{IsLoose, SizeDefect, HasDescent, DefectAt}
use Rattle.cborn_judge.specs.Reasons.{defect_rank}
use Rattle.cborn_judge.specs.Flaws.{Within, WithinAll}
use Rattle.cborn_judge.specs.declared.defects.Defect as defect

abbrev pub IsEarliestDefect : Option defect.Defect → Option defect.Defect → Option defect.Defect → Type 0
IsEarliestDefect = IsEarliest (λ d. (d.place, defect_rank d.reason))

-- the head of an array or a map of n entries departs
abbrev pub SizeAt : ℕ → Size → ℕ → ℕ → DefectReason → Type 0
SizeAt q s n p r = (p ≡ q) × SizeDefect s n r

-- the content of a bignum at this place is a byte string of loose bytes
abbrev pub LooseAt : ℕ → ℕ → Tree → ℕ → DefectReason → Type 0
LooseAt q n t p r = (p ≡ q) × (r ≡ LooseBignum) × ((n ≡ 2) ⊎ (n ≡ 3)) × (b : List ℕ) × IsByteString t b × IsLoose b

module _ (order : List ℕ → List ℕ → Ordering) where
  -- the defects of a node, and of some nodes, each by itself
  abbrev pub DefectIn : Tree → ℕ → DefectReason → Type 0
  DefectIn t p r = (q : Tree) × Within q t × DefectAt order q p r

  abbrev pub DefectInAll : Trees → ℕ → DefectReason → Type 0
  DefectInAll ts p r = (q : Tree) × WithinAll q ts × DefectAt order q p r

  -- a key is not above the one before it
  abbrev pub DescentAt : Entries → ℕ → DefectReason → Type 0
  DescentAt es p r = (r ≡ KeyOrder) × HasDescent order es p
