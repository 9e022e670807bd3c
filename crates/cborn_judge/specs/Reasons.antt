-- The numbers of the reasons of flaws and of defects.
use Rattle.cborn_judge.specs.Common.{ℕ, InvalidReason, NotUtf8, BadBignum, DuplicateKey, DefectReason, LongHead, EndlessLength, LooseBignum, KeyOrder}

abbrev pub flaw_rank : InvalidReason → ℕ
flaw_rank NotUtf8 = 1
flaw_rank BadBignum = 2
flaw_rank DuplicateKey = 3

abbrev pub defect_rank : DefectReason → ℕ
defect_rank LongHead = 1
defect_rank EndlessLength = 2
defect_rank LooseBignum = 3
defect_rank KeyOrder = 4
