-- No two reasons have one number.
use Rattle.std.specs.Prelude.{◌≡◌}
use Rattle.cborn_judge.proofs.Common.{refl, arith, flaw_rank, defect_rank, InvalidReason, NotUtf8, BadBignum, DuplicateKey, DefectReason, LongHead, EndlessLength, LooseBignum, KeyOrder}

pub flaw_rank_once : (r s : InvalidReason) → flaw_rank r ≡ flaw_rank s → r ≡ s
flaw_rank_once NotUtf8 NotUtf8 e = refl
flaw_rank_once BadBignum BadBignum e = refl
flaw_rank_once DuplicateKey DuplicateKey e = refl
flaw_rank_once _ _ e = absurd (omega arith)

pub defect_rank_once : (r s : DefectReason) → defect_rank r ≡ defect_rank s → r ≡ s
defect_rank_once LongHead LongHead e = refl
defect_rank_once EndlessLength EndlessLength e = refl
defect_rank_once LooseBignum LooseBignum e = refl
defect_rank_once KeyOrder KeyOrder e = refl
defect_rank_once _ _ e = absurd (omega arith)
