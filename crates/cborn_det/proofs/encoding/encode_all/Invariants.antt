use Rattle.cborn_det.proofs.Common.{take, DetSeq}
use Rattle.cborn_det.proofs.encoding.encode_all.Given as goal

-- the items so far
abbrev pub invariant-loop-item : goal.invariant-loop-item
invariant-loop-item g l = DetSeq g.O.KeyOrder.order (take l.item-index l.items) l.out.items
