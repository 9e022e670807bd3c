use Rattle.cborn_judge.proofs.Common.{hint_of}
use Rattle.cborn_judge.proofs.Encoding.PairsHinted.{FallsPassed}
use Rattle.cborn_judge.proofs.marks.first_fall.Given as goal

abbrev pub invariant-loop-spot : goal.invariant-loop-spot
invariant-loop-spot g l = FallsPassed g.S.Spot.seen g.S.Spot.hinted l.out g.O.KeyOrder.order (hint_of l.known) l.initial.spots l.spots l.spot-index l.before l.last l.first
