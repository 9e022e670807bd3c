use Rattle.cborn_judge.proofs.Encoding.PairsHinted.{fall_after}
use Rattle.cborn_judge.proofs.marks.keep_fall.Goals as goal

pub returns-in-Some : goal.returns-in-Some
returns-in-Some g c = rw c.in-Some.is (fall_after g.O.KeyOrder.order c.args.before.now c.args.key.now c.args.place c.in-Some.found c.if-found-place.true)
