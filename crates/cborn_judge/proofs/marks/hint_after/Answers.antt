use Rattle.cborn_judge.proofs.Common.{◌∙◌, map-set_same}
use Rattle.cborn_judge.proofs.marks.hint_after.Goals as goal

pub loop-spot-preserved : goal.loop-spot-preserved
loop-spot-preserved g c = map-set_same g.S.Spot.seen c.loop-spot.spots c.loop-spot.spot-index c.set_hint.new.self c.spot-item.result c.set_hint.ensures.kept ∙ c.loop-spot.invariant
