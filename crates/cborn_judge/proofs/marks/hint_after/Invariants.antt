use Rattle.std.specs.Prelude.{◌≡◌}
use Rattle.cborn_judge.proofs.Common.{map}
use Rattle.cborn_judge.proofs.marks.hint_after.Given as goal

abbrev pub invariant-loop-spot : goal.invariant-loop-spot
invariant-loop-spot g l = map g.S.Spot.seen l.spots ≡ map g.S.Spot.seen l.initial.spots
