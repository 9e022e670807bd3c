use Rattle.std.specs.Prelude.{◌≡◌}
use Rattle.cborn_judge.proofs.Common.{map, take, AllByRecursion}
use Rattle.cborn_judge.proofs.marks.set_hints.Given as goal

abbrev pub invariant-loop-spot : goal.invariant-loop-spot
invariant-loop-spot g l = (map g.S.Spot.seen l.spots ≡ map g.S.Spot.seen l.initial.spots) × AllByRecursion (λ s. g.S.Spot.hinted s ≡ l.hint) (take l.spot-index l.spots)
