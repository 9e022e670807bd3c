use Rattle.std.specs.Prelude.{◌≡◌, ◌++◌}
use Rattle.cborn_judge.proofs.Common.{map, drop, flat_map, pair_of}
use Rattle.cborn_judge.proofs.marks.copy_pairs.Given as goal

abbrev pub invariant-loop-spot : goal.invariant-loop-spot
invariant-loop-spot g l = l.copy.items ++ flat_map (pair_of l.out) (map g.S.Spot.seen (drop l.spot-index l.spots)) ≡ l.initial.copy.items ++ flat_map (pair_of l.out) (map g.S.Spot.seen l.spots)
