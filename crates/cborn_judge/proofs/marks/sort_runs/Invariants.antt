use Rattle.std.specs.Prelude.{◌≤◌}
use Rattle.cborn_judge.proofs.Common.{ℕ, List, map, IsPermutation, AreHintedBy}
use Rattle.cborn_judge.proofs.Encoding.PairsHinted.{AreOfOneHint}
use Rattle.cborn_judge.proofs.marks.sort_runs.Given as goal

abbrev pub invariant-loop-last : goal.invariant-loop-last
invariant-loop-last g l =
    (l.start ≤ l.last) × IsPermutation (map g.S.Spot.seen l.initial.spots) (map g.S.Spot.seen l.spots)
    × ((hint : List ℕ → ℕ) → AreHintedBy g.S.Spot.hinted g.S.Spot.seen hint l.out l.initial.spots → AreHintedBy g.S.Spot.hinted g.S.Spot.seen hint l.out l.spots)
    × AreOfOneHint g.S.Spot.hinted l.start l.last l.spots
