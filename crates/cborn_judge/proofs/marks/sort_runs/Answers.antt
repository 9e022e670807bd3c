use Rattle.std.specs.Prelude.{◌+◌, ◌-◌}
use Rattle.cborn_judge.proofs.Common.{map, get_or, IsPermutation, sym, ap, subst, arith, IsPermutation-trans, AreHintedBy}
use Rattle.cborn_judge.proofs.Encoding.PairsArranged.{part_moved}
use Rattle.cborn_judge.proofs.Encoding.PairsHinted.{one_hint, run_hinted}
use Rattle.cborn_judge.proofs.marks.sort_runs.Goals as goal
use Rattle.cborn_judge.proofs.marks.sort_runs.Goals.{then-start-last, else-start-last}

pub loop-last-preserved : goal.loop-last-preserved
loop-last-preserved g c =
    let seen = g.S.Spot.seen in
    let hinted = g.S.Spot.hinted in
    let b = c.args.out.now in
    let ss = c.loop-last.spots in
    let start = c.loop-last.start in
    let last = c.loop-last.last in
    let long = last + 1 - start in
    let (h, moved, kept, equal) = c.loop-last.invariant in (
      (omega arith),
      elim c.if-start-last.branch [
        | then-start-last w ↦ IsPermutation-trans _ _ _ moved (part_moved seen start long ss w.sort_run.new.spots c.if-start-last.spots w.sort_run.ensures.moved w.spots-is)
        | else-start-last w ↦ subst (λ z. IsPermutation (map seen c.args.spots.now) (map seen z)) (sym w.spots-is) moved
      ],
      (λ hint a. elim c.if-start-last.branch [
        | then-start-last w ↦
            let (n, run) = one_hint hinted start last ss h (omega arith) equal in
            run_hinted seen hinted b hint n start long ss w.sort_run.new.spots c.if-start-last.spots run w.sort_run.ensures.moved (w.sort_run.ensures.hinted n run) w.spots-is (kept hint a)
        | else-start-last w ↦ subst (AreHintedBy hinted seen hint b) (sym w.spots-is) (kept hint a)
      ]),
      (λ j d k l m. ap (λ i. hinted (get_or c.if-start-last.spots i d)) (omega (arith, k, l))),
    )

pub returns-clause-hinted : goal.returns-clause-hinted
returns-clause-hinted g c = λ (hint, tells, a). (hint, tells, c.loop-last.invariant.2 hint a)
