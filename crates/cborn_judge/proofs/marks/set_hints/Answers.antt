use Rattle.std.specs.Prelude.{◌≡◌}
use Rattle.cborn_judge.proofs.Common.{◌∙◌, sym, subst, arith, AllByRecursion, map-set_same, take_all, take_more_set}
use Rattle.cborn_judge.proofs.Encoding.PairsHinted.{all_more}
use Rattle.cborn_judge.proofs.marks.set_hints.Goals as goal

pub loop-spot-preserved : goal.loop-spot-preserved
loop-spot-preserved g c =
    let ss = c.loop-spot.spots in
    let i = c.loop-spot.spot-index in
    let t = c.set_hint.new.self in (
      map-set_same g.S.Spot.seen ss i t c.spot-item.result c.set_hint.ensures.kept ∙ c.loop-spot.invariant.0,
      subst (AllByRecursion (λ s. g.S.Spot.hinted s ≡ c.args.hint)) (sym (take_more_set ss i t (omega (arith, c.loop-spot-test.true, c.loop-spot.auto.spots)))) (all_more (λ s. g.S.Spot.hinted s ≡ c.args.hint) _ t c.loop-spot.invariant.1 c.set_hint.ensures.set),
    )

pub returns-clause-set : goal.returns-clause-set
returns-clause-set g c = subst (AllByRecursion (λ s. g.S.Spot.hinted s ≡ c.args.hint)) (take_all c.loop-spot.spot-index c.loop-spot.spots (omega (arith, c.loop-spot-test.false))) c.loop-spot.invariant.1
