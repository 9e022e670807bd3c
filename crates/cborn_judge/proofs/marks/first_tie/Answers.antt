use Rattle.cborn_judge.proofs.Common.{flaw_rank, DuplicateKey, mark_of, IsTie, last_key}
use Rattle.cborn_judge.proofs.Encoding.PairsMet.{met-take_more}
use Rattle.cborn_judge.proofs.marks.first_tie.Goals as goal

pub loop-spot-preserved : goal.loop-spot-preserved
loop-spot-preserved g c =
    met-take_more IsTie last_key flaw_rank (λ f. f.place) (λ f. f.reason) DuplicateKey g.S.Spot.seen c.args.out.now c.args.spots.now c.loop-spot.spot-index c.spot-item.result (mark_of c.mark-mark.result) c.loop-spot.before.now c.key_in-key.result.now c.loop-spot.first c.tie.result c.earliest-first.result
    c.loop-spot-test.true c.spot-item.is c.mark-mark.ensures c.key_in-key.ensures c.loop-spot.invariant c.tie.ensures c.earliest-first.ensures
