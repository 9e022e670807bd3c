use Rattle.cborn_judge.proofs.Common.{map, take, flaw_rank, DuplicateKey, all_keyed, IsTie, last_key}
use Rattle.cborn_judge.proofs.Encoding.PairsMet.{IsMet}
use Rattle.cborn_judge.proofs.marks.first_tie.Given as goal

abbrev pub invariant-loop-spot : goal.invariant-loop-spot
invariant-loop-spot g l = IsMet IsTie last_key flaw_rank (λ f. f.place) (λ f. f.reason) DuplicateKey (all_keyed l.out (map g.S.Spot.seen (take l.spot-index l.spots))) l.before l.first
