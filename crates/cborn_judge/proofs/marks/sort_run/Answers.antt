use Rattle.cborn_judge.proofs.Common.{map, IsPermutation, IsPermutation-map, sym, subst}
use Rattle.cborn_judge.proofs.marks.sort_run.Goals as goal

pub returns-clause-moved : goal.returns-clause-moved
returns-clause-moved g c = subst (λ z. IsPermutation (map g.S.Spot.seen c.args.spots.now) z) (sym c.set_hints.ensures.kept) (subst (λ z. IsPermutation z (map g.S.Spot.seen c.sort_unstable_by.new.self)) c.hint_after.ensures (IsPermutation-map g.S.Spot.seen _ _ c.sort_unstable_by.ensures.permutation))
