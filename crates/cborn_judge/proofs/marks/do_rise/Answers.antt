use Rattle.std.specs.Prelude.{◌≡◌}
use Rattle.cborn_judge.proofs.Common.{subst, rules, IsAllAdjacentAnswer, always_returns_same, are_bytes, is_above}
use Rattle.cborn_judge.proofs.Encoding.PairsHinted.{none_fall}
use Rattle.cborn_judge.proofs.marks.do_rise.Goals as goal

pub returns : goal.returns
returns g c = λ is.
    let order = g.O.KeyOrder.order in
    let seen = g.S.Spot.seen in
    let hinted = g.S.Spot.hinted in
    let b = c.args.out.now in
    let ss = c.args.spots.now in
    let answer = c.is_sorted_by.ensures.cases (is_above hinted seen order b) (always_returns_same _ _ _ (λ a r f' called. (search rules, search rules))) in
    none_fall seen hinted b order c.requires.0 g.met.O.KeyOrder.laws c.requires.1 (are_bytes b c.type_inv.out) ss c.requires.2 (subst (IsAllAdjacentAnswer (λ x y v. v ≡ is_above hinted seen order b x y) ss) is answer)
