use Rattle.cborn_judge.proofs.Common.{ap, is_lt, rules, always_returns_same, mark_order, IsPermutation-map, IsPermutation-trans}
use Rattle.cborn_judge.proofs.Encoding.PairsArranged.{mark_ranks, marks_sorted, sorted_apart, risen}
use Rattle.cborn_judge.proofs.Encoding.PairsHinted.{hinted_moved}
use Rattle.cborn_judge.proofs.marks.sort_apart.Goals as goal

pub do_rise-requires : goal.do_rise-requires
do_rise-requires g c = hinted_moved g.S.Spot.seen g.S.Spot.hinted c.args.out.now g.O.KeyOrder.order _ _ c.sort_unstable_by_key.ensures.permutation c.requires

pub do_rise-requires-2 : goal.do_rise-requires-2
do_rise-requires-2 g c = c.sort_runs.ensures.hinted (hinted_moved g.S.Spot.seen g.S.Spot.hinted c.args.out.now g.O.KeyOrder.order _ _ c.sort_unstable_by_key.ensures.permutation c.requires)

pub returns-then-do_rise : goal.returns-then-do_rise
returns-then-do_rise g c y rows e a =
    risen g.O.KeyOrder.order g.met.O.KeyOrder.laws c.args.out.now y rows _ _ (record { stand = e; marked = a; moved = IsPermutation-map g.S.Spot.seen _ _ c.sort_unstable_by_key.ensures.permutation }) (c.do_rise.ensures c.if-do_rise.true)

pub returns-then-do_rise-2 : goal.returns-then-do_rise-2
returns-then-do_rise-2 g c y rows e a =
    let moved = IsPermutation-trans _ _ _ (IsPermutation-map g.S.Spot.seen _ _ c.sort_unstable_by_key.ensures.permutation) c.sort_runs.ensures.moved in
    risen g.O.KeyOrder.order g.met.O.KeyOrder.laws c.args.out.now y rows _ _ (record { stand = e; marked = a; moved = moved }) (c.do_rise-2.ensures c.if-do_rise-2.true)

pub returns : goal.returns
returns g c y rows e a =
    let order = g.O.KeyOrder.order in
    let laws = g.met.O.KeyOrder.laws in
    let b = c.args.out.now in
    let seen = g.S.Spot.seen in
    let sorted = marks_sorted order laws b seen c.sort_unstable_by.new.self (c.sort_unstable_by.ensures.sorted (λ x y. is_lt (mark_order order b (seen x) (seen y))) (mark_ranks order laws b seen) (always_returns_same _ _ _ (λ a r f' called. (ap is_lt (search rules), search rules)))) in
    let moved = IsPermutation-trans _ _ _ (IsPermutation-trans _ _ _ (IsPermutation-map seen _ _ c.sort_unstable_by_key.ensures.permutation) c.sort_runs.ensures.moved) (IsPermutation-map seen _ _ c.sort_unstable_by.ensures.permutation) in
    sorted_apart order laws b y rows _ _ (record { stand = e; marked = a; moved = moved }) sorted c.first_tie.result c.first_tie.ensures
