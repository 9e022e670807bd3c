use Rattle.std.specs.Prelude.{◌++◌, ◌-◌}
use Rattle.cborn_judge.proofs.Common.{rules, List, [], length, take, drop, map, None, sym, ap, ◌∙◌, subst, arith, drop_all, with_items_is, places, FindsDefect, Mark, FindsDescent, FallsIn, AreHintedBy}
use Rattle.cborn_judge.proofs.Encoding.PairsMet.{descent_found}
use Rattle.cborn_judge.proofs.Encoding.PairsArranged.{rest_marked, none_left, all_kept}
use Rattle.cborn_judge.proofs.marks.descent.Goals as goal

pub returns-then-from-len-clause-found : goal.returns-then-from-len-clause-found
returns-then-from-len-clause-found g c start =
    let order = g.O.KeyOrder.order in
    let none = none_left g.S.Spot.seen c.args.from c.args.spots.now.items (omega (arith, c.len.ensures, c.if-from-len.true)) in
    subst (λ (ms : List Mark). FindsDescent order start ms c.args.out.now None) (sym none) (descent_found order c.args.out.now [] None start (λ p r f. f.1))

pub returns-then-from-len-clause-hinted : goal.returns-then-from-len-clause-hinted
returns-then-from-len-clause-hinted g c =
    let none = drop_all c.args.from c.args.spots.now.items (omega (arith, c.len.ensures, c.if-from-len.true)) in
    ((λ k. 0), (λ k l h i m. absurd (omega arith)), subst (AreHintedBy g.S.Spot.hinted g.S.Spot.seen (λ k. 0) c.args.out.now) (sym none) tt)

pub returns-clause-found : goal.returns-clause-found
returns-clause-found g c start =
    let order = g.O.KeyOrder.order in
    let b = c.args.out.now in
    let o = c.first_fall.result in
    let own = rest_marked g.S.Spot.seen c.args.from c.args.spots.now.items c.deref_mut.result.now c.deref_mut.ensures.value in
    descent_found order b _ o start (subst (λ (ms : List Mark). FindsDefect (FallsIn order b ms) o) own c.first_fall.ensures.found)

pub returns-clause-kept : goal.returns-clause-kept
returns-clause-kept g c =
    let from = c.args.from in
    let xs = c.deref_mut.result.now in
    let rest = c.first_fall.new.spots ++ drop (length xs - from) (drop from xs) in
    let back = with_items_is c.args.spots.now (take from xs ++ rest) (search (rules, places)) in
    all_kept g.S.Spot.seen from (length xs - from) xs c.first_fall.new.spots _ c.first_fall.ensures.kept back ∙ ap (map g.S.Spot.seen) c.deref_mut.ensures.value
