use Rattle.std.specs.Prelude.{◌≡◌, ◌++◌, ◌-◌}
use Rattle.cborn_judge.proofs.Common.{rules, List, ℕ, length, take, drop, None, ap, ◌∙◌, subst, arith, IfOk, with_items_is, places, joined, FindsFlaw, Row, row_entries, Mark, AreMarked, AreFilled, AreArranged, RowRepeat}
use Rattle.cborn_judge.proofs.Encoding.PairsArranged.{none_repeats, none_arranged, rest_marked, none_left, front_kept}
use Rattle.cborn_judge.proofs.marks.arrange.Goals as goal

pub returns-then-from-len-clause-repeat : goal.returns-then-from-len-clause-repeat
returns-then-from-len-clause-repeat g c y rows s e a p r h =
    let none = none_left g.S.Spot.seen c.args.from c.args.spots.now.items (omega (arith, c.len.ensures, c.if-from-len.true)) in
    none_repeats rows c.args.start p r (subst (AreMarked c.args.start rows) none a) h

pub returns-then-from-len-clause-arranged : goal.returns-then-from-len-clause-arranged
returns-then-from-len-clause-arranged g c q y rows s e a f =
    let none = none_left g.S.Spot.seen c.args.from c.args.spots.now.items (omega (arith, c.len.ensures, c.if-from-len.true)) in
    none_arranged g.O.KeyOrder.order rows c.args.start c.args.out.now.items y (subst (AreMarked c.args.start rows) none a) e

pub returns-clause-repeat : goal.returns-clause-repeat
returns-clause-repeat g c =
    let own = rest_marked g.S.Spot.seen c.args.from c.args.spots.now.items c.deref_mut.result.now c.deref_mut.ensures.value in
    subst (λ (ms : List Mark). IfOk c.arrange_all.result (λ flaw. (y : List ℕ) (rows : List Row) → c.args.start ≡ length y → c.args.out.now.items ≡ y ++ joined (row_entries rows) → AreMarked c.args.start rows ms → FindsFlaw (RowRepeat rows) flaw)) own c.arrange_all.ensures.repeat

pub returns-clause-arranged : goal.returns-clause-arranged
returns-clause-arranged g c =
    let own = rest_marked g.S.Spot.seen c.args.from c.args.spots.now.items c.deref_mut.result.now c.deref_mut.ensures.value in
    subst (λ (ms : List Mark). IfOk c.arrange_all.result (λ flaw. flaw ≡ None → (y : List ℕ) (rows : List Row) → c.args.start ≡ length y → c.args.out.now.items ≡ y ++ joined (row_entries rows) → AreMarked c.args.start rows ms → AreFilled rows → (x : List ℕ) × AreArranged g.O.KeyOrder.order rows x × (c.arrange_all.new.out.items ≡ y ++ x))) own c.arrange_all.ensures.arranged

pub returns-clause-before : goal.returns-clause-before
returns-clause-before g c =
    let from = c.args.from in
    let old = c.args.spots.now.items in
    let xs = c.deref_mut.result.now in
    let rest = c.arrange_all.new.spots ++ drop (length xs - from) (drop from xs) in
    let back = with_items_is c.args.spots.now (take from xs ++ rest) (search (rules, places)) in
    front_kept g.S.Spot.seen from old rest _ (omega (arith, c.len.ensures, c.if-from-len.false)) (back ∙ ap (λ z. take from z ++ rest) c.deref_mut.ensures.value)
