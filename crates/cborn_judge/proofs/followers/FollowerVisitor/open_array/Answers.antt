use Rattle.cborn_judge.proofs.Common.{an_array, false, refl}
use Rattle.cborn_judge.proofs.Following.Holding.{counted_fits, entered_held}
use Rattle.cborn_judge.proofs.followers.FollowerVisitor.open_array.Goals as goal

pub returns-clause-held : goal.returns-clause-held
returns-clause-held g c f free h =
    let a = c.args in
    entered_held g.O.KeyOrder.order g.I.Input.input a.self.now c.enter.new.self f a.place c.is_counted.result false (an_array a.place a.size a.count) c.enter.ensures h free refl (λ e. counted_fits a.size a.count (c.is_counted.ensures e) c.requires) tt refl
