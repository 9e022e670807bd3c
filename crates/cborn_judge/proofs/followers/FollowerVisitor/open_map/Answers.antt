use Rattle.cborn_judge.proofs.Following.Holding.{counted_fits, map_held}
use Rattle.cborn_judge.proofs.followers.FollowerVisitor.open_map.Goals as goal

pub returns-clause-held : goal.returns-clause-held
returns-clause-held g c f free h =
    let a = c.args in
    map_held g.O.KeyOrder.order g.I.Input.input a.self.now c.enter_map.new.self f a.place c.is_counted.result a.size a.count c.enter_map.ensures h free (λ e. counted_fits a.size a.count (c.is_counted.ensures e) c.requires)
