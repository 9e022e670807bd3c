use Rattle.cborn_judge.proofs.Common.{Simple, true, refl}
use Rattle.cborn_judge.proofs.Following.Holding.{leaf_held}
use Rattle.cborn_judge.proofs.Following.Nodes.{simple_own}
use Rattle.cborn_judge.proofs.followers.FollowerVisitor.simple.Goals as goal

pub returns-clause-held : goal.returns-clause-held
returns-clause-held g c f free h =
    let order = g.O.KeyOrder.order in
    let x = g.I.Input.input in
    leaf_held order x c.args.self.now c.begin.new.self f c.args.place true (Simple c.args.place c.args._n) c.begin.ensures h free refl (λ e. simple_own order x c.args.place c.args._n c.requires)
