use Rattle.cborn_judge.proofs.Following.Holding.{items_held}
use Rattle.cborn_judge.proofs.Following.Nodes.{integers_own}
use Rattle.cborn_judge.proofs.followers.FollowerVisitor.integers.Goals as goal

pub returns-clause-taken : goal.returns-clause-taken
returns-clause-taken g c e f ts free at short many h =
    let order = g.O.KeyOrder.order in
    let x = g.I.Input.input in
    items_held order x c.args.self.now c.args.self.now f ts h at (integers_own order x c.args._place c.args._spelled.now ts short)
