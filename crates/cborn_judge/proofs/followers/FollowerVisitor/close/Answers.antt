use Rattle.cborn_judge.proofs.Following.Holding.{closed_held}
use Rattle.cborn_judge.proofs.followers.FollowerVisitor.close.Goals as goal

pub returns-clause-held : goal.returns-clause-held
returns-clause-held g c f o ts free ends h = closed_held g.O.KeyOrder.order g.I.Input.input c.args.self.now c.leave.new.self f g.met.O.KeyOrder.laws o ts c.leave.ensures h ends
