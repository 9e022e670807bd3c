use Rattle.cborn_judge.proofs.Following.Holding.{string_held}
use Rattle.cborn_judge.proofs.followers.FollowerVisitor.string.Goals as goal

pub returns-clause-held : goal.returns-clause-held
returns-clause-held g c f proper takes h =
    let a = c.args in
    string_held g.O.KeyOrder.order g.I.Input.input a.self.now c.begin_string.new.self f a.place a.kind a.width a.bytes.now c.begin_string.ensures c.requires h proper
