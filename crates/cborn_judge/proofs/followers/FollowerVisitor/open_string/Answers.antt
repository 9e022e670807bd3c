use Rattle.cborn_judge.proofs.Common.{WidthFits, subst, sym}
use Rattle.cborn_judge.proofs.Following.Holding.{part_held}
use Rattle.cborn_judge.proofs.followers.FollowerVisitor.open_string.Goals as goal

pub returns-in-Some-clause-held : goal.returns-in-Some-clause-held
returns-in-Some-clause-held g c f proper takes h =
    let a = c.args in
    let content = c.in-Some.ensures in
    part_held g.O.KeyOrder.order g.I.Input.input a.self.now c.begin_string.new.self f a.place a.kind a.width c.in-Some.content.now c.begin_string.ensures (subst (WidthFits a.width) (sym content.0) c.requires) h proper c.head_len.result a.len c.head_len.ensures content.0 content.1
