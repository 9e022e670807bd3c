use Rattle.cborn_judge.proofs.Common.{a_tag, refl, rules}
use Rattle.cborn_judge.proofs.Following.Holding.{entered_held, short_tag}
use Rattle.cborn_judge.proofs.followers.FollowerVisitor.open_tag.Goals as goal

pub returns-clause-held : goal.returns-clause-held
returns-clause-held g c f free h =
    let a = c.args in
    entered_held g.O.KeyOrder.order g.I.Input.input a.self.now c.enter.new.self f a.place c.eq.result c.is_bignum.result (a_tag a.place a.width a.n) c.enter.ensures h free refl (λ e. short_tag a.width a.n c.requires (search rules)) tt c.is_bignum.ensures
