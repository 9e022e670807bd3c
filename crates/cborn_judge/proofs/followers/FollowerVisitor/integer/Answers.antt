use Rattle.cborn_judge.proofs.Common.{integer_tree, rules}
use Rattle.cborn_judge.proofs.Encoding.Leaves.{integer_place}
use Rattle.cborn_judge.proofs.Following.Holding.{leaf_held}
use Rattle.cborn_judge.proofs.Following.Nodes.{integer_own}
use Rattle.cborn_judge.proofs.followers.FollowerVisitor.integer.Goals as goal

pub returns-clause-held : goal.returns-clause-held
returns-clause-held g c f free h =
    let order = g.O.KeyOrder.order in
    let x = g.I.Input.input in
    let a = c.args in
    leaf_held order x a.self.now c.begin.new.self f a.place c.eq.result (integer_tree a.place a._negative a.width a.n) c.begin.ensures h free (integer_place a.place a._negative a.width a.n) (λ e. integer_own order x a.place a._negative a.width a.n c.requires (search rules))
