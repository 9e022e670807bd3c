use Rattle.std.specs.Prelude.{◌+◌}
use Rattle.cborn_judge.proofs.Common.{take, drop, subst, IsUtf8, rules}
use Rattle.cborn_judge.proofs.Following.Holding.{pair_held}
use Rattle.cborn_judge.proofs.Following.Nodes.{short_own}
use Rattle.cborn_judge.proofs.followers.FollowerVisitor.pair.Goals as goal

pub returns-clause-taken : goal.returns-clause-taken
returns-clause-taken g c e f k v free at pair h =
    let order = g.O.KeyOrder.order in
    let x = g.I.Input.input in
    let p = c.args.place in
    let n = c.args.pair.key_len in
    let y = c.args.pair.spelled.now in
    pair_held order x c.args.self.now c.take_pair.new.self f p n k v c.take_pair.ensures h at pair.key.placed pair.value.placed
    (short_own order x p (take n y) k pair.key (subst IsUtf8 pair.key_text (c.is_text.ensures.0 (search rules))))
    (short_own order x (p + n) (drop n y) v pair.value (subst IsUtf8 pair.value_text (c.is_text-else-not-is_text.ensures.0 (search rules))))
