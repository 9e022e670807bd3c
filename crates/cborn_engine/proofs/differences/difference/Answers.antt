use Rattle.std.specs.Prelude.{◌≤◌}
use Rattle.std.proofs.lemmas.Grind.{common_steps}
use Rattle.cborn_engine.proofs.Common.{rules, arith, None, Some, Decides-eqb, strip_prefix_is}
use Rattle.cborn_engine.proofs.Comparison.Apart.{at_first, passed, none_of_both, apart_here, equal}
use Rattle.cborn_engine.proofs.differences.difference.Goals as goal

pub returns-then-eq : goal.returns-then-eq
returns-then-eq g c = equal g.O.KeyOrder.order c.args.limit g.met.O.KeyOrder.laws c.requires.ours c.requires.theirs (search rules)

pub items-init : goal.items-init
items-init g c = (at_first g.O.KeyOrder.order c.args.limit c.requires.ours c.requires.theirs (search rules), omega arith)

pub returns : goal.returns
returns g c =
    let low : c.args.limit ≤ 1024 = omega arith in
    let none = c.in_ok-end.ensures.none c.in_default.is in
    apart_here g.O.KeyOrder.order c.args.limit g.met.O.KeyOrder.laws low c.items.invariant.0 (λ t l r e f. none t l e)

pub returns-in_default-strip_prefix : goal.returns-in_default-strip_prefix
returns-in_default-strip_prefix g c =
    let low : c.args.limit ≤ 1024 = omega arith in
    let at = rw c.in-Some.is at c.in_ok-end.ensures.item in
    let never = rw c.split_at.ensures.front at (strip_prefix_is Decides-eqb c.items.right.now c.split_at.result.0.now None c.in_default-strip_prefix.ensures.cases) in
    apart_here g.O.KeyOrder.order c.args.limit g.met.O.KeyOrder.laws low c.items.invariant.0 (none_of_both c.items.left.now c.items.right.now c.in-Some.end at.1 never)

pub items-preserved : goal.items-preserved
items-preserved g c =
    let after = c.in-Some-strip_prefix.after in
    let at = rw c.in-Some.is at c.in_ok-end.ensures.item in
    let begins = rw c.split_at.ensures.front at (strip_prefix_is Decides-eqb c.items.right.now c.split_at.result.0.now (Some after) c.in-Some-strip_prefix.ensures.cases) in
    rw c.split_at.ensures.back (
      passed g.O.KeyOrder.order c.args.limit after.now c.in-Some.end c.items.invariant.0 at.1 begins,
      grind (arith, common_steps),
    )
