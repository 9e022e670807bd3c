use Rattle.cborn_judge.proofs.Common.{rules, arith, Means}
use Rattle.cborn_judge.proofs.Loops.{zip-take_more}
use Rattle.cborn_judge.proofs.judgments.judge_all.Goals as goal

pub loop-node-preserved : goal.loop-node-preserved
loop-node-preserved c = zip-take_more Means c.args.spelled.now c.loop-node.node-index c.node-item.result c.loop-node.items.items c.push.new.self.items c.in_ok-item.item (omega arith) c.node-item.is c.loop-node.invariant c.in_ok-item.ensures.meant (search rules)
