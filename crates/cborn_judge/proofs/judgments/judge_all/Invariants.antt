use Rattle.cborn_judge.proofs.Common.{take, AllZip, Means}
use Rattle.cborn_judge.proofs.judgments.judge_all.Given as goal

abbrev pub invariant-loop-node : goal.invariant-loop-node
invariant-loop-node l = AllZip Means (take l.node-index l.spelled) l.items.items
