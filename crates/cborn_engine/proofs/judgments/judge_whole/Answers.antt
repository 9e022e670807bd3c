use Rattle.std.proofs.lemmas.Result.{IfOk-weaker, IfErr-weaker}
use Rattle.cborn_engine.proofs.Common.{[]}
use Rattle.cborn_engine.proofs.Answers.{refusal_refused}
use Rattle.cborn_engine.proofs.judgments.judge_whole.Goals as goal

pub returns-in-Ok-clause-judged : goal.returns-in-Ok-clause-judged
returns-in-Ok-clause-judged g c = IfOk-weaker c.finish.result _ _ (λ found h. h c.args.limit c.args.input.now (c.in-Ok.ensures c.args.limit [] c.requires)) c.finish.ensures.judged

pub returns-in-Ok-clause-refused : goal.returns-in-Ok-clause-refused
returns-in-Ok-clause-refused g c = IfErr-weaker c.finish.result _ _ (λ why h. h c.args.limit c.args.input.now (c.in-Ok.ensures c.args.limit [] c.requires)) c.finish.ensures.refused

pub returns-in-Err-clause-refused : goal.returns-in-Err-clause-refused
returns-in-Err-clause-refused g c = (refusal_refused c.args.limit c.args.input.now c.fault_or_refusal.result c.fault_or_refusal.ensures).0
