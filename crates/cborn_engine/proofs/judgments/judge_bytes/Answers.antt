use Rattle.cborn_engine.proofs.Answers.{refusal_refused}
use Rattle.cborn_engine.proofs.judgments.judge_bytes.Goals as goal

pub returns-in-Err-clause-refused : goal.returns-in-Err-clause-refused
returns-in-Err-clause-refused g c = (refusal_refused c.args.limit c.args.input.now c.fault_or_refusal.result c.fault_or_refusal.ensures).0
