use Rattle.cborn_engine.proofs.Common.{Kind}
use Rattle.cborn_engine.proofs.Answers.{refusal_refused, refused}
use Rattle.cborn_engine.proofs.showings.notate_bytes.Goals as goal

pub returns-in-Err-clause-unshown : goal.returns-in-Err-clause-unshown
returns-in-Err-clause-unshown c = refused Kind.Wire c.args.out_kind c.args.limit c.args.input.now c.fault_or_refusal.result (refusal_refused c.args.limit c.args.input.now c.fault_or_refusal.result c.fault_or_refusal.ensures)
