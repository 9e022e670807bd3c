use Rattle.cborn_engine.proofs.Common.{sym, subst, CompareCountFault, AreRefusedWhole}
use Rattle.cborn_engine.proofs.CountAnswers.Answered.{taken, second_refused}
use Rattle.cborn_engine.proofs.slices.encode_both.Goals as goal

pub returns-in-Err-encode_counted-clause-refused : goal.returns-in-Err-encode_counted-clause-refused
returns-in-Err-encode_counted-clause-refused g c =
    let a = c.in-Ok.ensures in
    subst (λ (w : CompareCountFault). AreRefusedWhole c.args.count c.args.kind_a c.args.kind_b c.args.limit c.args.first.now c.args.second.now w) (sym c.of_second.ensures)
    (second_refused g.O.KeyOrder.order c.args.count c.args.kind_a c.args.kind_b c.args.limit c.args.first.now c.args.second.now c.in-Err-encode_counted.why (taken c.args.count c.args.kind_a c.args.limit c.args.first.now a.0.1.items a.0.0 a.0.1.held a.1) c.in-Err-encode_counted.ensures)

pub returns-clause-taken : goal.returns-clause-taken
returns-clause-taken g c =
    let a = c.in-Ok.ensures in
    let b = c.in-Ok-encode_counted.ensures in
    (taken c.args.count c.args.kind_a c.args.limit c.args.first.now a.0.1.items a.0.0 a.0.1.held a.1, taken c.args.count c.args.kind_b c.args.limit c.args.second.now b.0.1.items b.0.0 b.0.1.held b.1)
