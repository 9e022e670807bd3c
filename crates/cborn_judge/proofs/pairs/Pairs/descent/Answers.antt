use Rattle.cborn_judge.proofs.Common.{ℕ, List, drop, sym, ap, subst, Mark, FindsDescent, all_marks}
use Rattle.cborn_judge.proofs.pairs.Pairs.descent.Goals as goal

pub returns-in-Narrow-clause-found : goal.returns-in-Narrow-clause-found
returns-in-Narrow-clause-found g c = subst (λ (ms : List Mark). (start : ℕ) → FindsDescent g.O.KeyOrder.order start (drop c.args.from ms) c.args.out.now c.descent.result) (sym (ap all_marks c.in-Narrow.is)) c.descent.ensures.found

pub returns-in-Wide-clause-found : goal.returns-in-Wide-clause-found
returns-in-Wide-clause-found g c = subst (λ (ms : List Mark). (start : ℕ) → FindsDescent g.O.KeyOrder.order start (drop c.args.from ms) c.args.out.now c.descent-in-Wide.result) (sym (ap all_marks c.in-Wide.is)) c.descent-in-Wide.ensures.found
