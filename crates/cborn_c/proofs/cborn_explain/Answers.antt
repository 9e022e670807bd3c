use Rattle.std.proofs.Common.{Option, subst}
use Rattle.cborn_engine.specs.declared.kinds.Kind.{Kind}
use Rattle.cborn_c.specs.Calls.{ExplainCall, ExplainsInto}
use Rattle.cborn_c.proofs.cborn_explain.Goals as goal

pub returns : goal.returns
returns c =
    let put : ExplainsInto c.args.out.now c.put_text.new.out c.put_text.new.told c.put_text.result =
    record { answer = c.in-Some-explained.answer; put = c.put_text.ensures } in
    subst (λ (k : Option Kind). ExplainCall k c.args.depth c.args.number c.args.out.now c.put_text.new.out c.args.told.now c.put_text.new.told c.put_text.result) c.in-Some.ensures
    ((λ d e. put), (λ h. absurd (h c.in-Some-new.ensures.0)), (λ h. absurd (h c.in-Some-explained.ensures.some)))
