use Rattle.std.proofs.Common.{ℕ, Option, Some, Ok, subst}
use Rattle.cborn_engine.specs.declared.kinds.Kind.{Kind}
use Rattle.cborn_c.specs.declared.numbers.KeyOrdering.{KeyOrdering}
use Rattle.cborn_c.specs.Numbers.{numbered_kind, numbered_order}
use Rattle.cborn_engine.specs.declared.counts.Count.TheVariants as counts
use Rattle.cborn_c.specs.Answers.{Matched}
use Rattle.cborn_c.specs.Calls.{ComparisonCall, ComparisonTold, Reports}
use Rattle.cborn_c.proofs.cborn_explain_comparison.Goals as goal

pub returns-in-Ok : goal.returns-in-Ok
returns-in-Ok c =
    let k = c.in-Some.from_a in
    let l = c.in-Some-kind_at.from_b in
    let order = c.in-Some-order_at.order in
    let depth = c.in-Some-new.ensures in
    let Into : ℕ → Type 0 = λ limit. Reports (Matched counts.Any k l limit c.args.first.now c.args.second.now) (λ answer. ComparisonTold answer c.args.out.now c.put_text.new.out c.put_text.new.told c.put_text.result) in
    let into : Into c.in-Some-new.limit = (Ok c.in-Ok.same, c.in-Ok.ensures, record { answer = c.compared_lines-answer.result; put = c.put_text.ensures }) in
    let Told : Option Kind → Option Kind → Option KeyOrdering → Type 0 = λ a b o. ComparisonCall a b o c.args.depth c.args.first.now c.args.second.now c.args.out.now c.put_text.new.out c.args.told.now c.put_text.new.told c.put_text.result in
    subst (λ a. Told a (numbered_kind c.args.from_b) (numbered_order c.args.order)) c.in-Some.ensures
    (subst (λ b. Told (Some k) b (numbered_order c.args.order)) c.in-Some-kind_at.ensures
    (subst (λ o. Told (Some k) (Some l) o) c.in-Some-order_at.ensures (λ d. subst Into depth.1 into, λ h. absurd (h depth.0))))
