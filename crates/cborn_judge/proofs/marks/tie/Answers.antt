use Rattle.std.specs.Prelude.{◌==◌}
use Rattle.cborn_judge.proofs.Common.{ℕ, List, inr, length, refl, sym, ap, ◌∙◌, true≢false, arith, not-true, not-false, flaw_rank}
use Rattle.std.proofs.lemmas.Slice.Eq.{bytes_eq-Decides}
use Rattle.cborn_judge.proofs.marks.tie.Goals as goal

pub returns-then-ne : goal.returns-then-ne
returns-then-ne c p r t =
    let same = (bytes_eq-Decides c.args.before.now c.args.key.now).1 t.1.1 in
    true≢false (sym same ∙ not-true _ (sym c.ne.ensures ∙ c.if-ne.true))

pub returns : goal.returns
returns c =
    let same = (bytes_eq-Decides c.args.before.now c.args.key.now).0 (not-false _ (sym c.ne.ensures ∙ c.if-ne.false)) in
    record {
      is = (refl, ((λ e. true≢false (sym (ap (λ (z : List ℕ). length z == 0) e) ∙ sym c.is_empty.ensures ∙ c.if-is_empty.false)), same, refl));
      first = λ q s h. inr (sym h.1.2, (let e = ap flaw_rank h.0 in omega arith));
    }
