use Rattle.cborn_edn.proofs.Common.{ap, ◌∙◌, sym, subst, Notator, IsEnded}
use Rattle.cborn_edn.proofs.Notating.{noted, end_held}
use Rattle.cborn_edn.proofs.notators.NotatorVisitor.close.Goals.{then-is_none+in_ok-end, else-is_none}
use Rattle.cborn_edn.proofs.notators.NotatorVisitor.close.Goals as goal

pub returns-in-Some-clause-held : goal.returns-in-Some-clause-held
returns-in-Some-clause-held c = λ f o ts free ends held.
    elim c.if-is_none.branch [
      | then-is_none+in_ok-end w ↦ end_held c.args.self.now _ f o ts c.in-Some.around ends (sym (ap (λ v. v.around.items) w.self-is ∙ ap (λ a. a.items) w.end.ensures.around) ∙ c.in-Some.ensures.items) c.after-self.ensures (ap (λ v. v.bad) w.self-is ∙ w.end.ensures.bad)
          (λ none. subst (λ (v : Notator). IsEnded c.args.self.now.next c.args.self.now.lates.items c.args.self.now.out.items v.lates.items v.out.items) (sym w.self-is) w.in_ok-end.ensures.ended) held
      | else-is_none w ↦ end_held c.args.self.now _ f o ts c.in-Some.around ends (sym (ap (λ v. v.around.items) w.self-is) ∙ c.in-Some.ensures.items) c.after-self.ensures (ap (λ v. v.bad) w.self-is)
          (λ none. absurd (noted c.args.self.now.bad c.is_none.result c.is_none.ensures w.if-is_none.false none)) held
    ]
