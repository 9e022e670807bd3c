use Rattle.std.specs.Prelude.{◌++◌}
use Rattle.cborn_edn.proofs.Common.{sym, ap, ◌∙◌, subst, Simple, shown, after, IsCounted}
use Rattle.cborn_edn.proofs.Notating.{noted, put_held}
use Rattle.cborn_edn.proofs.notators.NotatorVisitor.simple.Goals.{then-is_none+in_ok-begin+in_ok-push_simple, else-is_none}
use Rattle.cborn_edn.proofs.notators.NotatorVisitor.simple.Goals as goal

pub returns-clause-held : goal.returns-clause-held
returns-clause-held c = λ f free held.
    let t = Simple c.args._place c.args.n in
    elim c.if-is_none.branch [
      | then-is_none+in_ok-begin+in_ok-push_simple w ↦ put_held c.args.self.now _ f t (λ p b. b) (c.after-self.ensures ∙ ap (λ v. after v.next) w.self-is ∙ ap after w.begin.ensures.next) (ap (λ v. v.around) w.self-is ∙ w.begin.ensures.around) (ap (λ v. v.bad) w.self-is ∙ w.begin.ensures.bad)
          (λ none. subst (IsCounted c.args.self.now.next c.args.self.now.lates.items) (sym (ap (λ v. v.lates.items) w.self-is)) w.in_ok-begin.ensures.lates)
          (λ none. ap (λ v. v.out.items) w.self-is ∙ w.in_ok-push_simple.ensures ∙ ap (λ o. o ++ shown t) w.in_ok-begin.ensures.out) held
      | else-is_none w ↦
          let none = noted c.args.self.now.bad c.is_none.result c.is_none.ensures w.if-is_none.false in
          put_held c.args.self.now _ f t (λ p b. b) (c.after-self.ensures ∙ ap (λ v. after v.next) w.self-is) (ap (λ v. v.around) w.self-is) (ap (λ v. v.bad) w.self-is) (λ e. absurd (none e)) (λ e. absurd (none e)) held
    ]
