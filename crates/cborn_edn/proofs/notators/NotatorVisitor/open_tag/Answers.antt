use Rattle.std.specs.Prelude.{◌++◌}
use Rattle.cborn_edn.proofs.Common.{refl, sym, ap, ◌∙◌, subst, a_tag, beginning, IsCounted}
use Rattle.cborn_edn.proofs.Notating.{noted, entered_held}
use Rattle.cborn_edn.proofs.notators.NotatorVisitor.open_tag.Goals.{then-is_none+in_ok-begin+in_ok-push_tag, else-is_none}
use Rattle.cborn_edn.proofs.notators.NotatorVisitor.open_tag.Goals as goal

pub returns-clause-held : goal.returns-clause-held
returns-clause-held c =
    let o = a_tag c.args._place c.args.width c.args.n in
    let u = c.if-is_none.self in
    let e = c.enter.ensures in
    elim c.if-is_none.branch [
      | then-is_none+in_ok-begin+in_ok-push_tag w ↦ entered_held c.enter.result c.args.self.now u c.enter.new.self o (λ i. refl) e.next e.around e.bad e.out e.lates (ap (λ v. v.next) w.self-is ∙ w.begin.ensures.next) (ap (λ v. v.around.items) w.self-is ∙ ap (λ a. a.items) w.begin.ensures.around) (ap (λ v. v.bad) w.self-is ∙ w.begin.ensures.bad)
          (λ none. ap (λ v. v.out.items) w.self-is ∙ w.in_ok-push_tag.ensures ∙ ap (λ x. x ++ beginning o) w.in_ok-begin.ensures.out)
          (λ none. subst (IsCounted c.args.self.now.next c.args.self.now.lates.items) (sym (ap (λ v. v.lates.items) w.self-is)) w.in_ok-begin.ensures.lates)
      | else-is_none w ↦
          let none = noted c.args.self.now.bad c.is_none.result c.is_none.ensures w.if-is_none.false in
          entered_held c.enter.result c.args.self.now u c.enter.new.self o (λ i. refl) e.next e.around e.bad e.out e.lates (ap (λ v. v.next) w.self-is) (ap (λ v. v.around.items) w.self-is) (ap (λ v. v.bad) w.self-is) (λ n. absurd (none n)) (λ n. absurd (none n))
    ]
