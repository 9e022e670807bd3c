use Rattle.cborn_edn.proofs.Common.{sym, ap, ◌∙◌, after}
use Rattle.cborn_edn.proofs.Notating.{string_held}
use Rattle.cborn_edn.proofs.notators.NotatorVisitor.close_string.Goals.{in-Some+in_ok-end_string, in_default}
use Rattle.cborn_edn.proofs.notators.NotatorVisitor.close_string.Goals as goal

pub returns-clause-held : goal.returns-clause-held
returns-clause-held c = λ f p k l n x proper takes len held.
    elim c.match-self.branch [
      | in-Some+in_ok-end_string w ↦ string_held c.args.self.now _ f p k l n x w.in-Some.string w.in-Some.is len (c.after-self.ensures ∙ ap (λ v. after v.next) w.self-is ∙ ap after w.end_string.ensures.next)
          (ap (λ v. v.around) w.self-is ∙ w.end_string.ensures.around) (ap (λ v. v.lates) w.self-is ∙ w.end_string.ensures.lates) (ap (λ v. v.bad) w.self-is ∙ w.in_ok-end_string.ensures.bad)
          (λ none. ap (λ v. v.out.items) w.self-is ∙ w.in_ok-end_string.ensures.out (sym (ap (λ v. v.bad) w.self-is) ∙ none)) held
      | in_default w ↦ absurd (let e = held.text.1 in let d = w.in_default.is in cc)
    ]
