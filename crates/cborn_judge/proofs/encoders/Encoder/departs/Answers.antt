use Rattle.std.specs.Prelude.{◌≡◌}
use Rattle.cborn_judge.proofs.Common.{rules, ℕ, List, Option, None, Some, refl, subst, Ordering, Tree, trees, top, FindsFlaw, FindsDefect, Finds, DefectInAll, FlawIn}
use Rattle.cborn_judge.specs.declared.defects.Defect.{Defect}
use Rattle.cborn_judge.specs.declared.faults.Flaw.{Flaw}
use Rattle.cborn_judge.proofs.encoders.Encoder.departs.Goals as goal

-- where there is neither a flaw nor a defect, none was found
unfound : (order : List ℕ → List ℕ → Ordering) (ts : List Tree) (bad : Option Flaw) (loose : Option Defect) → Finds order (top ts) bad loose → FindsFlaw (FlawIn (trees ts)) None → FindsDefect (DefectInAll order (trees ts)) None → (bad ≡ None) × (loose ≡ None)
unfound order ts (Some x) loose h sound tidy = absurd (sound x.place x.reason h.0.is)
unfound order ts None (Some y) h sound tidy = absurd (tidy y.place y.reason (h.1 refl).is)
unfound order ts None None h sound tidy = (refl, refl)

pub returns-then-is_some-clause-some : goal.returns-then-is_some-clause-some
returns-then-is_some-clause-some g c said ts held sound tidy =
    let none = (unfound g.O.KeyOrder.order ts c.args.self.now.flaw c.args.self.now.defect held.1 sound tidy).0 in
    search rules

pub returns-else-is_some-clause-none : goal.returns-else-is_some-clause-none
returns-else-is_some-clause-none g c said ts held =
    let sound : c.args.self.now.flaw ≡ None = search rules in
    let tidy : c.args.self.now.defect ≡ None = search rules in
    let (a, b) = held.1 in
    (subst (FindsFlaw (FlawIn (trees ts))) sound a, subst (FindsDefect (DefectInAll g.O.KeyOrder.order (trees ts))) tidy (b sound))

pub returns-else-is_some-clause-some : goal.returns-else-is_some-clause-some
returns-else-is_some-clause-some g c said ts held sound tidy =
    let none = (unfound g.O.KeyOrder.order ts c.args.self.now.flaw c.args.self.now.defect held.1 sound tidy).1 in
    search rules
