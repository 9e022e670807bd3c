use Rattle.cborn_wire.proofs.Common.{sym, subst, no_part}
use Rattle.cborn_wire.proofs.Visiting.Runs.{one_taken}
use Rattle.cborn_wire.proofs.leaves.take_run.Goals as goal

pub returns-clause-taken : goal.returns-clause-taken
returns-clause-taken g c =
    one_taken c.args.place (g.V.Visitor.holds c.args.visitor.now) (g.V.Visitor.holds c.visit_leaf.new.visitor) c.args.bytes.now c.args.leaf.head c.args.leaf.end c.args.level c.requires
    (λ f free held. c.in_ok-visit_leaf.ensures.held f free (subst (λ v. g.V.Visitor.holds v f no_part) (sym (rw c.in_default.is at c.in_ok-taken.ensures.taken)) held))
