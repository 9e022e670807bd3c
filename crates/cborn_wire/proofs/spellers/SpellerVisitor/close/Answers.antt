use Rattle.cborn_wire.proofs.Common.{ap, arith, built}
use Rattle.cborn_wire.proofs.Standing.{container_left}
use Rattle.cborn_wire.proofs.spellers.SpellerVisitor.close.Goals as goal

pub returns-in_ok-end-clause-held : goal.returns-in_ok-end-clause-held
returns-in_ok-end-clause-held c = λ f o ts free ends h.
    c.count.ensures f (built o ts) (container_left c.args.self.now c.leave.new.self c.leave.result c.in-Some.ended f o ts c.end.new.out.items ends (omega (arith, c.args.self.now.out.ok.0, c.args.self.now.out.small)) (ap (λ v. v.items) c.leave.ensures.out) c.in-Some.is c.leave.ensures.innermost c.in_ok-end.ensures h)
