use Rattle.cborn_judge.proofs.FirstDefect.{conclusive}
use Rattle.cborn_judge.proofs.checks.first_defect.Goals as goal

pub returns-clause-deterministic : goal.returns-clause-deterministic
returns-clause-deterministic g c =
    let m = c.in_ok-encoded.ensures.encoded in
    conclusive g.O.KeyOrder.order g.met.O.KeyOrder.laws c.args.spelled.now m.0 c.in_ok-encoded.encoded.defect c.encode.ensures.fits m.2 m.1 c.in_ok-encoded.ensures.defect
