use Rattle.std.specs.Prelude.{◌≡◌}
use Rattle.cborn_wire.proofs.Common.{Truncated}
use Rattle.cborn_wire.proofs.Visiting.Ending.{none_there}
use Rattle.cborn_wire.proofs.readers.read_one.Goals as goal

pub returns-in_default-clause-fault : goal.returns-in_default-clause-fault
returns-in_default-clause-fault c = λ p r said.
    let from = c.args.start in
    let at : from ≡ p = cc in
    let why : Truncated ≡ r = cc in
    rw (← at, ← why) (none_there c.args.limit from c.args.bytes.now (rw c.in_default.is at c.in_ok-end.ensures))
