use Rattle.cborn_wire.proofs.Common.{arith, length-append, length-take-le}
use Rattle.cborn_wire.proofs.Machine.Pieces.{content_done, content_more}
use Rattle.cborn_wire.proofs.Machine.WholeFront.{one_more_finished}
use Rattle.cborn_wire.proofs.Visiting.Taking.{stands_here}
use Rattle.cborn_wire.proofs.head_readers.HeadReader.take_content.Goals as goal

pub returns-in_ok-self-clause-goes : goal.returns-in_ok-self-clause-goes
returns-in_ok-self-clause-goes g c = grind (arith, content_done, length-append, length-take-le, one_more_finished, stands_here)

pub returns-else-self-eq0-clause-goes : goal.returns-else-self-eq0-clause-goes
returns-else-self-eq0-clause-goes g c = grind (arith, content_more, length-append, length-take-le, stands_here)
