use Rattle.cborn_edn.proofs.Common.{arith, append-nil}
use Rattle.cborn_edn.proofs.Notating.{entered_held}
use Rattle.cborn_edn.proofs.notators.NotatorVisitor.open_chunks.Goals.{then-is_none+in_ok-begin, else-is_none}
use Rattle.cborn_edn.proofs.notators.NotatorVisitor.open_chunks.Goals as goal

pub returns-clause-held : goal.returns-clause-held
returns-clause-held c = grind (arith, append-nil, else-is_none, entered_held, then-is_none+in_ok-begin)
