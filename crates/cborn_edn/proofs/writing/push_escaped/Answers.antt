use Rattle.cborn_edn.proofs.Common.{arith}
use Rattle.cborn_edn.proofs.Shown.Escapes.{run_on, escape_on}
use Rattle.cborn_edn.proofs.writing.push_escaped.Goals.{then-is_escaped+in_ok-extend_from_slice+in_ok-push_escape, else-is_escaped}
use Rattle.cborn_edn.proofs.writing.push_escaped.Goals as goal

pub loop-i-preserved : goal.loop-i-preserved
loop-i-preserved c = grind (arith, else-is_escaped, escape_on, run_on, then-is_escaped+in_ok-extend_from_slice+in_ok-push_escape)
