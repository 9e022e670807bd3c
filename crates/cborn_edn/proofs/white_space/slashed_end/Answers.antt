use Rattle.cborn_edn.proofs.Common.{arith, length-drop, get_or-drop}
use Rattle.cborn_edn.proofs.Reader.CommonTokens.{comment_here}
use Rattle.cborn_edn.proofs.white_space.slashed_end.Goals as goal

pub returns-then-len-lt32-clause-white_space : goal.returns-then-len-lt32-clause-white_space
returns-then-len-lt32-clause-white_space c = grind (arith, comment_here, get_or-drop, length-drop)
