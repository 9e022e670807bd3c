use Rattle.cborn_edn.proofs.Grammar.OneTree.{larger_limit}
use Rattle.cborn_edn.proofs.laws.larger_limit.Goals as goal

pub returns : goal.returns
returns c = larger_limit
