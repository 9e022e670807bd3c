use Rattle.cborn_edn.proofs.Grammar.OneTree.{not_both, not_two}
use Rattle.cborn_edn.proofs.Grammar.Parser.{answered}
use Rattle.cborn_edn.proofs.laws.one_answer.Goals as goal

pub returns : goal.returns
returns c = record { some = answered; not_both = not_both; not_two = λ p limit end x. not_two p limit x end }
