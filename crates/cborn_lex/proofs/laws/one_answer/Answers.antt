use Rattle.cborn_lex.proofs.Contents.Base64s.{bytes_from}
use Rattle.cborn_lex.proofs.WholeTexts.Chains.{some_answer, not_both, one_list, one_stop}
use Rattle.cborn_lex.proofs.laws.one_answer.Goals as goal

pub returns : goal.returns
returns c = record { some = λ profile text h. some_answer profile text (bytes_from text h); not_both = not_both; one_list = one_list; one_stop = one_stop }
