use Rattle.cborn_lex.proofs.Common.{WhiteSpace, Read}
use Rattle.cborn_lex.proofs.GoodFronts.{taken}
use Rattle.cborn_lex.proofs.GoodBack.{read}
use Rattle.cborn_lex.proofs.laws.good_tokens.Goals as goal

pub returns : goal.returns
returns c = record { white_space = λ profile s z. (λ h. taken profile s z WhiteSpace h, λ h. read profile h); token = λ profile s z k. (λ h. taken profile s z (Read k) h, λ h. read profile h) }
