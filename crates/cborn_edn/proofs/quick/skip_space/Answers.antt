use Rattle.cborn_lex.specs.Good as good
use Rattle.cborn_edn.proofs.quick.skip_space.Goals as goal

pub returns-else-has_byte_at-clause-white : goal.returns-else-has_byte_at-clause-white
returns-else-has_byte_at-clause-white c = λ profile. good.end _ _
