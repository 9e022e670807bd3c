use Rattle.cborn_lex.proofs.Common.{[], front_view}
use Rattle.cborn_lex.proofs.Decimals.{digit_first}
use Rattle.cborn_lex.proofs.integers.number_from_digit.Goals as goal

pub overflow_sub-result : goal.overflow_sub-result
overflow_sub-result c = (digit_first c.number_at-front.result.1 c.args.text.now c.args.tail.now (front_view c.number_at-front.new.number [] c.number_at-front.result.0) c.requires.some c.requires.tail c.requires.least c.requires.most c.number_at-front.ensures.reads).0

pub returns-clause-reads : goal.returns-clause-reads
returns-clause-reads c = (digit_first c.number_at-front.result.1 c.args.text.now c.args.tail.now (front_view c.number_at-front.new.number [] c.number_at-front.result.0) c.requires.some c.requires.tail c.requires.least c.requires.most c.number_at-front.ensures.reads).1
