use Rattle.cborn_lex.proofs.Common.{arith}
use Rattle.cborn_lex.proofs.Runs.{none_found, first_found, first_stops}
use Rattle.cborn_lex.proofs.letters.run_of_block.Goals as goal

pub returns-then-found-eq0-clause-plain : goal.returns-then-found-eq0-clause-plain
returns-then-found-eq0-clause-plain c = none_found 16 c.args.quote c.args.tail.now c.args.at c.special_letters-found.result (omega arith) c.requires c.special_letters-found.ensures c.if-found-eq0.true

pub returns-else-found-eq0-clause-within : goal.returns-else-found-eq0-clause-within
returns-else-found-eq0-clause-within c = (first_found 16 c.args.quote c.args.tail.now c.args.at c.special_letters-found.result (omega arith) c.requires c.special_letters-found.ensures c.if-found-eq0.false).0

pub returns-else-found-eq0-clause-plain : goal.returns-else-found-eq0-clause-plain
returns-else-found-eq0-clause-plain c = (first_found 16 c.args.quote c.args.tail.now c.args.at c.special_letters-found.result (omega arith) c.requires c.special_letters-found.ensures c.if-found-eq0.false).1

pub returns-else-found-eq0-clause-ends : goal.returns-else-found-eq0-clause-ends
returns-else-found-eq0-clause-ends c = first_stops 16 c.args.quote c.args.tail.now c.args.at c.special_letters-found.result (omega arith) c.requires c.special_letters-found.ensures c.if-found-eq0.false
