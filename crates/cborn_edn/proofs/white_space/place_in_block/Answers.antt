use Rattle.cborn_edn.proofs.Common.{ℕ, eqb, arith, eqb-true}
use Rattle.cborn_edn.proofs.Reader.Blocks.{none_found, first_found, first_marked}
use Rattle.cborn_edn.proofs.white_space.place_in_block.Goals as goal

pub returns-then-found-eq0-clause-before : goal.returns-then-found-eq0-clause-before
returns-then-found-eq0-clause-before c = none_found 32 (omega arith) (λ (d : ℕ). eqb d c.args.c) c.args.text.now c.args.at c.bits_of-found.result c.requires c.bits_of-found.ensures c.if-found-eq0.true

pub returns-else-found-eq0-clause-within : goal.returns-else-found-eq0-clause-within
returns-else-found-eq0-clause-within c = (first_found 32 (omega arith) (λ (d : ℕ). eqb d c.args.c) c.args.text.now c.args.at c.bits_of-found.result c.requires c.bits_of-found.ensures c.if-found-eq0.false).0

pub returns-else-found-eq0-clause-before : goal.returns-else-found-eq0-clause-before
returns-else-found-eq0-clause-before c = (first_found 32 (omega arith) (λ (d : ℕ). eqb d c.args.c) c.args.text.now c.args.at c.bits_of-found.result c.requires c.bits_of-found.ensures c.if-found-eq0.false).1

pub returns-else-found-eq0-clause-found : goal.returns-else-found-eq0-clause-found
returns-else-found-eq0-clause-found c = λ l. eqb-true _ c.args.c (first_marked 32 (omega arith) (λ (d : ℕ). eqb d c.args.c) c.args.text.now c.args.at c.bits_of-found.result c.requires c.bits_of-found.ensures c.if-found-eq0.false l)
