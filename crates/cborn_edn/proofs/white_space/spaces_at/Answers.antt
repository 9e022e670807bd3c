use Rattle.cborn_edn.proofs.Common.{arith, is_not}
use Rattle.cborn_edn.proofs.Reader.Blocks.{none_found, first_found, spaces_here}
use Rattle.cborn_edn.proofs.white_space.spaces_at.Goals as goal

pub returns-then-found-eq0-clause-white_space : goal.returns-then-found-eq0-clause-white_space
returns-then-found-eq0-clause-white_space c = λ profile. spaces_here profile c.args.text.now 16 c.args.at c.requires (none_found 16 (omega arith) (is_not 32) c.args.text.now c.args.at c.bits_of_others-found.result c.requires c.bits_of_others-found.ensures c.if-found-eq0.true)

pub returns-else-found-eq0-clause-within : goal.returns-else-found-eq0-clause-within
returns-else-found-eq0-clause-within c = (first_found 16 (omega arith) (is_not 32) c.args.text.now c.args.at c.bits_of_others-found.result c.requires c.bits_of_others-found.ensures c.if-found-eq0.false).0

pub returns-else-found-eq0-clause-white_space : goal.returns-else-found-eq0-clause-white_space
returns-else-found-eq0-clause-white_space c = λ profile.
    let found = first_found 16 (omega arith) (is_not 32) c.args.text.now c.args.at c.bits_of_others-found.result c.requires c.bits_of_others-found.ensures c.if-found-eq0.false in
    spaces_here profile c.args.text.now _ c.args.at (omega (arith, c.requires, found.0)) found.1
