use Rattle.cborn_edn.proofs.Common.{ℕ, cond, eqb, not, arith, is_not}
use Rattle.cborn_edn.proofs.Reader.Blocks.{marked, top_if}
use Rattle.cborn_edn.proofs.white_space.bits_of_others.Goals as goal

pub returns : goal.returns
returns c = marked 16 (omega arith) (λ (a b : ℕ). cond (not (eqb a b)) 255 0) (is_not c.args.c) c.args.c c.args.bytes (λ d. top_if (not (eqb d c.args.c))) c.fits-bytes.0
