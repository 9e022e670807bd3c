use Rattle.cborn_edn.proofs.Common.{ℕ, cond, eqb, arith}
use Rattle.cborn_edn.proofs.Reader.Blocks.{marked, top_if}
use Rattle.cborn_edn.proofs.white_space.bits_of.Goals as goal

pub returns : goal.returns
returns c = marked 32 (omega arith) (λ (a b : ℕ). cond (eqb a b) 255 0) (λ (d : ℕ). eqb d c.args.c) c.args.c c.args.bytes (λ d. top_if (eqb d c.args.c)) c.fits-bytes.0
