use Rattle.cborn_judge.proofs.Common.{subst, top, FlawAt, FindsFlaw, Amid}
use Rattle.cborn_judge.proofs.Encoding.Finding.{sound}
use Rattle.cborn_judge.proofs.encoders.Encoder.finish.Goals as goal

pub returns-clause-encoded : goal.returns-clause-encoded
returns-clause-encoded g c = λ ts held. held.0.4 (sound g.O.KeyOrder.order c.args.self.encodings.innermost.flawed ts held.0.3 (subst (FindsFlaw (Amid FlawAt (top ts))) c.in_default.is held.1.0))
