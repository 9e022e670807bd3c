use Rattle.cborn_judge.proofs.Encoding.Finding.{finds_close}
use Rattle.cborn_judge.proofs.Common.{sym, subst, IsEarliestDefect, on_ok}
use Rattle.cborn_judge.proofs.encoders.Encoder.leave_loose.Goals as goal

pub returns : goal.returns
returns g c = record {
  held = on_ok c.leave.result (λ held f o ts flaw found free ends is late h finds.
      let order = g.O.KeyOrder.order in
      let e = c.args.self.now in
      (held order f o ts found free h, finds_close order f o ts e.encodings.innermost.flawed flaw found.flaw e.flaw e.defect found.defect c.keep_earlier.new.first ends h.sound h.flaw h.defect late (subst (λ d. IsEarliestDefect e.defect d c.keep_earlier.new.first) (sym is) c.keep_earlier.ensures) finds)) c.leave.ensures.held;
}
