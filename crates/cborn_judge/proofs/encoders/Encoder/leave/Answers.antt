use Rattle.cborn_judge.proofs.Encoding.Finding.{finds_close}
use Rattle.cborn_judge.proofs.Common.{sym, subst, defect_rank, IsEarliestDefect, on_ok}
use Rattle.cborn_judge.proofs.Encoding.PairsHinted.{none_first}
use Rattle.cborn_judge.proofs.encoders.Encoder.leave.Goals as goal
use Rattle.cborn_judge.proofs.encoders.Encoder.leave.Goals.{in_default-via-in-Some+else-may_precede, in_default-via-in_default}

pub returns-in-Some : goal.returns-in-Some
returns-in-Some g c = record {
  held = on_ok c.leave_loose.result (λ held f o ts free ends h finds. held f o ts c.args.self.now.flaw c.args.found free ends c.in-Some.is c.keep.ensures h finds) c.leave_loose.ensures.held;
}

pub returns-in_default : goal.returns-in_default
returns-in_default g c = record {
  held = on_ok c.leave.result (λ held f o ts free ends h finds.
      let order = g.O.KeyOrder.order in
      let e = c.args.self.now in
      let found = c.args.found in
      let later : IsEarliestDefect e.defect found.defect e.defect =
      elim c.in_default.branch [
        | in_default-via-in-Some+else-may_precede w ↦ subst (λ d. IsEarliestDefect e.defect d e.defect) (sym w.in-Some.is) (w.may_precede.ensures w.if-may_precede.false)
        | in_default-via-in_default w ↦ subst (λ d. IsEarliestDefect e.defect d e.defect) (sym w.in_default.is) (none_first (λ d. (d.place, defect_rank d.reason)) e.defect)
      ] in
      (held order f o ts found free h, finds_close order f o ts e.encodings.innermost.flawed e.flaw found.flaw c.keep.new.first e.defect found.defect e.defect ends h.sound h.flaw h.defect c.keep.ensures later finds)) c.leave.ensures.held;
}
