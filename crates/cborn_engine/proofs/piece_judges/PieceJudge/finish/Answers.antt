use Rattle.cborn_engine.proofs.Common.{sym, subst, Fault, Truncated, first_refusal, placed_apart}
use Rattle.cborn_engine.proofs.Answers.{found_in_sequence}
use Rattle.cborn_engine.proofs.Streams.Judging.{refused, ended, cut_off}
use Rattle.cborn_engine.proofs.piece_judges.PieceJudge.finish.Goals as goal

pub returns-in-Some-clause-refused : goal.returns-in-Some-clause-refused
returns-in-Some-clause-refused g c limit x h most l = (l, refused g.O.KeyOrder.order c.args.self x limit h (c.in-Some.place, c.in-Some.reason) c.in-Some.is)

pub returns-then-not-is_whole-clause-refused : goal.returns-then-not-is_whole-clause-refused
returns-then-not-is_whole-clause-refused g c limit x h most l =
    (l, subst (λ k. Fault limit x k Truncated) (sym c.at-place.ensures) (cut_off g.O.KeyOrder.order c.args.self x limit h c.in_default.is (c.is_whole.ensures.cut c.if-not-is_whole.true)))

pub returns-in-Ok-clause-judged : goal.returns-in-Ok-clause-judged
returns-in-Ok-clause-judged g c limit x h =
    let order = g.O.KeyOrder.order in
    let (ts, held, read, placed) = ended order c.args.self x limit h c.in_default.is (c.is_whole.ensures.whole c.if-not-is_whole.false) in
    let e = c.in-Ok.ensures.encoded ts held in
    record {
      nodes = ts;
      items = e.0;
      read = read;
      placed = placed;
      meant = e.1;
      encoded = e.3;
      found = found_in_sequence order ts e.0 c.in-Ok.encoded.defect e.1 (c.in-Ok.ensures.defect ts held);
    }

pub returns-clause-refused : goal.returns-clause-refused
returns-clause-refused g c limit x h most l =
    let (ts, held, read, placed) = ended g.O.KeyOrder.order c.args.self x limit h c.in_default.is (c.is_whole.ensures.whole c.if-not-is_whole.false) in
    (l, record { nodes = ts; spelled = (read, placed); flaw = first_refusal ts c.in-Err.place c.in-Err.reason (placed_apart ts 0 placed) (c.in-Err.ensures.flawed ts held) })
