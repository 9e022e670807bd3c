use Rattle.cborn_judge.proofs.Common.{arith, drop, marks_of}
use Rattle.cborn_judge.proofs.Encoding.Ends.{few_rise}
use Rattle.cborn_judge.proofs.encoders.EncoderVisitor.close.Goals as goal

pub end_rising-requires-clause-rising : goal.end_rising-requires-clause-rising
end_rising-requires-clause-rising g c =
    let e = c.args.self.now.encodings in
    few_rise g.O.KeyOrder.order e.innermost.content (drop e.innermost.pairs (marks_of e.pairs)) e.out.items (omega (arith, c.count_from.ensures, c.if-count_from-lt2.true))
