use Rattle.cborn_engine.proofs.Common.{CountAnswer, EncodeAnswers, most_bytes}
use Rattle.cborn_engine.proofs.CountAnswers.Judged.{answered}
use Rattle.cborn_engine.proofs.counted_streams.read_counted.Goals as goal

pub returns-clause-reads : goal.returns-clause-reads
returns-clause-reads g c =
    let order = g.O.KeyOrder.order in
    let k = c.args.kind in
    answered order c.args.count k c.args.limit _ (g.R.Source.remaining c.read_input.new.reader) (λ x. CountAnswer c.args.count k c.args.limit x (EncodeAnswers order k c.args.limit most_bytes x)) c.in_ok-input.input c.encodings_of.result c.in_ok-input.ensures.input c.encodings_of.ensures.encodings
