use Rattle.cborn_engine.proofs.Common.{CheckAnswers, CountAnswer, most_bytes, Kind}
use Rattle.cborn_engine.proofs.CountAnswers.Judged.{answered}
use Rattle.cborn_engine.proofs.counted_streams.check_stream.Goals as goal

pub returns-clause-checks : goal.returns-clause-checks
returns-clause-checks g c =
    let order = g.O.KeyOrder.order in
    answered order c.args.count Kind.Wire c.args.limit _ (g.R.Source.remaining c.read_input.new.reader) (λ x. CountAnswer c.args.count Kind.Wire c.args.limit x (CheckAnswers order c.args.limit most_bytes x)) c.in_ok-input.input c.defect_of.result c.in_ok-input.ensures.input c.defect_of.ensures.defect
