use Rattle.cborn_engine.proofs.Common.{CheckAnswers, most_bytes, Kind}
use Rattle.cborn_engine.proofs.CountAnswers.Any.{any_of}
use Rattle.cborn_engine.proofs.checks.check.Goals as goal

pub of_any-requires : goal.of_any-requires
of_any-requires g c = any_of Kind.Wire c.args.limit _ _ (CheckAnswers g.O.KeyOrder.order c.args.limit most_bytes) c.check_stream.result c.check_stream.ensures.checks
