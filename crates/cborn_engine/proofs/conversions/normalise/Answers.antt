use Rattle.cborn_engine.proofs.Common.{FormAnswers, most_bytes}
use Rattle.cborn_engine.proofs.CountAnswers.Any.{any_sent}
use Rattle.cborn_engine.proofs.conversions.normalise.Goals as goal

pub of_any-requires : goal.of_any-requires
of_any-requires g c =
    let k = c.args.in_kind in
    any_sent k c.args.limit _ _ _ _ (FormAnswers g.O.KeyOrder.order k c.args.out_kind c.args.limit most_bytes) c.normalise_stream.result c.normalise_stream.ensures.normalises
