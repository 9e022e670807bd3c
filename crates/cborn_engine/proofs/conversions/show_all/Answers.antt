use Rattle.cborn_engine.proofs.Common.{ShowAnswers, most_bytes}
use Rattle.cborn_engine.proofs.CountAnswers.Any.{any_sent}
use Rattle.cborn_engine.proofs.conversions.show_all.Goals as goal

pub of_any-requires : goal.of_any-requires
of_any-requires g c =
    let k = c.args.in_kind in
    any_sent k c.args.limit _ _ _ _ (ShowAnswers k c.args.out_kind c.args.limit most_bytes) c.show_stream.result c.show_stream.ensures.shows
