use Rattle.cborn_engine.proofs.Common.{cow_slice_items}
use Rattle.cborn_engine.proofs.Canonical.Headline.{alike}
use Rattle.cborn_engine.proofs.laws.two_calls.Goals as goal

pub returns-clause-alike : goal.returns-clause-alike
returns-clause-alike g c =
    let m = c.in-Ok in
    let n = c.in-Ok-normalise_slice in
    alike g.O.KeyOrder.order g.met.O.KeyOrder.laws c.args.kind_a c.args.kind_b c.args.out_kind c.args.limit c.args.first.now c.args.second.now (cow_slice_items m.bytes) (cow_slice_items n.bytes) m.ensures.normalised.0.0 n.ensures.normalised.0.0 m.ensures.normalised.0.1 n.ensures.normalised.0.1
