use Rattle.std.specs.Prelude.{◌+◌}
use Rattle.cborn_det.proofs.Common.{subst, sym, take, [], refl, Appends, Det, DetSeq}
use Rattle.cborn_det.proofs.Steps.{seq_step}
use Rattle.cborn_det.proofs.encoding.encode_all.Goals as goal

pub loop-item-preserved : goal.loop-item-preserved
loop-item-preserved g c =
    let order = g.O.KeyOrder.order in
    let item : Appends (Det order c.item-item.result) c.loop-item.out.items c.push_encoding.new.out.items = subst (λ v. Appends (Det order v) c.loop-item.out.items c.push_encoding.new.out.items) c.item.ensures.same c.in_ok-push_encoding.ensures.added in
    let all = seq_step order c.args.items.now c.loop-item.item-index c.item-item.result [] c.loop-item.out.items c.push_encoding.new.out.items c.loop-item-test.true c.item-item.is (c.loop-item.out.items, c.loop-item.invariant, refl) item in
    subst (DetSeq order (take (c.loop-item.item-index + 1) c.args.items.now)) (sym all.2) all.1
