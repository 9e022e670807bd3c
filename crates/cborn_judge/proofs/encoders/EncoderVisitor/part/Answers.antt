use Rattle.cborn_judge.proofs.Common.{refl, are_bytes}
use Rattle.cborn_judge.proofs.Encoding.Leaves.{written_more}
use Rattle.cborn_judge.proofs.encoders.EncoderVisitor.part.Goals as goal

pub returns-clause-held : goal.returns-clause-held
returns-clause-held g c = λ f p k w n x (s, y, h, is, a, b, d, e, old, finds).
    let bytes = c.args.bytes.now in
    (s, y, h, is, a, b, d, e, written_more g.O.KeyOrder.order c.args.self.now.encodings _ s f y h x bytes old c.in_ok-extend_from_slice.ensures.items refl old.stands (are_bytes bytes c.type_inv.bytes), finds)
