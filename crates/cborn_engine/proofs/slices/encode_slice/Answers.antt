use Rattle.cborn_engine.proofs.Common.{EncodedWhole, most_bytes}
use Rattle.cborn_engine.proofs.Answers.{short, known_error}
use Rattle.cborn_engine.proofs.slices.encode_slice.Goals as goal

pub returns-in_err-encode_input : goal.returns-in_err-encode_input
returns-in_err-encode_input g c =
    let l = short most_bytes c.args.input.now c.is_too_long.result c.is_too_long.ensures c.if-is_too_long.false in
    known_error (λ r. EncodedWhole g.O.KeyOrder.order c.args.kind c.args.limit c.args.input.now r) _ _ c.from_residual.ensures.1 (c.in_err-encode_input.ensures.refused most_bytes l)
