use Rattle.cborn_engine.proofs.Answers.{encoded, flawed}
use Rattle.cborn_engine.proofs.encodings.encode_text.Goals as goal

pub returns-in-Ok-clause-encoded : goal.returns-in-Ok-clause-encoded
returns-in-Ok-clause-encoded g c =
    let read = c.in_ok-hand_text.ensures.nodes in
    encoded c.args.profile c.args.limit c.args.input.now read.1.0 read.0 read.1.2 g.O.KeyOrder.order c.in-Ok.encoded.bytes.items (c.in-Ok.ensures.encoded read.1.0 read.1.1)

pub returns-in-Err-clause-refused : goal.returns-in-Err-clause-refused
returns-in-Err-clause-refused g c =
    let read = c.in_ok-hand_text.ensures.nodes in
    flawed c.args.profile c.args.limit c.args.input.now read.1.0 read.0 read.1.2 c.in-Err.place c.in-Err.reason (c.in-Err.ensures.flawed read.1.0 read.1.1)
