use Rattle.std.specs.Prelude.{◌≤◌, ◌+◌}
use Rattle.cborn_engine.proofs.Common.{length, drop, arith, length-drop, CollectsOn}
use Rattle.cborn_engine.proofs.Streams.Collecting.{kept, stopped, more}
use Rattle.cborn_engine.proofs.Answers.{known_error}
use Rattle.cborn_engine.proofs.whole_inputs.read_on.Goals as goal

pub returns-in_err-count-clause-collects : goal.returns-in_err-count-clause-collects
returns-in_err-count-clause-collects g c =
    known_error (CollectsOn c.args.front.items c.args.most _ _) _ _ c.from_residual-in_err-count.ensures.1
    (stopped c.args.front.items c.args.most c.pieces.filled _ (g.R.Source.remaining c.pieces.reader) _ c.pieces.bytes.items (drop c.pieces.filled c.read_after.new.bytes.items) c.in_err-count.field-0.0 c.pieces.invariant.filled c.in_err-count.ensures.piece)

pub pieces-preserved : goal.pieces-preserved
pieces-preserved g c =
    let p = c.in_ok-count.ensures.piece in
    let within : c.pieces.filled + c.in_ok-count.count ≤ length c.read_after.new.bytes.items = omega (arith, p.1, length-drop c.pieces.filled c.read_after.new.bytes.items, c.if-count-eq0.false) in
    let start : c.pieces.filled ≤ length c.read_after.new.bytes.items = omega (arith, within) in
    let room : c.pieces.filled ≤ length c.make_room.new.bytes.items = omega (arith, c.in_ok-make_room.ensures.room) in
    let stayed = kept c.args.front.items c.args.most c.pieces.filled (g.R.Source.remaining c.args.reader.now) (g.R.Source.remaining c.pieces.reader) c.pieces.bytes.items c.make_room.new.bytes.items c.pieces.invariant.filled c.in_ok-make_room.ensures.front room in
    record {
      filled = more c.args.front.items c.args.most c.pieces.filled c.in_ok-count.count (g.R.Source.remaining c.args.reader.now) (g.R.Source.remaining c.pieces.reader) _ c.read_after.new.bytes.items
          (kept c.args.front.items c.args.most c.pieces.filled (g.R.Source.remaining c.args.reader.now) (g.R.Source.remaining c.pieces.reader) c.make_room.new.bytes.items c.read_after.new.bytes.items stayed c.in_ok-count.ensures.front start) p within;
      failures = cc (c.in_ok-count.ensures.failures);
      calls = omega (arith, c.pieces.invariant.calls, c.in_ok-count.ensures.calls, c.if-count-eq0.false);
    }
