use Rattle.std.specs.Prelude.{◌≡◌, ◌+◌, ◌-◌}
use Rattle.cborn_engine.proofs.Common.{arith, take, true, is_err, LoadAnswers, Loads, Kind}
use Rattle.cborn_wire.proofs.Feeding.Outcomes.{err_is}
use Rattle.cborn_engine.proofs.Streams.Coming.{halted, goes_on}
use Rattle.cborn_engine.proofs.Streams.Feeding.{IsFedSoFar, read_on, fed_now, ended_badly}
use Rattle.cborn_engine.proofs.Answers.{known_error, unread}
use Rattle.cborn_engine.proofs.inputs.load_bytes.Goals as goal

pub returns-in_err-count-clause-loads : goal.returns-in_err-count-clause-loads
returns-in_err-count-clause-loads g c =
    known_error (Loads Kind.Wire c.args.limit c.args.most _ _) _ _ c.from_residual.ensures.1
    (unread (λ why. why) (LoadAnswers Kind.Wire c.args.limit c.args.most) c.args.most _ _ Kind.Wire c.args.limit c.in_err-count.field-0.0 (λ x r. r)
    (halted c.args.most c.pieces.left _ (g.R.Source.remaining c.pieces.reader) _ _ c.pieces.invariant.so_far c.read_piece.new.buf c.in_err-count.field-0.0 c.in_err-count.ensures.piece))

pub pieces-preserved : goal.pieces-preserved
pieces-preserved g c =
    let left : c.pieces.left - c.in_ok-count.count + c.in_ok-count.count ≡ c.pieces.left = omega (arith, c.in_ok-count.ensures.piece.0) in
    let so_far = rw c.if-not-is_refused.false at c.pieces.invariant.so_far in
    record {
      so_far = rw c.if-not-is_refused.false
          (goes_on c.args.most c.pieces.left _ (g.R.Source.remaining c.pieces.reader) _ _ so_far c.read_piece.new.buf c.in_ok-count.count c.in_ok-count.ensures.piece _ left (λ x. IsFedSoFar c.args.limit x true c.pieces.feeder)
          (read_on c.args.limit so_far.input (take c.in_ok-count.count c.read_piece.new.buf) c.pieces.feeder so_far.known));
      failures = cc (c.in_ok-count.ensures.failures);
      calls = omega (arith, c.pieces.invariant.calls, c.in_ok-count.ensures.calls, c.in_ok-count.ensures.piece.0, c.if-count-eq0.false);
    }

pub pieces-preserved-then-not-is_refused : goal.pieces-preserved-then-not-is_refused
pieces-preserved-then-not-is_refused g c =
    let left : c.pieces.left - c.in_ok-count.count + c.in_ok-count.count ≡ c.pieces.left = omega (arith, c.in_ok-count.ensures.piece.0) in
    let so_far = rw c.if-not-is_refused.true at c.pieces.invariant.so_far in
    record {
      so_far = rw c.is_err-is_refused.ensures.value
          (goes_on c.args.most c.pieces.left _ (g.R.Source.remaining c.pieces.reader) _ _ so_far c.read_piece.new.buf c.in_ok-count.count c.in_ok-count.ensures.piece _ left (λ x. IsFedSoFar c.args.limit x (is_err c.feed.result) c.feed.new.self)
          (fed_now c.args.limit so_far.input (take c.in_ok-count.count c.read_piece.new.buf) c.pieces.feeder c.feed.new.self c.feed.result so_far.known (c.feed.ensures.fed so_far.known.3)));
      failures = cc (c.in_ok-count.ensures.failures);
      calls = omega (arith, c.pieces.invariant.calls, c.in_ok-count.ensures.calls, c.in_ok-count.ensures.piece.0, c.if-count-eq0.false);
    }

pub returns-in_err-finish-clause-loads : goal.returns-in_err-finish-clause-loads
returns-in_err-finish-clause-loads g c =
    known_error (Loads Kind.Wire c.args.limit c.args.most _ _) _ _ c.from_residual-in_err-finish.ensures.1
    (ended_badly c.args.limit c.args.most c.pieces.left _ (g.R.Source.remaining c.pieces.reader) _ c.pieces.is_refused c.pieces.feeder c.pieces.invariant.so_far c.read_piece.new.buf c.in_ok-count.count c.in_ok-count.ensures.piece c.if-count-eq0.true c.in_err-finish.field-0.0
    (λ none. let k = c.in_err-finish.ensures.cut none in (err_is _ _ k.0, k.1)) (λ e some. err_is _ _ (c.in_err-finish.ensures.again e some)))
