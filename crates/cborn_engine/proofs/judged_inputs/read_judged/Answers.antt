use Rattle.std.specs.Prelude.{◌≡◌, ◌+◌, ◌-◌, ◌++◌}
use Rattle.cborn_engine.proofs.Common.{length, take, sym, ap, ◌∙◌, subst, arith, length-take-le, most_bytes, read_failures, Count, Kind, IsHeld, ReadsInput, IsJudging}
use Rattle.cborn_engine.proofs.Answers.{known_error}
use Rattle.cborn_engine.proofs.Streams.Coming.{halted, read_now, within_now, goes_on}
use Rattle.cborn_engine.proofs.Streams.Judging.{unread_input, refused_memory, judged, refused_whole, kept_whole, quiet}
use Rattle.cborn_engine.proofs.judged_inputs.read_judged.Goals as goal

pub returns-in_err-count-clause-input : goal.returns-in_err-count-clause-input
returns-in_err-count-clause-input g c =
    known_error (ReadsInput g.O.KeyOrder.order Count.Any Kind.Wire c.args.limit _ _) _ _ c.from_residual-in_err-count.ensures.1
    (unread_input g.O.KeyOrder.order c.args.limit _ _ c.in_err-count.field-0.0 (halted most_bytes c.pieces.left _ (g.R.Source.remaining c.pieces.reader) _ _ c.pieces.invariant.so_far c.read_after.new.bytes.items c.in_err-count.field-0.0 c.in_err-count.ensures.piece))

pub returns-in_err-finish-clause-input : goal.returns-in_err-finish-clause-input
returns-in_err-finish-clause-input g c =
    let s = c.pieces.invariant.so_far in
    known_error (ReadsInput g.O.KeyOrder.order Count.Any Kind.Wire c.args.limit _ _) _ _ c.from_residual-in_err-finish.ensures.1
    (refused_whole g.O.KeyOrder.order c.args.limit c.pieces.left _ (g.R.Source.remaining c.pieces.reader) _ c.pieces.judge s c.read_after.new.bytes.items c.in_ok-count.count c.in_ok-count.ensures.piece c.if-count-eq0.true c.in_err-finish.field-0.0
    (c.in_err-finish.ensures.refused c.args.limit s.input s.known))

pub returns-in_err-finish-clause-failures : goal.returns-in_err-finish-clause-failures
returns-in_err-finish-clause-failures g c =
    let s = c.pieces.invariant.so_far in
    let why = c.in_err-finish.field-0.0 in
    known_error (λ r. g.R.Source.failed c.read_after.new.reader ≡ read_failures r (g.R.Source.failed c.args.reader.now)) _ _ c.from_residual-in_err-finish.ensures.1
    (c.in_ok-count.ensures.failures ∙ c.pieces.invariant.failures ∙ sym (quiet c.args.limit s.input why _ (c.in_err-finish.ensures.refused c.args.limit s.input s.known)))

pub returns-then-count-eq0-clause-input : goal.returns-then-count-eq0-clause-input
returns-then-count-eq0-clause-input g c =
    let s = c.pieces.invariant.so_far in
    judged g.O.KeyOrder.order c.args.limit c.pieces.left _ (g.R.Source.remaining c.pieces.reader) _ c.pieces.judge s c.read_after.new.bytes.items c.in_ok-count.count c.in_ok-count.ensures.piece c.if-count-eq0.true c.in_ok-finish.field-0
    (c.in_ok-finish.ensures.judged c.args.limit s.input s.known)

pub take-requires : goal.take-requires
take-requires g c =
    let s = c.pieces.invariant.so_far in
    let n = c.in_ok-count.count in
    let same : c.deref.result.now ≡ c.read_after.new.bytes.items = c.deref.ensures.value in
    (c.args.limit, s.input, s.known, omega (arith, s.count, c.in_ok-count.ensures.piece.0, c.in_ok-count.ensures.piece.1, ap length same, length-take-le n c.deref.result.now))

pub returns-in_err-take-clause-input : goal.returns-in_err-take-clause-input
returns-in_err-take-clause-input g c =
    let s = c.pieces.invariant.so_far in
    let n = c.in_ok-count.count in
    let p = c.in_ok-count.ensures.piece in
    let order = g.O.KeyOrder.order in
    let before = g.R.Source.remaining c.pieces.reader in
    let buf = c.read_after.new.bytes.items in
    known_error (ReadsInput order Count.Any Kind.Wire c.args.limit _ _) _ _ c.from_residual-in_err-take.ensures.1
    (refused_memory order c.args.limit _ _ _ (read_now most_bytes c.pieces.left _ before _ _ s buf n p) (within_now most_bytes c.pieces.left _ before _ _ s buf n p))

pub returns-then-count-lt-PIECE-clause-input : goal.returns-then-count-lt-PIECE-clause-input
returns-then-count-lt-PIECE-clause-input g c =
    kept_whole g.O.KeyOrder.order c.args.limit c.pieces.left _ (g.R.Source.remaining c.pieces.reader) (g.R.Source.remaining c.read_after.new.reader) c.pieces.judge c.pieces.invariant.so_far c.read_after.new.bytes.items c.in_ok-count.count c.in_ok-count.ensures.piece c.if-left-eq-MOST.true _ c.read_whole.result c.read_whole.ensures.whole

pub returns-then-not-goes_on-clause-input : goal.returns-then-not-goes_on-clause-input
returns-then-not-goes_on-clause-input g c =
    kept_whole g.O.KeyOrder.order c.args.limit c.pieces.left _ (g.R.Source.remaining c.pieces.reader) (g.R.Source.remaining c.read_after.new.reader) c.pieces.judge c.pieces.invariant.so_far c.read_after.new.bytes.items c.in_ok-count.count c.in_ok-count.ensures.piece c.if-left-eq-MOST-2.true _ c.read_whole-then-not-goes_on.result c.read_whole-then-not-goes_on.ensures.whole

pub pieces-preserved : goal.pieces-preserved
pieces-preserved g c =
    let s = c.pieces.invariant.so_far in
    let n = c.in_ok-count.count in
    let p = c.in_ok-count.ensures.piece in
    let left : c.pieces.left - n + n ≡ c.pieces.left = omega (arith, p.0) in
    let judging = subst (λ x. IsJudging (IsHeld g.O.KeyOrder.order) c.take.new.self (s.input ++ take n x) c.args.limit) c.deref.ensures.value (c.in_ok-take.ensures c.args.limit s.input s.known) in
    record {
      so_far = goes_on most_bytes c.pieces.left _ (g.R.Source.remaining c.pieces.reader) _ _ s c.read_after.new.bytes.items n p _ left (λ x. IsJudging (IsHeld g.O.KeyOrder.order) c.take.new.self x c.args.limit) judging;
      room = omega (arith, p.1, c.if-count-eq0.false);
      failures = c.in_ok-count.ensures.failures ∙ c.pieces.invariant.failures;
      calls = omega (arith, c.pieces.invariant.calls, c.in_ok-count.ensures.calls, p.0, c.if-count-eq0.false);
    }
