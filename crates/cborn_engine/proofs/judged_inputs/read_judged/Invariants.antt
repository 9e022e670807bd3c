use Rattle.std.specs.Prelude.{◌≡◌, ◌≤◌, ◌<◌, ◌+◌}
use Rattle.cborn_engine.proofs.Common.{length, most_bytes, IsHeld, IsJudging}
use Rattle.cborn_engine.proofs.Streams.Coming.{SoFar}
use Rattle.cborn_engine.proofs.judged_inputs.read_judged.Given as goal

abbrev pub invariant-pieces : goal.invariant-pieces
invariant-pieces g l = record {
  so_far : SoFar most_bytes l.left (g.R.Source.remaining l.initial.reader) (g.R.Source.remaining l.reader) (λ x. IsJudging (IsHeld g.O.KeyOrder.order) l.judge x l.fn.limit);
  room : 0 < length l.piece.items;
  failures : g.R.Source.failed l.reader ≡ g.R.Source.failed l.initial.reader;
  calls : g.R.Source.asked l.reader + l.left ≤ g.R.Source.asked l.initial.reader + most_bytes;
}

abbrev pub decreases-pieces : goal.decreases-pieces
decreases-pieces g l = l.left
