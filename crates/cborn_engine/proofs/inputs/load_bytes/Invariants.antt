use Rattle.std.specs.Prelude.{◌≡◌, ◌≤◌, ◌+◌}
use Rattle.cborn_engine.proofs.Streams.Coming.{SoFar}
use Rattle.cborn_engine.proofs.Streams.Feeding.{IsFedSoFar}
use Rattle.cborn_engine.proofs.inputs.load_bytes.Given as goal

abbrev pub invariant-pieces : goal.invariant-pieces
invariant-pieces g l = record {
  so_far : SoFar l.most l.left (g.R.Source.remaining l.initial.reader) (g.R.Source.remaining l.reader) (λ x. IsFedSoFar l.fn.limit x l.is_refused l.feeder);
  failures : g.R.Source.failed l.reader ≡ g.R.Source.failed l.initial.reader;
  calls : g.R.Source.asked l.reader + l.left ≤ g.R.Source.asked l.initial.reader + l.most;
}

abbrev pub decreases-pieces : goal.decreases-pieces
decreases-pieces g l = l.left
