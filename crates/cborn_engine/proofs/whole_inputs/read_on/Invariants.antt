use Rattle.std.specs.Prelude.{◌≡◌, ◌≤◌, ◌+◌, ◌-◌}
use Rattle.cborn_engine.proofs.Common.{length}
use Rattle.cborn_engine.proofs.Streams.Collecting.{Filled}
use Rattle.cborn_engine.proofs.whole_inputs.read_on.Given as goal

abbrev pub invariant-pieces : goal.invariant-pieces
invariant-pieces g l = record {
  filled : Filled l.fn.front.items l.most l.filled (g.R.Source.remaining l.initial.reader) (g.R.Source.remaining l.reader) l.bytes.items;
  failures : g.R.Source.failed l.reader ≡ g.R.Source.failed l.initial.reader;
  calls : g.R.Source.asked l.reader + length l.fn.front.items ≤ g.R.Source.asked l.initial.reader + l.filled;
}

abbrev pub decreases-pieces : goal.decreases-pieces
decreases-pieces g l = l.most - l.filled
