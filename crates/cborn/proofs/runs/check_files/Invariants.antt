use Rattle.std.proofs.Common.{◌≡◌, ◌≢◌, ◌≤◌}
use Rattle.cborn.proofs.runs.check_files.Given as goal

abbrev pub invariant-loop-name : goal.invariant-loop-name
invariant-loop-name g l = (l.worst ≤ 4) × (l.worst ≢ 3) × (l.worst ≤ 1 → l.out.unflushed ≡ 0)
