use Rattle.std.specs.Prelude.{◌≡◌, ◌++◌}
use Rattle.cborn_det.proofs.Common.{drop, joined, entries_of}
use Rattle.cborn_det.proofs.entries.push_entries.Given as goal

abbrev pub invariant-loop-key : goal.invariant-loop-key
invariant-loop-key l = l.out.items ++ joined (entries_of (drop l.key-index l.entries)) ≡ l.initial.out.items ++ joined (entries_of l.entries)
