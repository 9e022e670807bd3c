use Rattle.std.specs.Prelude.{◌≡◌}
use Rattle.cborn_explain.proofs.Common.{take, path_of}
use Rattle.cborn_explain.proofs.byte_walks.Walk.path.Given as goal

abbrev pub invariant-loop-level : goal.invariant-loop-level
invariant-loop-level l = l.steps.items ≡ path_of (take l.level-index l.self.levels.items)
