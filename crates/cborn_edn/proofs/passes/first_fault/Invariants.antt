use Rattle.std.specs.Prelude.{◌≤◌, ◌-◌}
use Rattle.cborn_edn.proofs.Common.{List, length, TokensBetween, Token}
use Rattle.cborn_edn.proofs.passes.first_fault.Given as goal

abbrev pub invariant-tokens : goal.invariant-tokens
invariant-tokens l = ((ts : List Token) × TokensBetween l.fn.profile l.fn.text l.fn.at l.place ts) × (l.place ≤ length l.fn.text)

abbrev pub decreases-tokens : goal.decreases-tokens
decreases-tokens l = length l.fn.text - l.place
