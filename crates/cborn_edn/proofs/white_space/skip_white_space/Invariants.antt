use Rattle.std.specs.Prelude.{◌≤◌, ◌-◌}
use Rattle.cborn_edn.proofs.Common.{[], length, TokensBetween}
use Rattle.cborn_edn.proofs.white_space.skip_white_space.Given as goal

abbrev pub invariant-white_space : goal.invariant-white_space
invariant-white_space l = (l.place ≤ length l.text) × TokensBetween l.profile l.text l.fn.at l.place []

abbrev pub decreases-white_space : goal.decreases-white_space
decreases-white_space l = length l.text - l.place
