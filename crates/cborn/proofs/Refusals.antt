-- A refused input is no failed write.
use Rattle.std.proofs.Common.{◌≡◌, ◌≢◌, ℕ, refl, subst, arith}
use Rattle.cborn_engine.specs.declared.EngineFault.TheVariants as fault
use Rattle.cborn_engine.specs.declared.CountFault.{CountFault}
use Rattle.cborn_engine.specs.declared.CountFault.TheVariants as counted
use Rattle.cborn.specs.Statuses.{status_of_fault}

other_status : (failed refused : ℕ) → failed ≡ 4 → refused ≡ 2 → failed ≢ refused
other_status failed refused f r e = omega (arith, f, r, e)

pub refused_is_unwritten : (why : CountFault) → status_of_fault why ≡ 2 → why ≢ counted.Engine fault.WriteFault
refused_is_unwritten why h e = let P : CountFault → Type 0 = λ w. status_of_fault w ≡ 2 in other_status 4 2 refl refl (subst P e h)
