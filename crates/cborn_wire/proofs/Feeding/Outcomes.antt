-- What an answer says of the fault in it.
use Rattle.std.specs.Prelude.{◌≡◌}
use Rattle.cborn_wire.proofs.Common.{ℕ, Result, Ok, Err, IsErrAnd, VisitFault, Refused, Memory, WireFault, WireReason}
use Rattle.cborn_wire.specs.Visits.{wire_fault}
use Rattle.cborn_wire.specs.declared.faults.WireFault.TheVariants as faults

pub err_is : {T : Type 0} (e f : WireFault) → ◌≡◌ {A = Result T WireFault} (Err e) (Err f) → e ≡ f
err_is e f h = cc

-- the fault that a `?` passes on
pub passed_on : {T : Type 0} (a : Result T WireFault) (e : VisitFault) (p : ℕ) (r : WireReason) → IsErrAnd a (λ g. g ≡ wire_fault e) → a ≡ Err (faults.Refused p r) → e ≡ Refused p r
passed_on (Ok v) e p r h is = cc
passed_on (Err g) (Refused q s) p r h is = cc
passed_on (Err g) (Memory m) p r h is = cc
