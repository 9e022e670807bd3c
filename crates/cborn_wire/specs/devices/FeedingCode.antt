-- A device of the proofs: a code for what contracts see of a feeder. No definition cites it.
use Rattle.std.specs.Prelude.{ℕ, List, Option, refl}
use Rattle.std.specs.Coded.{Coded, code_by, coded×, coded_ℕ, coded_list, coded_option}
use Rattle.cborn_model.specs.Tree.{Tree}
use Rattle.cborn_model.specs.shared.TreeCode.{tree_code}
use Rattle.cborn_wire.specs.declared.faults.WireFault.{WireFault}
use Rattle.cborn_wire.specs.contracts.faults.WireFault as fault
use Rattle.cborn_wire.specs.Feeding.{Feeding}

abbrev pub feeding_code : Coded Feeding
feeding_code =
    code_by (ℕ × (ℕ × (List ℕ × (List Tree × Option WireFault))))
    (coded× coded_ℕ (coded× coded_ℕ (coded× (coded_list coded_ℕ) (coded× (coded_list tree_code) (coded_option fault.the_row.coded)))))
    (λ f. (f.limit, (f.fed, (f.held, (f.items, f.fault)))))
    (λ p. record { limit = p.0; fed = p.1.0; held = p.1.1.0; items = p.1.1.1.0; fault = p.1.1.1.1 })
    (λ _. refl)
