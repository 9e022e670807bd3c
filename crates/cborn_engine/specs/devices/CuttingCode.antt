-- A device of the proofs: a code for what contracts see of the items of bytes. No definition cites it.
use Rattle.cborn_engine.specs.Common.{ℕ, List, refl, Coded, code_by, coded×, coded_ℕ, coded_list}
use Rattle.cborn_engine.specs.Items.{Cutting}

abbrev pub cutting_code : Coded Cutting
cutting_code =
    code_by (ℕ × (List ℕ × ℕ)) (coded× coded_ℕ (coded× (coded_list coded_ℕ) coded_ℕ))
    (λ c. (c.limit, (c.input, c.at)))
    (λ p. record { limit = p.0; input = p.1.0; at = p.1.1 })
    (λ _. refl)
