-- What follows from an answer for a count of failures.
use Rattle.std.specs.Prelude.{◌≡◌}
use Rattle.cborn_engine.proofs.Common.{ℕ, Result, Err, refl, EngineFault, read_failures, CountsFault}

pub read_counted : {A : Type 0} (r : Result A EngineFault) (n m : ℕ) → m ≡ read_failures r n → CountsFault EngineFault.ReadFault r n m
read_counted (Err EngineFault.ReadFault) n m e = (λ p. e, λ p. absurd (p refl))
read_counted _ n m e = (λ p. absurd cc, λ p. e)
