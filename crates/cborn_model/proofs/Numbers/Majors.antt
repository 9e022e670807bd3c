-- Major types and their numbers.
use Rattle.std.specs.Prelude.{◌≡◌, ◌<◌}
use Rattle.cborn_model.proofs.Common.{refl, ℕ, arith, code, major_at}
use Rattle.cborn_model.specs.declared.heads.Major.{Major}
use Rattle.cborn_model.specs.declared.heads.Major.TheVariants.{Unsigned}

pub code_at : (q : ℕ) → q < 8 → code (major_at q) ≡ q
code_at q h1 = grind arith

pub major_at-code : (m : Major) → major_at (code m) ≡ m
major_at-code Unsigned = refl
major_at-code _ = refl
