-- A run over one list after another, and the run of what failed.
use Rattle.std.specs.Prelude.{◌≡◌, ◌∷◌, ◌++◌}
use Rattle.cborn_wire.proofs.Common.{refl, ℕ, List, [], Trees, WireReason, State, Failed, step, run}

pub run-append : (limit : ℕ) (s : State) (x y : List ℕ) → run limit s (x ++ y) ≡ run limit (run limit s x) y
run-append limit s [] y = refl
run-append limit s (b ∷ x) y = run-append limit (step limit s b) x y

-- What failed stays as it is.
pub failed_run : (limit : ℕ) (y : List ℕ) (ready : Trees) (p : ℕ) (r : WireReason) → run limit (Failed ready p r) y ≡ Failed ready p r
failed_run limit [] ready p r = refl
failed_run limit (b ∷ y) ready p r = failed_run limit y ready p r
