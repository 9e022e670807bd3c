-- What a test that was passed or failed decides.
use Rattle.std.specs.Prelude.{◌≡◌, ◌↔◌}
use Rattle.cborn_model.proofs.Common.{Bool, true, false, IsTrue, refl, sym, ◌∙◌, Option, Some, None, MatchOption, is_some}

pub true_is_not_false : true ≡ false → ⊥
true_is_not_false e = cc

pub granted : {P : Type 0} → P → (IsTrue true ↔ P)
granted p = (λ _. p, λ _. refl)

pub refuted : {P : Type 0} → (P → ⊥) → (IsTrue false ↔ P)
refuted f = (λ y. absurd (true_is_not_false (sym y)), λ p. absurd (f p))

-- where the test is exact
pub passed : {P : Type 0} (r : Bool) → r ≡ true → (IsTrue r ↔ P) → P
passed r e f = f.0 e

pub failed : {P : Type 0} (r : Bool) → r ≡ false → (IsTrue r ↔ P) → P → ⊥
failed r e f p = true_is_not_false (sym (f.1 p) ∙ e)

pub there : {X : Type 0} (P : Type 0) (F : X → Type 0) (o : Option X) → is_some o ≡ true → MatchOption o P F → (x : X) × F x
there P F None e h = cc
there P F (Some x) e h = (x, h)
