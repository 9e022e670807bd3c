-- What holds of an answer in case of success.
use Rattle.cborn_edn.proofs.Common.{arith, IfOk, IfErr, IsErrAnd}
use Rattle.std.specs.Prelude.{◌≡◌, Result, OnOk}
pub use Rattle.cborn_model.proofs.HandedOver.{on_ok}

pub both_ok : {A E : Type 0} (r : Result A E) {P Q R : Type 0} → (P → Q → R) → OnOk r P → OnOk r Q → OnOk r R
both_ok r h1 h2 h3 = grind arith

pub all_ok : {A E : Type 0} (r : Result A E) {P Q R S : Type 0} → (P → Q → R → S) → OnOk r P → OnOk r Q → OnOk r R → OnOk r S
all_ok r h1 h2 h3 h4 = grind arith

pub if_ok : {A E : Type 0} (r : Result A E) (P Q : A → Type 0) → ((x : A) → P x → Q x) → IfOk r P → IfOk r Q
if_ok r P Q h1 h2 = grind arith

pub error_is : {A E : Type 0} (r : Result A E) (e : E) (P : E → Type 0) → IsErrAnd r (λ g. g ≡ e) → P e → IfErr r P
error_is r e P h1 h2 = grind arith
