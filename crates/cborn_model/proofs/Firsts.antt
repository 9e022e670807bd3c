-- What comes no later than what, and the first of the faults of two kinds.
use Rattle.std.specs.Prelude.{◌≡◌, ◌⊎◌}
use Rattle.cborn_model.proofs.Common.{ℕ, inl, inr, refl, arith, NoLater, IsFirst}

pub no_later_on : (a b c : ℕ × ℕ) → NoLater a b → NoLater b c → NoLater a c
no_later_on a b c h1 h2 = grind arith

pub no_later_turned : (a b : ℕ × ℕ) → NoLater a b → NoLater b a → (a.0 ≡ b.0) × (a.1 ≡ b.1)
no_later_turned a b h1 h2 = grind arith

-- where no two reasons have one number
pub first_once : {R : Type 0} (rank : R → ℕ) (fault : ℕ → R → Type 0) (p q : ℕ) (r s : R) → ((a b : R) → rank a ≡ rank b → a ≡ b) → IsFirst rank fault p r → IsFirst rank fault q s → (p ≡ q) × (r ≡ s)
first_once rank fault p q r s h1 h2 h3 = grind (arith, no_later_turned)

module _ {R : Type 0} (rank : R → ℕ) where
  -- of one fault
  pub first_alone : (p : ℕ) (r : R) → IsFirst rank (λ q s. (q ≡ p) × (s ≡ r)) p r
  first_alone p r = record { is = (refl, refl); first = λ q s h. rw (h.0, h.1) (inr (refl, omega arith)) }

  module _ (F G : ℕ → R → Type 0) (p : ℕ) (r : R) where
    pub first_left : IsFirst rank F p r → ((q : ℕ) (s : R) → G q s → NoLater (p, rank r) (q, rank s)) → IsFirst rank (λ q s. F q s ⊎ G q s) p r
    first_left f none = record { is = inl f.is; first = λ q s h. elim h [ inl i ↦ f.first q s i | inr i ↦ none q s i ] }

    pub first_right : ((q : ℕ) (s : R) → F q s → NoLater (p, rank r) (q, rank s)) → IsFirst rank G p r → IsFirst rank (λ q s. F q s ⊎ G q s) p r
    first_right none g = record { is = inr g.is; first = λ q s h. elim h [ inl i ↦ none q s i | inr i ↦ g.first q s i ] }
