-- The first of what two searches found.
use Rattle.std.specs.Prelude.{◌≡◌, ◌⊎◌, ◌↔◌}
use Rattle.cborn_model.proofs.Common.{arith, ℕ, inl, inr, refl, sym, ◌∙◌, subst, Option, None, Some, IsFirst}
use Rattle.cborn_model.proofs.Firsts.{no_later_on}
use Rattle.cborn_model.specs.Earliest.{IsEarlier, IsEarliest, Finds}

abbrev pub Either : {R : Type 0} → (ℕ → R → Type 0) → (ℕ → R → Type 0) → ℕ → R → Type 0
Either F G p r = F p r ⊎ G p r

module _ {X R : Type 0} (rank : R → ℕ) (place_of : X → ℕ) (reason_of : X → R) where
  abbrev First : (ℕ → R → Type 0) → X → Type 0
  First F x = IsFirst rank F (place_of x) (reason_of x)

  abbrev Found : (ℕ → R → Type 0) → Option X → Type 0
  Found = Finds rank place_of reason_of

  -- the place of what was found, and the number of its reason
  abbrev key_of : X → ℕ × ℕ
  key_of x = (place_of x, rank (reason_of x))

  pub earlier_of : (F G : ℕ → R → Type 0) (x y z : X) → First F x → First G y → IsEarlier key_of x y z → First (Either F G) z
  earlier_of F G x y z h k e = record {
    is = elim e.0 [
      | inl i ↦ subst (λ v. Either F G (place_of v) (reason_of v)) (sym i) (inl h.is)
      | inr i ↦ subst (λ v. Either F G (place_of v) (reason_of v)) (sym i) (inr k.is)
    ];
    first = λ q s d. elim d [
      | inl i ↦ no_later_on (key_of z) (key_of x) (q, rank s) e.1 (h.first q s i)
      | inr i ↦ no_later_on (key_of z) (key_of y) (q, rank s) e.2 (k.first q s i)
    ];
  }

  pub first_left : (F G : ℕ → R → Type 0) (x : X) → First F x → Found G None → First (Either F G) x
  first_left F G x h n = record { is = inl h.is; first = λ q s k. elim k [ inl f ↦ h.first q s f | inr g ↦ absurd (n q s g) ] }

  pub first_right : (F G : ℕ → R → Type 0) (x : X) → Found F None → First G x → First (Either F G) x
  first_right F G x n h = record { is = inr h.is; first = λ q s k. elim k [ inl f ↦ absurd (n q s f) | inr g ↦ h.first q s g ] }

  pub found_both : (F G : ℕ → R → Type 0) (a b o : Option X) → Found F a → Found G b → IsEarliest key_of a b o → Found (Either F G) o
  found_both F G a b o h1 h2 h3 = grind (arith, earlier_of, first_left, first_right)

  pub found_alike : (F G : ℕ → R → Type 0) (o : Option X) → ((p : ℕ) (r : R) → F p r ↔ G p r) → Found F o → Found G o
  found_alike F G None e h = λ p r g. h p r ((e p r).1 g)
  found_alike F G (Some x) e h = record { is = (e (place_of x) (reason_of x)).0 h.is; first = λ q s g. h.first q s ((e q s).1 g) }

  -- the earliest of two is none only if both are
  pub none_both : (a b o : Option X) → IsEarliest key_of a b o → o ≡ None → (a ≡ None) × (b ≡ None)
  none_both None b o e n = (refl, sym e ∙ n)
  none_both (Some x) None o e n = let f : Some x ≡ None = sym e ∙ n in cc
  none_both (Some x) (Some y) None e n = absurd e
  none_both (Some x) (Some y) (Some z) e n = cc
