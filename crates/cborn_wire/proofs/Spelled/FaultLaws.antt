-- The laws of faults.
use Rattle.std.specs.Prelude.{◌≡◌, ◌+◌, ◌<◌, ◌≤◌, ◌∷◌, ◌++◌, ◌⊎◌}
use Rattle.cborn_wire.proofs.Common.{refl, sym, ap, ◌∙◌, subst, ℕ, List, [], length, take, Bool, true, false, cond, eqb, inl, inr, arith, append_assoc, append-nil, cases_order, AreBytes, Trees, Wellformed, WireReason, Truncated, IsWellformed, GoesOn, IsReason, Fault, SlotRefused, nothing, gathering, State, Live, Failed, run, start, common_steps, nat_tests, bytes-left}
use Rattle.cborn_wire.specs.Faults.{Refused}
use Rattle.cborn_wire.proofs.Spelled.AllBytes.{well_bytes}
use Rattle.cborn_wire.proofs.Spelled.GoingOn.{same_place, goes_front, refused_ends, none_later, refused_said}
use Rattle.cborn_wire.proofs.Spelled.SlotLaws.{fails_at_slot, ends_whole, goes_on, cut_short}

-- what fails is refused
pub fails_refused : (limit base : ℕ) (x : List ℕ) → AreBytes x → (ready : Trees) (q : ℕ) (r : WireReason) → run limit (start base) x ≡ Failed ready q r → (p : ℕ) × (q ≡ base + p) × Refused limit x p r
fails_refused limit base x bytes ready q r e = grind (arith, fails_at_slot, refused_said)

module _ (limit : ℕ) where
  -- never both
  pub not_both : (x : List ℕ) (p : ℕ) (r : WireReason) → IsWellformed limit x → Fault limit x p r → ⊥
  not_both x p r w (inl h) = refused_ends limit x p r h ([], subst (IsWellformed limit) (sym (append-nil x)) w)
  not_both x p r w (inr h) = h.1.1 w

  one_reason : (f : List ℕ) (b : ℕ) (r s : WireReason) → IsReason limit f b r → IsReason limit f b s → r ≡ s
  one_reason f b r s h e = grind (arith, common_steps, nat_tests)

  one_refused : (x : List ℕ) (p q : ℕ) (r s : WireReason) → Refused limit x p r → Refused limit x q s → (p ≡ q) × (r ≡ s)
  one_refused x p q r s (f, b, y, e, at, begins, bad, why) (g, c, z, h, there, after, worse, reason) = elim (cases_order (length f) (length g)) [
    | inl l ↦ same l
    | inr (inl l) ↦ absurd (none_later limit x f g y z b c e h begins bad after l)
    | inr (inr l) ↦ absurd (none_later limit x g f z y c b h e after worse begins l)
  ]
    where
      same : length f ≡ length g → (p ≡ q) × (r ≡ s)
      same l =
          let (front, first) = same_place x f g y z b c e h l in
          (sym at ∙ l ∙ there, one_reason g c r s (subst (λ b. IsReason limit g b r) first (subst (λ f. IsReason limit f b r) front why)) reason)

  -- never two
  pub one_fault : (x : List ℕ) (p q : ℕ) (r s : WireReason) → Fault limit x p r → Fault limit x q s → (p ≡ q) × (r ≡ s)
  one_fault x p q r s (inl g) (inl h) = one_refused x p q r s g h
  one_fault x p q r s (inl g) (inr h) = absurd (refused_ends limit x p r g h.1.2)
  one_fault x p q r s (inr g) (inl h) = absurd (refused_ends limit x q s h g.1.2)
  one_fault x p q r s (inr g) (inr h) = (g.1.0 ∙ sym h.1.0, g.0 ∙ sym h.0)

  -- one of them
  pub well_or_fault : (x : List ℕ) → AreBytes x → IsWellformed limit x ⊎ ((p : ℕ) × (r : WireReason) × Fault limit x p r)
  well_or_fault x bytes = go (run limit (start 0) x) refl
    where
      go : (s : State) → run limit (start 0) x ≡ s → IsWellformed limit x ⊎ ((p : ℕ) × (r : WireReason) × Fault limit x p r)
      go (Live fed ready [] nothing) e = inl (ends_whole limit 0 x bytes fed ready e)
      go (Live fed ready (o ∷ os) nothing) e = inr (length x, Truncated, cut_short limit 0 x bytes fed ready (o ∷ os) nothing e (λ d _. cc d))
      go (Live fed ready os (gathering p g n got)) e = inr (length x, Truncated, cut_short limit 0 x bytes fed ready os (gathering p g n got) e (λ _ d. cc d))
      go (Failed ready p r) e = let (q, at, h) = fails_refused limit 0 x bytes ready p r e in inr (q, r, inl h)

  -- What is refused is refused by the table.
  pub said_refused : (x : List ℕ) (p : ℕ) (r : WireReason) → AreBytes x → Refused limit x p r → SlotRefused limit x p r
  said_refused x p r bytes h = go (run limit (start 0) x) refl
    where
      go : (s : State) → run limit (start 0) x ≡ s → SlotRefused limit x p r
      go (Live fed ready os partial) e = absurd (refused_ends limit x p r h (goes_on limit 0 x bytes fed ready os partial e))
      go (Failed ready q s) e =
          let (n, at, k) = fails_at_slot limit 0 x bytes ready q s e in
          let (place, reason) = one_refused x n p s r (refused_said limit x n s bytes k) h in
          subst (SlotRefused limit x p) reason (subst (λ n. SlotRefused limit x n s) place k)

-- A larger limit refuses nothing that a smaller one lets pass.
pub larger_limit : (limit most : ℕ) (ts : Trees) (x : List ℕ) → limit ≤ most → Wellformed limit ts x → Wellformed most ts x
larger_limit limit most ts x h w = record { spells = w.spells; fit = w.fit; shallow = omega (arith, w.shallow) }

-- What is refused stays so, whatever follows.
pub refused_stays : (limit : ℕ) (x z : List ℕ) (p : ℕ) (r : WireReason) → Refused limit x p r → Refused limit (x ++ z) p r
refused_stays limit x z p r (f, b, y, is, at, begins, bad, why) =
    (f, b, y ++ z, ap (λ l. l ++ z) is ∙ append_assoc f (b ∷ y) z, at, begins, stays y (eqb b 0xf8) bad, why)
  where
    stays : (y : List ℕ) (c : Bool) → (GoesOn limit (f ++ b ∷ cond c (take 1 y) []) → ⊥) → GoesOn limit (f ++ b ∷ cond c (take 1 (y ++ z)) []) → ⊥
    stays y false bad goes = bad goes
    stays [] true bad goes = bad (goes_front limit (f ++ b ∷ []) (take 1 z) (subst (GoesOn limit) (sym (append_assoc f (b ∷ []) (take 1 z))) goes))
    stays (c ∷ y) true bad goes = bad goes

pub fault_stays : (limit : ℕ) (x z : List ℕ) (p : ℕ) (r : WireReason) → Fault limit x p r → (r ≡ Truncated → ⊥) → Fault limit (x ++ z) p r
fault_stays limit x z p r h e = grind (arith, refused_stays)

-- A head that isn't allowed is there.
pub fault_inside : (limit : ℕ) (x : List ℕ) (p : ℕ) (r : WireReason) → Fault limit x p r → (r ≡ Truncated → ⊥) → p < length x
fault_inside limit x p r h e = grind (arith, common_steps, nat_tests)

pub fault_at_end : (limit : ℕ) (x : List ℕ) (p : ℕ) → Fault limit x p Truncated → p ≡ length x
fault_at_end limit x p h = grind (arith, common_steps, nat_tests)

-- a front of what is well-formed is well-formed, or is cut at its end
pub fronts : (limit : ℕ) (x y : List ℕ) → IsWellformed limit (x ++ y)
    → IsWellformed limit x ⊎ (Fault limit x (length x) Truncated × ((p : ℕ) (r : WireReason) → Fault limit x p r → (p ≡ length x) × (r ≡ Truncated)))
fronts limit x y w = choose (well_or_fault limit x (bytes-left x y (well_bytes limit w.0 (x ++ y) w.1)))
  where
    choose : IsWellformed limit x ⊎ ((p : ℕ) × (r : WireReason) × Fault limit x p r)
        → IsWellformed limit x ⊎ (Fault limit x (length x) Truncated × ((p : ℕ) (r : WireReason) → Fault limit x p r → (p ≡ length x) × (r ≡ Truncated)))
    choose (inl h) = inl h
    choose (inr (p, r, inl h)) = absurd (refused_ends limit x p r h (y, w))
    choose (inr (p, r, inr h)) = let cut : Fault limit x (length x) Truncated = inr (refl, (refl, h.1.1, h.1.2)) in inr (cut, λ q s k. one_fault limit x q (length x) s Truncated k cut)
