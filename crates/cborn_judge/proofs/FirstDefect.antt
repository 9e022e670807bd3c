-- The first defect of nodes: where one departs, and what concludes of all.
use Rattle.std.specs.Prelude.{◌≡◌, ◌≢◌, ◌↔◌, ◌⊎◌, ◌∷◌}
use Rattle.cborn_judge.proofs.Common.{arith, ℕ, List, subst, Ordering, Less, Means, IsKeyOrder, Tree, IsProper, Value, Det, NotAbove, IsEncodedAs, same_itself, one_of_same, refl, Option, IsByteString, FindsDefect, LooseBytesAt, IsEarliestDefect, LooseAt, DefectIn, DefectAt, defect_rank, Within, DefectReason, Either, SomeDefect, inl, inr, [], None, Some, IsFirst, flaw_rank, spelled, Fits, trees, InvalidReason, DefectInAll, FlawIn, IsFirstFlaw, Defect, IsCheck, IsDeterministic}
use Rattle.cborn_model.proofs.Found as firsts
use Rattle.cborn_judge.proofs.Meaning.Meanings.{means_once, string_once}
use Rattle.cborn_judge.proofs.Encoded.Checking.{check_sound, check_whole}

-- ---- whether one key is above another, by their encodings

module _ (order : List ℕ → List ℕ → Ordering) (laws : IsKeyOrder order) where
  -- of keys that mean something the codes decide
  pub above_by_code : (m n : Tree × Tree) (c x : List ℕ) → IsEncodedAs order m.0 c → IsEncodedAs order n.0 x → NotAbove order m.0 n.0 ↔ (order c x ≢ Less)
  above_by_code m n c x h1 h2 = grind (arith, means_once, one_of_same, same_itself)

-- ---- the first defect of a node without children, and of a bignum

pub both_found : (F G : ℕ → DefectReason → Type 0) (a b o : Option SomeDefect) → FindsDefect F a → FindsDefect G b → IsEarliestDefect a b o → FindsDefect (Either F G) o
both_found F G a b o h k e = firsts.found_both defect_rank (λ d. d.place) (λ d. d.reason) F G a b o h k e

pub alike : (F G : ℕ → DefectReason → Type 0) (o : Option SomeDefect) → ((p : ℕ) (r : DefectReason) → F p r ↔ G p r) → FindsDefect F o → FindsDefect G o
alike F G o e h = firsts.found_alike defect_rank (λ d. d.place) (λ d. d.reason) F G o e h

module _ (order : List ℕ → List ℕ → Ordering) where
  -- ---- a node without children

  pub leaf_found : (t : Tree) (o : Option SomeDefect) → ((q : Tree) → Within q t ↔ (q ≡ t)) → FindsDefect (DefectAt order t) o → FindsDefect (DefectIn order t) o
  leaf_found t o w h = alike (DefectAt order t) (DefectIn order t) o (λ p r. ((λ d. (t, (w t).1 refl, d)), (λ d. subst (λ z. DefectAt order z p r) ((w d.0).0 d.1) d.2))) h

  -- a bignum by its bytes
  pub loose_found : (q n : ℕ) (t : Tree) (b c : List ℕ) (x : Option SomeDefect) → (n ≡ 2) ⊎ (n ≡ 3) → IsByteString t b → b ≡ c → FindsDefect (LooseBytesAt q c) x → FindsDefect (LooseAt q n t) x
  loose_found q n t b c x h1 h2 h3 h4 = grind (arith, alike, string_once)

-- ---- from what an encoder finds of a node alone to what the check says of it

module _ (order : List ℕ → List ℕ → Ordering) where
  in_root : (t : Tree) (v : Value) (o : Option SomeDefect) → Means t v → FindsDefect (DefectIn order t) o → FindsDefect (Defect order t) o
  in_root t v o m h = alike (DefectIn order t) (Defect order t) o (λ p r. ((λ d. (v, m, d.0, d.1, d.2)), (λ d. (d.2, d.3, d.4)))) h

  check_of : (t : Tree) (v : Value) (o : Option SomeDefect) → Means t v → FindsDefect (Defect order t) o → IsCheck order t o
  check_of t v None m h = ((v, m), h)
  check_of t v (Some d) m h = h

  pub concluded : (t : Tree) (v : Value) (o : Option SomeDefect) → Means t v → FindsDefect (DefectIn order t) o → IsCheck order t o
  concluded t v o m h = check_of t v o m (in_root t v o m h)

  pub conclusive : IsKeyOrder order → (t : Tree) (v : Value) (o : Option SomeDefect) → Fits t → IsProper v → Means t v → FindsDefect (DefectIn order t) o → (o ≡ None) ↔ IsDeterministic order t
  conclusive laws t v o f g m h = by o (in_root t v o m h)
    where
      spells : IsDeterministic order t → Det order v (spelled t)
      spells d = subst (λ w. Det order w (spelled t)) (means_once t d.0 v d.1 m) d.2

      by : (p : Option SomeDefect) → FindsDefect (Defect order t) p → (p ≡ None) ↔ IsDeterministic order t
      by None k = ((λ e. (v, m, check_sound order laws t v f m k)), (λ d. refl))
      by (Some x) k = ((λ e. cc), (λ d. absurd (check_whole order laws t v f g m (spells d) x.place x.reason k.is)))

  pub alone : (t : Tree) (o : Option SomeDefect) → FindsDefect (DefectInAll order (trees (t ∷ []))) o → FindsDefect (DefectIn order t) o
  alone t o h = alike (DefectInAll order (trees (t ∷ []))) (DefectIn order t) o (λ p r. ((λ d. elim d.1 [ inl i ↦ (d.0, i, d.2) | inr i ↦ absurd i ]), (λ d. (d.0, inl d.1, d.2)))) h

pub flawed_alone : (t : Tree) (p : ℕ) (r : InvalidReason) → IsFirst flaw_rank (FlawIn (trees (t ∷ []))) p r → IsFirstFlaw t p r
flawed_alone t p r h = record { is = elim h.is.1 [ inl i ↦ (h.is.0, i, h.is.2) | inr i ↦ absurd i ]; first = λ q s d. h.first q s (d.0, inl d.1, d.2) }
