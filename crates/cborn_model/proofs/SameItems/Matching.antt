-- Maps whose keys are distinct are the same exactly if they have as many pairs, and each pair of the one is among those of the other.
use Rattle.std.specs.Prelude.{◌≡◌, ◌∷◌, ◌++◌}
use Rattle.cborn_model.proofs.Common.{suc, inl, inr, List, [], length, refl, sym, ap, subst, ◌∙◌, arith, IsPermutation, length-append, IsPermutation-refl, IsPermutation-sym, IsPermutation-trans, IsPermutation-cons, IsPermutation-middle, length_permutation, Value, Couples, no_pairs, pair, listed, dict, pairs_of, pair_count, Same, SamePairs, IsNew, HasNewKeys, HasPair, Gives}
use Rattle.cborn_model.proofs.SameItems.Rearranging.{IsIn, AreIn, are_in_moved}
use Rattle.cborn_model.proofs.SameItems.Sameness.{same_itself, same_turned, same_chained}

-- each pair of the one is among the others
abbrev pub AllHave : Couples → List (Value × Value) → Type 0
AllHave no_pairs qs = Unit {0}
AllHave (pair k v ps) qs = HasPair (k, v) qs × AllHave ps qs

-- the pair that is found, and what is before and after it
record Found (p : Value × Value) (qs : List (Value × Value)) : Type 0 where
  pub front : List (Value × Value)
  pub back : List (Value × Value)
  pub found : Value × Value
  pub is : qs ≡ front ++ found ∷ back
  pub same_key : Same p.0 found.0
  pub same_value : Same p.1 found.1

find : (p : Value × Value) (qs : List (Value × Value)) → HasPair p qs → Found p qs
find p [] h = absurd h
find p (q ∷ qs) h =
    elim h [
      | inl s ↦ record { front = []; back = qs; found = q; is = refl; same_key = s.0; same_value = s.1 }
      | inr s ↦ let t = find p qs s in record { front = q ∷ t.front; back = t.back; found = t.found; is = ap (λ l. q ∷ l) t.is; same_key = t.same_key; same_value = t.same_value }
    ]

-- what isn't the pair in the middle is elsewhere
elsewhere : (p q : Value × Value) (front back : List (Value × Value)) → (Same p.0 q.0 → ⊥) → HasPair p (front ++ q ∷ back) → HasPair p (front ++ back)
elsewhere p q [] back f h = elim h [ inl s ↦ absurd (f s.0) | inr s ↦ s ]
elsewhere p q (r ∷ front) back f h = elim h [ inl s ↦ inl s | inr s ↦ inr (elsewhere p q front back f s) ]

all_elsewhere : (k : Value) (ps : Couples) (q : Value × Value) (front back : List (Value × Value)) → IsNew k ps → Same k q.0 → AllHave ps (front ++ q ∷ back) → AllHave ps (front ++ back)
all_elsewhere k no_pairs q front back new s h = tt
all_elsewhere k (pair l v ps) q front back new s h =
    (elsewhere (l, v) q front back (λ e. new.0 (same_chained k q.0 l s (same_turned l q.0 e))) h.0, all_elsewhere k ps q front back new.1 s h.1)

pub matched : (ps : Couples) (qs : List (Value × Value)) → pair_count ps ≡ length qs → HasNewKeys ps → AllHave ps qs → (rs : List (Value × Value)) × IsPermutation qs rs × SamePairs ps rs
matched no_pairs [] n new h = ([], IsPermutation-refl [], tt)
matched no_pairs (q ∷ qs) n new h = absurd (omega arith)
matched (pair k v ps) qs n new h =
    let t = find (k, v) qs h.0 in
    let count : pair_count ps ≡ length (t.front ++ t.back) = omega (arith, ap length t.is, length-append t.front t.back, length-append t.front (t.found ∷ t.back), n) in
    let rest = all_elsewhere k ps t.found t.front t.back new.0 t.same_key (subst (AllHave ps) t.is h.1) in
    let r = matched ps (t.front ++ t.back) count new.1 rest in
    let moved : IsPermutation qs (t.found ∷ (t.front ++ t.back)) = subst (λ l. IsPermutation l (t.found ∷ (t.front ++ t.back))) (sym t.is) (IsPermutation-middle t.front t.found t.back) in
    (t.found ∷ r.0, IsPermutation-trans qs (t.found ∷ (t.front ++ t.back)) (t.found ∷ r.0) moved (IsPermutation-cons t.found (t.front ++ t.back) r.0 r.1), (t.same_key, t.same_value, r.2))

member_has : (p q : Value × Value) (qs : List (Value × Value)) → Same p.0 q.0 → Same p.1 q.1 → IsIn q qs → HasPair p qs
member_has p q [] s t i = absurd i
member_has p q (r ∷ qs) s t i =
    elim i [ inl e ↦ inl (subst (λ (z : Value × Value). Same p.0 z.0) e s, subst (λ (z : Value × Value). Same p.1 z.1) e t) | inr j ↦ inr (member_has p q qs s t j) ]

members_have : (ps : Couples) (rs qs : List (Value × Value)) → SamePairs ps rs → AreIn rs qs → AllHave ps qs
members_have no_pairs [] qs h i = tt
members_have (pair k v ps) (r ∷ rs) qs h i = (member_has (k, v) r qs h.0 h.1 i.0, members_have ps rs qs h.2 i.1)
members_have _ _ qs h i = absurd h

pub all_have : (ps qs : Couples) → Same (dict ps) (dict qs) → AllHave ps (listed qs)
all_have ps qs h = members_have ps h.0 (listed qs) h.2 (are_in_moved h.0 (listed qs) (IsPermutation-sym (listed qs) h.0 h.1))

as_many : (ps : Couples) (rs : List (Value × Value)) → SamePairs ps rs → pair_count ps ≡ length rs
as_many no_pairs [] h = refl
as_many (pair k v ps) (r ∷ rs) h = ap suc (as_many ps rs h.2)
as_many _ _ h = absurd h

pub same_count : (ps qs : Couples) → Same (dict ps) (dict qs) → pair_count ps ≡ length (listed qs)
same_count ps qs h = as_many ps h.0 h.2 ∙ length_permutation (listed qs) h.0 h.1

-- ---- one key among the pairs

pub not_new : (k l v : Value) (qs : List (Value × Value)) → IsNew l (pairs_of qs) → Same l k → HasPair (k, v) qs → ⊥
not_new k l v [] new s h = h
not_new k l v (q ∷ qs) new s h =
    elim h [ inl t ↦ new.0 (same_chained l k q.0 s t.0) | inr t ↦ not_new k l v qs new.1 s t ]

pub given_has : (k v w : Value) (qs : List (Value × Value)) → Gives k w qs → Same v w → HasPair (k, v) qs
given_has k v w [] h s = h
given_has k v w (q ∷ qs) h s =
    elim h [ inl t ↦ inl (t.0, subst (λ (z : Value). Same v z) t.1 s) | inr t ↦ inr (given_has k v w qs t s) ]

not_given : (k l v : Value) (qs : List (Value × Value)) → IsNew l (pairs_of qs) → Same l k → Gives k v qs → ⊥
not_given k l v qs new s h = not_new k l v qs new s (given_has k v v qs h (same_itself v))

-- with distinct keys the value that is given is the one
pub given_only : (k v w : Value) (qs : List (Value × Value)) → HasNewKeys (pairs_of qs) → Gives k w qs → HasPair (k, v) qs → Same v w
given_only k v w [] new g h = absurd h
given_only k v w (q ∷ qs) new g h =
    elim g [
      | inl s ↦ elim h [ inl t ↦ subst (λ (z : Value). Same v z) (sym s.1) t.1 | inr t ↦ absurd (not_new k q.0 v qs new.0 (same_turned k q.0 s.0) t) ]
      | inr s ↦ elim h [ inl t ↦ absurd (not_given k q.0 w qs new.0 (same_turned k q.0 t.0) s) | inr t ↦ given_only k v w qs new.1 s t ]
    ]

-- among pairs in two parts
pub given_after : (k v : Value) (ps qs : List (Value × Value)) → Gives k v qs → Gives k v (ps ++ qs)
given_after k v [] qs h = h
given_after k v (p ∷ ps) qs h = inr (given_after k v ps qs h)

pub given_before : (k v : Value) (ps qs : List (Value × Value)) → Gives k v ps → Gives k v (ps ++ qs)
given_before k v [] qs h = absurd h
given_before k v (p ∷ ps) qs h = elim h [ inl s ↦ inl s | inr s ↦ inr (given_before k v ps qs s) ]

pub new_in_both : (k : Value) (ps qs : List (Value × Value)) → IsNew k (pairs_of ps) → IsNew k (pairs_of qs) → IsNew k (pairs_of (ps ++ qs))
new_in_both k [] qs h g = g
new_in_both k (p ∷ ps) qs h g = (h.0, new_in_both k ps qs h.1 g)
