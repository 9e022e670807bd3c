-- What a loop over a list has passed, with the next element.
use Rattle.std.specs.Prelude.{◌≡◌, ◌+◌, ◌<◌, ◌⊎◌, ◌∷◌, ◌++◌, ◌↔◌}
use Rattle.cborn_judge.proofs.Common.{arith, ℕ, inl, inr, List, [], length, get_or, take, sym, ap, ◌∙◌, AllZip, take_more}

pub passed_one : {A : Type 0} (xs : List A) (i : ℕ) (x : A) → i < length xs → x ≡ get_or xs i x → take (i + 1) xs ≡ take i xs ++ x ∷ []
passed_one {A} xs i x l e = take_more xs i x l ∙ ap (λ (z : A). take i xs ++ z ∷ []) (sym e)

-- ---- cases in another grouping

pub same : {A : Type 0} → A ↔ A
same = ((λ h. h), (λ h. h))

pub both_ways : {A B C D : Type 0} → A ↔ C → B ↔ D → (A ⊎ B) ↔ (C ⊎ D)
both_ways h k = ((λ x. elim x [ inl a ↦ inl (h.0 a) | inr b ↦ inr (k.0 b) ]), (λ x. elim x [ inl c ↦ inl (h.1 c) | inr d ↦ inr (k.1 d) ]))

pub regrouped : {A B C D : Type 0} → (B ⊎ C) ↔ D → ((A ⊎ B) ⊎ C) ↔ (A ⊎ D)
regrouped {A} {B} {C} {D} h = (to, (λ k. elim k [ inl a ↦ inl (inl a) | inr d ↦ elim (h.1 d) [ inl b ↦ inl (inr b) | inr c ↦ inr c ] ]))
  where
    to : (A ⊎ B) ⊎ C → A ⊎ D
    to (inl (inl a)) = inl a
    to (inl (inr b)) = inr (h.0 (inl b))
    to (inr c) = inr (h.0 (inr c))

-- ---- with another list that the loop builds

module _ {A B : Type 0} (R : A → B → Type 0) where
  pub zip_append : (xs : List A) (ys : List B) (us : List A) (vs : List B) → AllZip R xs ys → AllZip R us vs → AllZip R (xs ++ us) (ys ++ vs)
  zip_append [] [] us vs h k = k
  zip_append (a ∷ xs) (b ∷ ys) us vs h k = (h.0, zip_append xs ys us vs h.1 k)
  zip_append _ _ us vs h k = absurd h

  pub zip_more : (xs : List A) (ys : List B) (x : A) (y : B) → AllZip R xs ys → R x y → AllZip R (xs ++ x ∷ []) (ys ++ y ∷ [])
  zip_more xs ys x y h r = zip_append xs ys (x ∷ []) (y ∷ []) h (r, tt)

  pub zip-take_more : (xs : List A) (i : ℕ) (x : A) (ys zs : List B) (y : B) → i < length xs → x ≡ get_or xs i x → AllZip R (take i xs) ys → R x y → zs ≡ ys ++ y ∷ [] → AllZip R (take (i + 1) xs) zs
  zip-take_more xs i x ys zs y h1 h2 h3 h4 h5 = grind (arith, passed_one, zip_more)
