-- The first of several meaning errors: there is one where there is any, and it is the first of the first ones of two parts.
use Rattle.std.specs.Prelude.{◌≡◌, ◌+◌, ◌*◌, ◌<◌, ◌≤◌, ◌∷◌, ◌++◌, ◌&&◌, ◌||◌}
use Rattle.cborn_edn.proofs.Common.{refl, sym, ap, subst, ◌∙◌, ℕ, List, [], Bool, true, false, cond, leb, ltb, eqb, Option, Some, None, arith, leb-true, leb-false, EdnReason, MeaningError, number_of, IsAmong, earlier, first_error, append-nil, append_assoc, is_nil, is_none, Notes}
use Rattle.cborn_model.specs.First.{NoLater, IsFirst}
use Rattle.cborn_model.proofs.Firsts.{no_later_on, first_alone, first_left, first_right}

low_number : (r : EdnReason) → number_of r < 64
low_number r = grind arith

-- place and number of the reason as one number
rank : MeaningError → ℕ
rank s = s.place * 64 + number_of s.reason

by_parts : (p q m n : ℕ) → m < 64 → n < 64 → (ltb p q || (eqb p q && leb m n)) ≡ leb (p * 64 + m) (q * 64 + n)
by_parts p q m n hm hn = grind arith

pick : MeaningError → MeaningError → MeaningError
pick a b = cond (leb (rank a) (rank b)) a b

picked : (a b : MeaningError) → earlier (Some a) (Some b) ≡ Some (pick a b)
unfolding pick rank
picked a b = grind (arith, by_parts, low_number, pick, rank)

pick-assoc : (a b c : MeaningError) → pick (pick a b) c ≡ pick a (pick b c)
unfolding pick rank
pick-assoc a b c = grind (arith, pick, rank)

earlier-none : (a : Option MeaningError) → earlier a None ≡ a
earlier-none a = grind arith

earlier-assoc : (a b c : Option MeaningError) → earlier (earlier a b) c ≡ earlier a (earlier b c)
earlier-assoc a b c = grind (arith, earlier-none, pick, pick-assoc, picked)

pub first-append : (a b : List MeaningError) → first_error (a ++ b) ≡ earlier (first_error a) (first_error b)
first-append [] b = refl
first-append (s ∷ a) b = ap (earlier (Some s)) (first-append a b) ∙ sym (earlier-assoc (Some s) (first_error a) (first_error b))

-- it is the one of least place, and there of least number
abbrev IsFirstOf : List MeaningError → MeaningError → Type 0
IsFirstOf l s = IsFirst number_of (IsAmong l) s.place s.reason

abbrev pub Tells : List MeaningError → Option MeaningError → Type 0
Tells l None = l ≡ []
Tells l (Some s) = IsFirstOf l s

no_later_than : (a b : MeaningError) → rank a ≤ rank b → NoLater (a.place, number_of a.reason) (b.place, number_of b.reason)
unfolding rank
no_later_than a b h1 = grind (arith, rank)

reported_second : (s t : MeaningError) (l : List MeaningError) → IsFirstOf l t → rank t < rank s → IsFirstOf (s ∷ l) t
reported_second s t l f h = first_right number_of _ (IsAmong l) t.place t.reason (λ q r e. rw (e.0, e.1) (no_later_than t s (omega arith))) f

pub nothing_among : (l : List MeaningError) (p : ℕ) (r : EdnReason) → l ≡ [] → IsAmong l p r → ⊥
nothing_among l p r e h = subst (λ k. IsAmong k p r) e h

pub tells : (l : List MeaningError) → Tells l (first_error l)
unfolding pick
tells [] = refl
tells (s ∷ l) = go (first_error l) (tells l)
  where
    go : (o : Option MeaningError) → Tells l o → Tells (s ∷ l) (earlier (Some s) o)
    go None e = first_left number_of _ (IsAmong l) s.place s.reason (first_alone number_of s.place s.reason) (λ q r i. absurd (nothing_among l q r e i))
    go (Some t) f = subst (Tells (s ∷ l)) (sym (picked s t)) (choose (leb (rank s) (rank t)) refl)
      where
        choose : (b : Bool) → leb (rank s) (rank t) ≡ b → IsFirstOf (s ∷ l) (cond b s t)
        choose true e = first_left number_of _ (IsAmong l) s.place s.reason (first_alone number_of s.place s.reason) (λ q r i. no_later_on (s.place, number_of s.reason) (t.place, number_of t.reason) (q, number_of r) (no_later_than s t (leb-true _ _ e)) (f.first q r i))
        choose false e = reported_second s t l f (leb-false _ _ e)

-- Meaning errors, noted one after another.

-- nothing is noted
pub none_noted : (old : Option MeaningError) → Notes old old []
none_noted old before e = e ∙ ap first_error (sym (append-nil before))

pub both_noted : (old mid new : Option MeaningError) (l m : List MeaningError) → Notes old mid l → Notes mid new m → Notes old new (l ++ m)
both_noted old mid new l m h k before e = k (before ++ l) (h before e) ∙ ap first_error (append_assoc before l m)

-- the first of those before and of others is noted
pub earlier_noted : (old new other : Option MeaningError) (l : List MeaningError) → other ≡ first_error l → new ≡ earlier old other → Notes old new l
earlier_noted old new other l e f before g = f ∙ ap (λ o. earlier o other) g ∙ ap (earlier (first_error before)) e ∙ sym (first-append before l)

-- whether there is a meaning error, by the first
pub none_first : (l : List MeaningError) → is_none (first_error l) ≡ is_nil l
none_first l = grind arith
