-- Where a run, an indicator or a content ends is determined.
use Rattle.std.specs.Prelude.{◌≡◌, ◌∷◌, ◌++◌, ◌⊎◌}
use Rattle.cborn_lex.proofs.Common.{arith, refl, sym, ap, ◌∙◌, ℕ, List, [], Bool, true, false, not, cond, eqb, append-nil, cond-true, cond-false, and_parts, and_from, eq-eqb, eqb-true, not-false, both_ways, append_cancel_left, list_all, begins, is_word, is_not, IsRun, IsIndicator}

pub rest : (s t z w : List ℕ) → s ≡ t → s ++ z ≡ t ++ w → z ≡ w
rest s t z w e h = append_cancel_left s z w (h ∙ ap (λ x. x ++ w) (sym e))

-- Runs.

abbrev pub run : (ℕ → Bool) → List ℕ → List ℕ
run p [] = []
run p (c ∷ y) = cond (p c) (c ∷ run p y) []

pub run_is : (p : ℕ → Bool) (s z : List ℕ) → list_all p s ≡ true → begins p z ≡ false → run p (s ++ z) ≡ s
run_is p [] [] h e = refl
run_is p [] (c ∷ z) h e = cond-false (p c) _ _ e
run_is p (c ∷ s) z h e = let hs = and_parts (p c) (list_all p s) h in cond-true (p c) _ _ hs.0 ∙ ap (λ r. c ∷ r) (run_is p s z hs.1 e)

pub one_run : (p : ℕ → Bool) (s t z w : List ℕ) → IsRun p s z → IsRun p t w → s ++ z ≡ t ++ w → s ≡ t
one_run p s t z w h k e = sym (run_is p s z h.pass h.ends) ∙ (ap (run p) e ∙ run_is p t w k.pass k.ends)

pub record Cut (p : ℕ → Bool) (y : List ℕ) : Type 0 where
  pub s : List ℕ
  pub z : List ℕ
  pub whole : y ≡ s ++ z
  pub run : IsRun p s z

cut_more : (p : ℕ → Bool) (c : ℕ) (y : List ℕ) (b : Bool) → p c ≡ b → Cut p y → Cut p (c ∷ y)
cut_more p c y true e r = record { s = c ∷ r.s; z = r.z; whole = ap (λ x. c ∷ x) r.whole; run = record { pass = and_from (p c) _ e r.run.pass; ends = r.run.ends } }
cut_more p c y false e r = record { s = []; z = c ∷ y; whole = refl; run = record { pass = refl; ends = e } }

pub cut : (p : ℕ → Bool) (y : List ℕ) → Cut p y
cut p [] = record { s = []; z = []; whole = refl; run = record { pass = refl; ends = refl } }
cut p (c ∷ y) = cut_more p c y (p c) refl (cut p y)

-- Indicators.

abbrev pub indicator : List ℕ → List ℕ
indicator [] = []
indicator (c ∷ y) = cond (eqb c 95) (c ∷ run is_word y) []

pub indicator_is : (s z : List ℕ) → IsIndicator s z → indicator (s ++ z) ≡ s
indicator_is s z h1 = grind (arith, cond-false, cond-true, run_is)

pub one_indicator : (s t z w : List ℕ) → IsIndicator s z → IsIndicator t w → s ++ z ≡ t ++ w → s ≡ t
one_indicator s t z w h k e = sym (indicator_is s z h) ∙ (ap indicator e ∙ indicator_is t w k)

pub record Marks (y : List ℕ) : Type 0 where
  pub s : List ℕ
  pub z : List ℕ
  pub whole : y ≡ s ++ z
  pub indicator : IsIndicator s z

marks_from : (c : ℕ) (y : List ℕ) (b : Bool) → eqb c 95 ≡ b → Marks (c ∷ y)
marks_from c y true e = let r = cut is_word y in record { s = c ∷ r.s; z = r.z; whole = ap (λ x. c ∷ x) r.whole; indicator = (e, r.run) }
marks_from c y false e = record { s = []; z = c ∷ y; whole = refl; indicator = e }

pub marks : (y : List ℕ) → Marks y
marks [] = record { s = []; z = []; whole = refl; indicator = refl }
marks (c ∷ y) = marks_from c y (eqb c 95) refl

-- Contents up to a quote.

pub record Found (whole : List ℕ → Bool) (q : ℕ) (y : List ℕ) : Type 0 where
  pub content : List ℕ
  pub after : List ℕ
  pub inside : whole content ≡ true
  pub text : y ≡ content ++ q ∷ after

pub record Closer (whole unclosed : List ℕ → Bool) (q : ℕ) : Type 0 where
  pub find : (y : List ℕ) → Found whole q y ⊎ (unclosed y ≡ true)
  pub one : (c d x y : List ℕ) → whole c ≡ true → whole d ≡ true → c ++ q ∷ x ≡ d ++ q ∷ y → c ≡ d
  pub apart : (c x : List ℕ) → whole c ≡ true → unclosed (c ++ q ∷ x) ≡ true → ⊥

-- the first q
module _ (q : ℕ) where
  stops : (x : List ℕ) → begins (is_not q) (q ∷ x) ≡ false
  stops x = ap not (eq-eqb q q refl)

  found_from : (y z s : List ℕ) → y ≡ s ++ z → list_all (is_not q) s ≡ true → begins (is_not q) z ≡ false → Found (list_all (is_not q)) q y ⊎ (list_all (is_not q) y ≡ true)
  found_from y z s h1 h2 h3 = grind (arith, append-nil, eqb-true, not-false)

  plain_apart : (c x : List ℕ) → list_all (is_not q) c ≡ true → list_all (is_not q) (c ++ q ∷ x) ≡ true → ⊥
  plain_apart [] x h k = both_ways (not (eqb q q)) (stops x) (and_parts _ _ k).0
  plain_apart (d ∷ c) x h k = plain_apart c x (and_parts _ _ h).1 (and_parts _ _ k).1

  pub plain : Closer (list_all (is_not q)) (list_all (is_not q)) q
  plain = record {
    find = λ y. let r = cut (is_not q) y in found_from y r.z r.s r.whole r.run.pass r.run.ends;
    one = λ c d x y h k e. one_run (is_not q) c d (q ∷ x) (q ∷ y) (record { pass = h; ends = stops x }) (record { pass = k; ends = stops y }) e;
    apart = plain_apart;
  }
