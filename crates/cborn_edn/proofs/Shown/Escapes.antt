-- Text with its escapes, run by run.
use Rattle.std.specs.Prelude.{◌≡◌, ◌+◌, ◌-◌, ◌<◌, ◌≤◌, ◌∷◌, ◌++◌}
use Rattle.cborn_edn.proofs.Common.{sym, ap, ◌∙◌, ℕ, List, [], length, take, drop, get_or, false, append_assoc, append-nil, arith, flat_map, take_more, get_or-drop, length-drop, flat_map-append, escaped}
use Rattle.cborn_edn.specs.devices.Notating.{is_escaped}

pub plain : (b : ℕ) → is_escaped b ≡ false → escaped b ≡ b ∷ []
plain b h = grind (arith, h)

-- what is written of the first i bytes of the text, and of the run from a place on nothing yet
pub record Written (before out text : List ℕ) (from i : ℕ) : Type 0 where
  pub below : from ≤ i
  pub so_far : out ++ take (i - from) (drop from text) ≡ before ++ flat_map escaped (take i text)

run-more : (xs : List ℕ) (from i : ℕ) → from ≤ i → i < length xs → take (i + 1 - from) (drop from xs) ≡ take (i - from) (drop from xs) ++ get_or xs i 0 ∷ []
run-more xs from i h g =
    let n : i + 1 - from ≡ (i - from) + 1 = omega arith in
    let m : from + (i - from) ≡ i = omega arith in
    let k : i - from < length (drop from xs) = omega (arith, length-drop from xs) in
    ap (λ j. take j (drop from xs)) n ∙ take_more (drop from xs) (i - from) 0 k ∙ ap (λ x. take (i - from) (drop from xs) ++ x ∷ []) (get_or-drop from xs (i - from) 0 ∙ ap (λ j. get_or xs j 0) m)

escaped-more : (xs : List ℕ) (i : ℕ) → i < length xs → flat_map escaped (take (i + 1) xs) ≡ flat_map escaped (take i xs) ++ escaped (get_or xs i 0)
escaped-more xs i h =
    ap (flat_map escaped) (take_more xs i 0 h) ∙ flat_map-append escaped (take i xs) (get_or xs i 0 ∷ []) ∙ ap (λ l. flat_map escaped (take i xs) ++ l) (append-nil (escaped (get_or xs i 0)))

pub run_on : (before out text : List ℕ) (from i : ℕ) → i < length text → is_escaped (get_or text i 0) ≡ false → Written before out text from i → Written before out text from (i + 1)
run_on before out text from i h e w = record {
  below = omega (arith, w.below);
  so_far = ap (λ l. out ++ l) (run-more text from i w.below h) ∙ sym (append_assoc out (take (i - from) (drop from text)) (get_or text i 0 ∷ [])) ∙ ap (λ l. l ++ get_or text i 0 ∷ []) w.so_far ∙ append_assoc before (flat_map escaped (take i text)) (get_or text i 0 ∷ []) ∙ ap (λ l. before ++ l) (ap (λ l. flat_map escaped (take i text) ++ l) (sym (plain (get_or text i 0) e)) ∙ sym (escaped-more text i h));
}

pub escape_on : (before out o1 o2 text : List ℕ) (from i : ℕ) → i < length text → o1 ≡ out ++ take (i - from) (drop from text) → o2 ≡ o1 ++ escaped (get_or text i 0) → Written before out text from i → Written before o2 text (i + 1) (i + 1)
escape_on before out o1 o2 text from i h a b w = record {
  below = omega arith;
  so_far = let z : (i + 1) - (i + 1) ≡ 0 = omega arith in ap (λ n. o2 ++ take n (drop (i + 1) text)) z ∙ append-nil o2 ∙ b ∙ ap (λ o. o ++ escaped (get_or text i 0)) (a ∙ w.so_far) ∙ append_assoc before (flat_map escaped (take i text)) (escaped (get_or text i 0)) ∙ ap (λ l. before ++ l) (sym (escaped-more text i h));
}
