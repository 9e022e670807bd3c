-- A block of up to 64 characters at once: how many come before the first of a kind.
use Rattle.std.specs.Prelude.{◌≡◌, ◌+◌, ◌<◌, ◌≤◌, ◌^◌, ◌%◌, ◌∷◌}
use Rattle.cborn_edn.proofs.Common.{refl, sym, ap, ap₂, ◌∙◌, subst, ℕ, zero, suc, List, [], length, take, drop, get_or, map, replicate, Bool, true, false, not, cond, eqb, arith, and_parts, eq-eqb, eqb-true, ne_eqb, cond-true, cond-false, false≢true, take-take, length-map, list_all, prefix_len, Profile, is_white, is_not, TokensBetween}
use Rattle.std.proofs.lemmas.List.Sums.{prefix_len-le-length}
use Rattle.std.proofs.lemmas.Simd.{zip2_splat, map-map, mask_l-mod, first_set_mask_l, length-chunk, run_in_chunk_stops}
use Rattle.std.specs.Simd.Lanes.{zip2, mask_l, top}
use Rattle.cborn_edn.proofs.Reader.CommonTokens.{nothing, join, white_here, begins_here}
use lib.Count.{count_trailing_zeros}

-- the bit of each in a block, by what says it of one
pub marked : (width : ℕ) → width ≤ 64 → (f : ℕ → ℕ → ℕ) (p : ℕ → Bool) (c : ℕ) (v : List ℕ) → ((d : ℕ) → top 7 (f d c) ≡ p d) → length v ≡ width → mask_l (map (top 7) (zip2 f v (replicate width c))) % 2 ^ 64 ≡ mask_l (map p v)
marked width most f p c v each long =
    ap (λ l. mask_l l % 2 ^ 64) (ap (map (top 7)) (zip2_splat f v width c long) ∙ map-map (top 7) (λ d. f d c) v ∙ lanes v)
    ∙ mask_l-mod (map p v) 64 (omega (arith, length-map v p, long, most))
  where
    lanes : (v : List ℕ) → map (λ d. top 7 (f d c)) v ≡ map p v
    lanes [] = refl
    lanes (d ∷ v) = ap₂ (λ b bs. b ∷ bs) (each d) (lanes v)

pub top_if : (b : Bool) → top 7 (cond b 255 0) ≡ b
top_if b = grind arith

-- how many elements come before the first that p holds of

before_one : (p : ℕ → Bool) (b : Bool) (c n : ℕ) (x : List ℕ) → p c ≡ b → list_all (λ d. not (p d)) (take n x) ≡ true → list_all (λ d. not (p d)) (take (cond (not b) (1 + n) 0) (c ∷ x)) ≡ true
before_one p b c n x h1 h2 = grind arith

before : (p : ℕ → Bool) (x : List ℕ) → list_all (λ d. not (p d)) (take (prefix_len (λ c. not (p c)) x) x) ≡ true
before p [] = refl
before p (c ∷ x) = before_one p (p c) c (prefix_len (λ c. not (p c)) x) x refl (before p x)

module _ (width : ℕ) (most : width ≤ 64) (p : ℕ → Bool) (text : List ℕ) (at found : ℕ) (room : at + width ≤ length text) (e : found ≡ mask_l (map p (take width (drop at text)))) where
  long : length (take width (drop at text)) ≡ width
  long = length-chunk at width text room

  counted : cond (eqb found 0) width (count_trailing_zeros 64 found) ≡ prefix_len (λ c. not (p c)) (take width (drop at text))
  counted = ap (λ m. cond (eqb m 0) width (count_trailing_zeros 64 m)) e ∙ first_set_mask_l p (take width (drop at text)) width long most

  small : cond (eqb found 0) width (count_trailing_zeros 64 found) ≤ width
  small = omega (arith, counted, prefix_len-le-length (λ c. not (p c)) (take width (drop at text)), long)

  none_before : list_all (λ d. not (p d)) (take (cond (eqb found 0) width (count_trailing_zeros 64 found)) (drop at text)) ≡ true
  none_before =
      ap (list_all (λ d. not (p d))) (sym (take-take _ width (drop at text) small) ∙ ap (λ n. take n (take width (drop at text))) counted) ∙ before p (take width (drop at text))

  -- LAW: none of the block is marked
  pub none_found : found ≡ 0 → list_all (λ d. not (p d)) (take width (drop at text)) ≡ true
  none_found h = subst (λ (n : ℕ). list_all (λ d. not (p d)) (take n (drop at text)) ≡ true) (cond-true (eqb found 0) width (count_trailing_zeros 64 found) (eq-eqb found 0 h)) none_before

  -- LAW: those before the first that is marked
  pub first_found : (found ≡ 0 → ⊥) → (count_trailing_zeros 64 found ≤ width) × (list_all (λ d. not (p d)) (take (count_trailing_zeros 64 found) (drop at text)) ≡ true)
  first_found h = subst (λ (n : ℕ). (n ≤ width) × (list_all (λ d. not (p d)) (take n (drop at text)) ≡ true)) (cond-false (eqb found 0) width (count_trailing_zeros 64 found) (ne_eqb found 0 h)) (small, none_before)

  -- LAW: the first that is marked
  pub first_marked : (found ≡ 0 → ⊥) → count_trailing_zeros 64 found < width → p (get_or text (at + count_trailing_zeros 64 found) 0) ≡ true
  first_marked h l = run_in_chunk_stops p text at width (count_trailing_zeros 64 found) 0 room (sym (cond-false (eqb found 0) width (count_trailing_zeros 64 found) (ne_eqb found 0 h)) ∙ counted) l

-- LAW: spaces, one after another
pub spaces_here : (profile : Profile) (text : List ℕ) (n at : ℕ) → at + n ≤ length text → list_all (λ d. not (is_not 32 d)) (take n (drop at text)) ≡ true → TokensBetween profile text at (at + n) []
spaces_here profile text zero at h a = let e : at ≡ at + 0 = omega arith in subst (λ (m : ℕ). TokensBetween profile text at m []) e (nothing profile text at)
spaces_here profile text (suc n) at h a =
    let inside : at < length text = omega (arith, h) in
    let c = get_or text at 0 in
    let parts = and_parts (not (is_not 32 c)) (list_all (λ d. not (is_not 32 d)) (take n (drop (at + 1) text))) (subst (λ (x : List ℕ). list_all (λ d. not (is_not 32 d)) (take (suc n) x) ≡ true) (begins_here text at c inside refl) a) in
    let e : at + 1 + n ≡ at + suc n = omega arith in
    subst (λ (m : ℕ). TokensBetween profile text at m []) e
    (join profile text at (at + 1) (at + 1 + n) [] [] (white_here profile text at inside (space_is_white c (eqb c 32) refl parts.0)) (spaces_here profile text n (at + 1) (omega (arith, h)) parts.1))
  where
    space_is_white : (c : ℕ) (b : Bool) → eqb c 32 ≡ b → not (not (eqb c 32)) ≡ true → is_white c ≡ true
    space_is_white c true e h = subst (λ (d : ℕ). is_white d ≡ true) (sym (eqb-true c 32 e)) refl
    space_is_white c false e h = absurd (false≢true (sym (ap (λ b. not (not b)) e) ∙ h))
