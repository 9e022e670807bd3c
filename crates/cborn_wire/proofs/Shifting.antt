-- The end of a buffer that is moved on, block by block.
use Rattle.std.specs.Prelude.{◌≡◌, ◌+◌, ◌-◌, ◌<◌, ◌≤◌, ◌++◌}
use Rattle.cborn_wire.proofs.Common.{sym, ap, ◌∙◌, subst, ℕ, List, length, take, drop, arith, take-take, take-append-drop, drop-drop, drop-take}

-- one more block of len bytes is moved: all from `at` on is, and nothing before it
pub moved : (old now next : List ℕ) (at len end more : ℕ) → end ≡ at + len → take end now ≡ take end old → drop (end + more) now ≡ drop end old → take (at + more) next ≡ take (at + more) now → drop (at + more) next ≡ take len (drop at now) ++ drop (at + more + len) now
    → (take at next ≡ take at old) × (drop (at + more) next ≡ drop at old)
moved old now next at len end more e b a mb ma =
    let fits : at ≤ at + more = omega arith in
    let inner : at ≤ end = omega (arith, e) in
    let same : take at now ≡ take at old = sym (take-take at end now inner) ∙ ap (take at) b ∙ take-take at end old inner in
    let front : take (at + len) now ≡ take (at + len) old = subst (λ (n : ℕ). take n now ≡ take n old) e b in
    let block : take len (drop at now) ≡ take len (drop at old) = sym (drop-take at len now) ∙ ap (drop at) front ∙ drop-take at len old in
    let place : at + more + len ≡ end + more = omega (arith, e) in
    let rest : drop (at + more + len) now ≡ drop len (drop at old) = ap (λ n. drop n now) place ∙ a ∙ ap (λ n. drop n old) e ∙ sym (drop-drop len at old) in
    (sym (take-take at (at + more) next fits) ∙ ap (take at) mb ∙ take-take at (at + more) now fits ∙ same, ma ∙ (λ i. block i ++ rest i) ∙ take-append-drop len (drop at old))

-- a head of len bytes in the place of the byte at start, after which len - 1 bytes of room were made
pub placed : (old roomy new head : List ℕ) (start len : ℕ) → 0 < len → length head ≡ len → take (start + 1) roomy ≡ take (start + 1) old → drop (start + 1 + (len - 1)) roomy ≡ drop (start + 1) old → new ≡ take start roomy ++ (head ++ drop (start + length head) roomy)
    → new ≡ take start old ++ (head ++ drop (start + 1) old)
placed old roomy new head start len s l b a w =
    let inner : start ≤ start + 1 = omega arith in
    let front : take start roomy ≡ take start old = sym (take-take start (start + 1) roomy inner) ∙ ap (take start) b ∙ take-take start (start + 1) old inner in
    let place : start + length head ≡ start + 1 + (len - 1) = omega (arith, s, l) in
    let rest : drop (start + length head) roomy ≡ drop (start + 1) old = ap (λ n. drop n roomy) place ∙ a in
    w ∙ (λ i. front i ++ (head ++ rest i))
