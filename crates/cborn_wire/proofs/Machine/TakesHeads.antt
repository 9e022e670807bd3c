-- The machine takes a head.
use Rattle.std.specs.Prelude.{◌≡◌, ◌+◌, ◌*◌, ◌/◌, ◌%◌, ◌<◌, ◌≤◌, ◌∷◌, ◌++◌}
use Rattle.cborn_wire.proofs.Common.{refl, sym, ap, ◌∙◌, ℕ, suc, List, [], length, cond, leb, None, arith, append_assoc, append-nil, length-append, add-one, add-zero, lt-leb, le-leb, lt-ltb, from_be_bytes-to_be_bytes_2, from_be_bytes-to_be_bytes_4, from_be_bytes-to_be_bytes_8, Width, Direct, One, Two, Four, Eight, Major, Argument, Given, EndlessArgument, code, following, head, Trees, ArgumentFits, OpenContainer, slot, open_depth, Info, Now, Next, EndlessInformation, info_at, info_for, head_reason, width_bytes, number, Goal, argument_of, nothing, gathering, Live, gather, gathered, begin_head, after_head, step, run}
pub use Rattle.cborn_model.proofs.Numbers.Majors.{major_at-code}

pub quotient : (c i : ℕ) → i < 32 → (32 * c + i) / 32 ≡ c
quotient c i h = omega arith

pub remainder : (c i : ℕ) → i < 32 → (32 * c + i) % 32 ≡ i
remainder c i h = omega arith

pub gathers : (limit : ℕ) (y : List ℕ) (fed p : ℕ) (ready : Trees) (os : List OpenContainer) (g : Goal) (n : ℕ) (got x : List ℕ) → length got + length y ≤ n
    → run limit (gather fed p ready os g n got) (y ++ x) ≡ run limit (gather (fed + length y) p ready os g n (got ++ y)) x
gathers limit [] fed p ready os g n got x h = rw (append-nil, add-zero) refl
gathers limit (b ∷ y) fed p ready os g n got x h =
    ap (λ c. run limit (step limit (cond c (gathered fed p ready os g got) (Live fed ready os (gathering p g n got))) b) (y ++ x)) (lt-leb n (length got) (omega arith))
    ∙ gathers limit y (suc fed) p ready os g n (got ++ b ∷ []) x (omega (arith, length-append got (b ∷ [])))
    ∙ (let count : suc fed + length y ≡ fed + suc (length y) = omega arith in
    ap (λ k. run limit (gather k p ready os g n ((got ++ b ∷ []) ++ y)) x) count
    ∙ ap (λ l. run limit (gather (fed + suc (length y)) p ready os g n l) x) (append_assoc got (b ∷ []) y))

-- what an initial byte does in a slot where it is allowed
pub first : (limit fed : ℕ) (ready : Trees) (os : List OpenContainer) (m : Major) (i : ℕ) (info : Info) → i < 32 → info_at i ≡ info
    → head_reason (slot os) (leb limit (open_depth os)) m info [] ≡ None
    → step limit (Live fed ready os nothing) (32 * code m + i) ≡ begin_head fed ready os m info
first limit fed ready os m i info h e r = grind (arith, quotient, remainder)

pub info_at-now : (n : ℕ) → n < 24 → info_at n ≡ Now n
info_at-now n h = rw (lt-ltb n 24 h) refl

-- a head whose argument follows the initial byte
wide : (limit fed : ℕ) (ready : Trees) (os : List OpenContainer) (m : Major) (w : Width) (i n : ℕ) (y x : List ℕ) → i < 32 → info_at i ≡ Next w
    → head_reason (slot os) (leb limit (open_depth os)) m (Next w) [] ≡ None
    → length y ≡ width_bytes w → number w y ≡ n
    → run limit (Live fed ready os nothing) ((32 * code m + i) ∷ (y ++ x)) ≡ run limit (after_head (fed + suc (length y)) fed ready os m (Given w n)) x
wide limit fed ready os m w i n y x h e r l is =
    ap (λ s. run limit s (y ++ x)) (first limit fed ready os m i (Next w) h e r)
    ∙ gathers limit y (suc fed) fed ready os (argument_of m w) (width_bytes w) [] x (omega arith)
    ∙ ap (λ c. run limit (cond c (after_head (suc fed + length y) fed ready os m (Given w (number w y))) (Live (suc fed + length y) ready os (gathering fed (argument_of m w) (width_bytes w) y))) x) (le-leb (width_bytes w) (length y) (omega arith))
    ∙ ap (λ k. run limit (after_head (suc fed + length y) fed ready os m (Given w k)) x) is
    ∙ (let count : suc fed + length y ≡ fed + suc (length y) = omega arith in
    ap (λ k. run limit (after_head k fed ready os m (Given w n)) x) count)

-- The machine takes a head where it is allowed.
pub takes_head : (limit fed : ℕ) (ready : Trees) (os : List OpenContainer) (m : Major) (a : Argument) (x : List ℕ) → ArgumentFits a
    → head_reason (slot os) (leb limit (open_depth os)) m (info_for a) [] ≡ None
    → run limit (Live fed ready os nothing) (head m a ++ x) ≡ run limit (after_head (fed + length (head m a)) fed ready os m a) x
takes_head limit fed ready os m (Given Direct n) x h r =
    ap (λ s. run limit s x) (first limit fed ready os m n (Now n) (omega arith) (info_at-now n h) r)
    ∙ ap (λ k. run limit (after_head k fed ready os m (Given Direct n)) x) (sym (add-one fed))
takes_head limit fed ready os m (Given One n) x h r = wide limit fed ready os m One 24 n (following One n) x (omega arith) refl r refl refl
takes_head limit fed ready os m (Given Two n) x h r = wide limit fed ready os m Two 25 n (following Two n) x (omega arith) refl r refl (from_be_bytes-to_be_bytes_2 n h)
takes_head limit fed ready os m (Given Four n) x h r = wide limit fed ready os m Four 26 n (following Four n) x (omega arith) refl r refl (from_be_bytes-to_be_bytes_4 n h)
takes_head limit fed ready os m (Given Eight n) x h r = wide limit fed ready os m Eight 27 n (following Eight n) x (omega arith) refl r refl (from_be_bytes-to_be_bytes_8 n h)
takes_head limit fed ready os m EndlessArgument x h r =
    ap (λ s. run limit s x) (first limit fed ready os m 31 EndlessInformation (omega arith) refl r)
    ∙ ap (λ k. run limit (after_head k fed ready os m EndlessArgument) x) (sym (add-one fed))
