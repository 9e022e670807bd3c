-- The path into the levels of a walk is that into what is open, and its fronts lead to where the levels begin.
use Rattle.std.specs.Prelude.{◌≡◌, ◌+◌, ◌/◌, ◌^◌, ◌<◌, ◌≤◌, ◌∷◌, ◌++◌}
use Rattle.cborn_explain.proofs.Common.{refl, sym, ap, ◌∙◌, subst, ℕ, zero, suc, List, [], length, take, drop, get_or, cond, ltb, eqb, Bool, true, false, Option, Some, None, inl, inr, arith, append_assoc, length-append, cases_lt, length-take-le, take-append-drop, take-append-le, take_all, take_at, Tree, trees, spelled_all, Opening, an_array, a_map, a_tag, in_chunks, Partial, top, inside, paired, last_key, opened, opening, beginning, beginnings, Level, front, ready, open_in, lessened, level_in, levels, step_in_map, step_in, steps, EndsAt, step_of, path_of, place_at, Opened}
use Rattle.cborn_model.proofs.Lengths.{no_more_nodes}
use Rattle.cborn_model.proofs.Listed.Trees.{count-trees}
use Rattle.cborn_wire.specs.shared.Ground.{place_of}
use Rattle.cborn_wire.proofs.Machine.Containers.{pair_count, even}
use Rattle.cborn_wire.proofs.Visiting.Counting.{odd}
use Rattle.cborn_wire.specs.declared.levels.LevelKind.TheVariants.{Map, GreatMap}
use Rattle.cborn_wire.specs.shared.Visiting.{parts_in}
use Rattle.cborn_explain.specs.devices.Walks.{pair_step, step_with}
use Rattle.cborn_wire.proofs.Machine.SoundItems.{ground_less}
use Rattle.cborn_explain.specs.declared.paths.Step.TheVariants.{Item, Element, Key, Value, Chunk as AChunk}

-- A list of nodes isn't longer than the bytes that spell it, so its length is exact in bytes that are in memory.

step_same : (o : Opening) (ts : List Tree) → length (beginning (opened o ts)) < 2 ^ 64 → step_of (level_in o ts) ≡ step_in (opened o ts)
step_same o ts short = go o (omega (arith, no_more_nodes ts, short, length-append (opening o) (spelled_all (trees ts))))
  where
    in_map : (k : ℕ) (x : Option Tree) → last_key ts ≡ x → k ≡ length ts → pair_step k ≡ step_in_map (length (paired ts)) x
    in_map k None e same = ap (λ b. cond b (Key (k / 2)) (Value (k / 2))) (ap (λ r. eqb r 0) {y = 0} (omega (arith, same, even ts e))) ∙ ap Key (omega (arith, same, pair_count ts))
    in_map k (Some t) e same = ap (λ b. cond b (Key (k / 2)) (Value (k / 2))) (ap (λ r. eqb r 0) {y = 1} (omega (arith, same, odd ts t e))) ∙ ap Value (omega (arith, same, pair_count ts))

    go : (o : Opening) → length ts < 2 ^ 64 → step_of (level_in o ts) ≡ step_in (opened o ts)
    go (an_array p s (Some n)) short = ap Element (omega (arith, short))
    go (an_array p s None) short = ap Element (omega (arith, short))
    go (a_map p s (Some n)) short = great (ltb (length ts + 2 ^ 64) (n + n))
      where
        great : (b : Bool) → step_with (cond b GreatMap Map) n (parts_in (cond b GreatMap Map) n (lessened (n + n) (length ts))) ≡ step_in_map (length (paired ts)) (last_key ts)
        great true = in_map _ (last_key ts) refl (omega (arith, short))
        great false = in_map _ (last_key ts) refl (omega (arith, short))
    go (a_map p s None) short = in_map _ (last_key ts) refl (omega (arith, short))
    go (a_tag p w n) short = refl
    go (in_chunks p k) short = ap AChunk (omega (arith, short))

path_append : (ls : List Level) (l : Level) → path_of (ls ++ l ∷ []) ≡ path_of ls ++ step_of l ∷ []
path_append [] l = refl
path_append (m ∷ ls) l = ap (λ p. step_of m ∷ p) (path_append ls l)

pub path_is : (f : Partial) → length (front (ready f) (open_in f)) < 2 ^ 64 → path_of (levels f) ≡ steps (ready f) (open_in f)
path_is (top ts) short = ap (λ n. Item n ∷ []) (omega (arith, no_more_nodes ts, length-append (spelled_all (trees ts)) [], short) ∙ sym (count-trees ts))
path_is (inside f o ts) short =
    let all = length-append (spelled_all (ready f)) (beginnings (open_in f) ++ beginning (opened o ts)) in
    let both = length-append (beginnings (open_in f)) (beginning (opened o ts)) in
    path_append (levels f) _
    ∙ ap (λ p. p ++ step_of (level_in o ts) ∷ []) (path_is f (omega (arith, short, all, both, length-append (spelled_all (ready f)) (beginnings (open_in f)))))
    ∙ ap (λ s. steps (ready f) (open_in f) ++ s ∷ []) (step_same o ts (omega (arith, short, all, both)))

-- where the levels begin

pub place_there : (ls : List Level) (k at : ℕ) (d : Level) → k < length ls → place_at ls k at ≡ (get_or ls k d).place
place_there [] k at d h = absurd (omega (arith, h))
place_there (l ∷ ls) zero at d h = refl
place_there (l ∷ ls) (suc k) at d h = place_there ls k at d (omega (arith, h))

pub place_beyond : (ls : List Level) (k at : ℕ) → length ls ≤ k → place_at ls k at ≡ at
place_beyond [] k at h = refl
place_beyond (l ∷ ls) zero at h = absurd (omega (arith, h))
place_beyond (l ∷ ls) (suc k) at h = place_beyond ls k at (omega (arith, h))

place_append : (ls : List Level) (l : Level) (k at : ℕ) → k ≤ length ls → place_at (ls ++ l ∷ []) k at ≡ place_at ls k l.place
place_append [] l zero at h = refl
place_append [] l (suc k) at h = absurd (omega (arith, h))
place_append (m ∷ ls) l zero at h = refl
place_append (m ∷ ls) l (suc k) at h = place_append ls l k at (omega (arith, h))

length_path : (ls : List Level) → length (path_of ls) ≡ length ls
length_path [] = refl
length_path (l ∷ ls) = omega (arith, length_path ls)

pub some_path : (f : Partial) → 0 < length (path_of (levels f))
some_path (top ts) = omega arith
some_path (inside f o ts) = omega (arith, length_path (levels (inside f o ts)), length-append (levels f) (level_in o ts ∷ []))

-- The bytes before the head of the innermost open container end with what is open around it.
opened_back : (x : List ℕ) (at : ℕ) (f : Partial) (o : Opening) (ts : List Tree) → Opened x at (inside f o ts) → (place_of o ≤ at) × Opened x (place_of o) f
opened_back x at f o ts h =
    let before = front (ready f) (open_in f) in
    let more = beginning (opened o ts) in
    let p : place_of o ≡ 0 + length (spelled_all (ready f)) + length (beginnings (open_in f)) = h.ground.open_placed.0.0 in
    let len : length before ≡ place_of o = omega (arith, p, length-append (spelled_all (ready f)) (beginnings (open_in f))) in
    let longer : take at x ≡ before ++ more = h.bytes ∙ sym (append_assoc (spelled_all (ready f)) (beginnings (open_in f)) more) in
    let below : place_of o ≤ at = omega (arith, len, ap length longer, length-append before more, length-take-le at x h.within) in
    let whole : x ≡ before ++ (more ++ drop at x) = sym (take-append-drop at x) ∙ ap (λ k. k ++ drop at x) longer ∙ append_assoc before more (drop at x) in
    (below, record { within = omega (arith, below, h.within); ground = ground_less 1024 0 (ready f) (open_in f) (opened o ts) h.ground; bytes = ap (take (place_of o)) whole ∙ take_at before (more ++ drop at x) (place_of o) len })

pub opened_ends : (x : List ℕ) (at : ℕ) (f : Partial) → length x < 2 ^ 64 → Opened x at f → EndsAt (take at x) (path_of (levels f))
opened_ends x at f h1 h2 = grind (arith, length, length-take-le, open_in, path_is, ready)

-- A front of the path leads to where the next level begins.

abbrev Front : List ℕ → Partial → ℕ → ℕ → Type 0
Front x f at k = (place_at (levels f) k at ≤ at) × EndsAt (take (place_at (levels f) k at) x) (take k (path_of (levels f)))

whole_ends : (x : List ℕ) (f : Partial) (at k : ℕ) → length x < 2 ^ 64 → Opened x at f → length (levels f) ≤ k → Front x f at k
whole_ends x f at k short h beyond =
    let there = place_beyond (levels f) k at beyond in
    (omega (arith, there), subst (λ n. EndsAt (take n x) (take k (path_of (levels f)))) (sym there) (subst (EndsAt (take at x)) (sym (take_all k (path_of (levels f)) (omega (arith, length_path (levels f), beyond)))) (opened_ends x at f short h)))

further : (x : List ℕ) (f : Partial) (o : Opening) (ts : List Tree) (at k : ℕ) → k ≤ length (levels f) → place_of o ≤ at → Front x f (place_of o) k → Front x (inside f o ts) at k
further x f o ts at k low below before =
    let l : Level = level_in o ts in
    let there = place_append (levels f) l k at low in
    let path : take k (path_of (levels f ++ l ∷ [])) ≡ take k (path_of (levels f)) = ap (take k) (path_append (levels f) l) ∙ take-append-le k (path_of (levels f)) (step_of l ∷ []) (omega (arith, length_path (levels f), low)) in
    (omega (arith, there, before.0, below), subst (λ n. EndsAt (take n x) (take k (path_of (levels f ++ l ∷ [])))) (sym there) (subst (EndsAt (take (place_at (levels f) k (place_of o)) x)) (sym path) before.1))

pub front_ends : (x : List ℕ) (f : Partial) (at k : ℕ) → length x < 2 ^ 64 → Opened x at f → 0 < k → (place_at (levels f) k at ≤ at) × EndsAt (take (place_at (levels f) k at) x) (take k (path_of (levels f)))
front_ends x (top ts) at k short h some = whole_ends x (top ts) at k short h (omega (arith, some))
front_ends x (inside f o ts) at k short h some =
    let back = opened_back x at f o ts h in
    let before = front_ends x f (place_of o) k short back.1 some in
    elim (cases_lt k (length (levels (inside f o ts)))) [
      | inl less ↦ further x f o ts at k (omega (arith, less, length-append (levels f) (level_in o ts ∷ []))) back.0 before
      | inr beyond ↦ whole_ends x (inside f o ts) at k short h beyond
    ]
