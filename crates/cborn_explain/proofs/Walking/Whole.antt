-- A walk is where the longest front that ends between two heads ends.
use Rattle.std.specs.Prelude.{◌≡◌, ◌^◌, ◌<◌, ◌≤◌, ◌∷◌, ◌++◌, ◌⊎◌}
use Rattle.cborn_explain.proofs.Common.{refl, sym, ap, ◌∙◌, subst, ℕ, List, [], length, take, drop, Option, Some, None, Result, Ok, Err, IfOk, alloc_error, inl, inr, arith, append-nil, length-append, zero-add, length-take-le, take-append-drop, take-append-le, take_all, take_at, take-append_seam, unwrap_or, Trees, depth_all, FitsAll, Partial, Part, no_part, part, WireReason, Level, OpenContainer, slot, open_depth, AreOpen, argument_of, content_of, Unfinished, nothing, gathering, Live, Failed, ready_in, start, front, partial_bytes, run, ready, open_in, unfinished, levels, seen_head, HereAt, IsFed, Reads, head_at, next_head, Step, EndsAt, LeadsTo, path_of, Places, IsHeld, place_in, IsOver, IsWalked}
use Rattle.cborn_model.specs.Bytes.{AreBytes}
use Rattle.cborn_model.proofs.Bytes.{bytes-left}
use Rattle.cborn_wire.specs.declared.faults.VisitFault.{VisitFault}
use Rattle.cborn_wire.specs.declared.faults.VisitFault.TheVariants.{Refused, Memory}
use Rattle.cborn_wire.specs.declared.head_readers.HeadReader.{HeadReader}
use Rattle.cborn_wire.specs.declared.head_readers.PartialHead.{PartialHead}
use Rattle.cborn_wire.proofs.Machine.Running.{run-append}
use Rattle.cborn_wire.proofs.Machine.SoundItems.{SoundLive, Sound}
use Rattle.cborn_wire.proofs.Machine.SoundRuns.{sound}
use Rattle.cborn_wire.proofs.Spelled.SlotLaws.{opened}
use Rattle.cborn_explain.proofs.Walking.Places.{place_rises}
use Rattle.cborn_explain.proofs.Walking.Levels.{opened_ends}

-- A front that ends between two heads is one that the machine takes.

pub record Between (g : List ℕ) : Type 0 where
  pub items : Trees
  pub os : List OpenContainer
  pub is : run 1024 (start 0) g ≡ Live (length g) items os nothing

between : (g : List ℕ) (ts : Trees) (os : List OpenContainer) → FitsAll ts → depth_all ts ≤ 1024 → AreOpen 1024 os → g ≡ front ts os → Between g
between g ts os fits deep are_open is =
    let a = opened 1024 0 g (slot os) (open_depth os) (ts, os, fits, deep, are_open, is, refl, refl) in
    record { items = a.ready; os = a.os; is = a.is ∙ ap (λ n. Live n a.ready a.os nothing) (zero-add (length g)) }

-- no head comes next before such a front ends
after_front : (g y : List ℕ) → Between g → length g ≤ place_in (run 1024 (start 0) (g ++ y))
after_front g y b = subst (λ s. length g ≤ place_in s) (sym (run-append 1024 (start 0) g y ∙ ap (λ s. run 1024 s y) b.is)) (place_rises 1024 (length g) b.items b.os y)

pub near : (n m : ℕ) (x : List ℕ) → n ≤ m → m ≤ length x → take n (take m x) ≡ take n x
near n m x low up = sym (ap (take n) (sym (take-append-drop m x)) ∙ take-append-le n (take m x) (drop m x) (omega (arith, low, length-take-le m x up)))

-- What the reader keeps after all of y.

module _ (y : List ℕ) (bytes : AreBytes y) where
  place_front : (fed : ℕ) (rd : Trees) (os : List OpenContainer) (q : Unfinished) → SoundLive 1024 0 y fed rd os q → place_in (Live fed rd os q) ≡ length (front rd os)
  place_front fed rd os q h1 = grind (arith, argument_of, content_of, front, gathering, length, length-append, nothing)

  over : (f : Partial) (fed at : ℕ) (q : Unfinished) → run 1024 (start 0) y ≡ Live fed (ready f) (open_in f) q → place_in (Live fed (ready f) (open_in f) q) ≡ at → IsOver y at (levels f)
  over f fed at q h1 h2 = grind (arith, front, length, length-append, open_in, opened, partial_bytes, place_front, place_in, ready, sound, take, take_at)

  read_over : (v : Places) (around : List Level) (l : Level) (left at place : ℕ) (h : Option PartialHead) → HereAt (IsHeld v) around l left at h (run 1024 (start 0) y) → place ≡ unwrap_or v.string (head_at at h) → IsOver y place (around ++ l ∷ [])
  read_over v around l left at place (Some h) (short, f, held, keeps, takes, is) there = subst (IsOver y place) keeps.0 (over f at place (seen_head h) is (sym (there ∙ ap (λ o. unwrap_or o (head_at at (Some h))) held.3)))
  read_over v around l left at place None s there = subst (IsOver y place) s.levels.0 (over s.partial at place (unfinished s.amid) s.is (go s.amid s.held))
    where
      go : (c : Part) → IsHeld v s.partial c → place_in (Live at (ready s.partial) (open_in s.partial) (unfinished c)) ≡ place
      go no_part held = sym (there ∙ ap (λ o. unwrap_or o at) held.3)
      go (part p k w n x) held = sym (there ∙ ap (λ o. unwrap_or o at) held.3)

-- A head is refused: the bytes before it end between two heads.
before_fault : (y : List ℕ) → AreBytes y → (ts : Trees) (p : ℕ) (r : WireReason) → run 1024 (start 0) y ≡ Failed ts p r → (p ≤ length y) × Between (take p y)
before_fault y h1 ts p r h2 = grind (arith, append-nil, between, front, length, length-append, sound, take, take_at)

-- A reader that is handed the bytes of x up to the place.
module _ (x : List ℕ) (place : ℕ) (within : place ≤ length x) (bytes : AreBytes x) where
  abbrev y : List ℕ
  y = take place x

  walked : (n at : ℕ) (ls : List Level) → n ≤ length y → IsOver (take n y) at ls → place_in (run 1024 (start 0) y) ≡ at → IsWalked x place at ls
  walked n at ls low over there =
      let up : at ≤ n = omega (arith, over.opened.within, length-take-le n y low) in
      let all = length-take-le place x within in
      record {
        partial = over.partial;
        kept = over.kept;
        opened = record { within = omega (arith, up, low, all, within); ground = over.opened.ground; bytes = sym (near at n y up low ∙ near at place x (omega (arith, up, low, all)) within) ∙ over.opened.bytes };
        low = omega (arith, up, low, all);
        longest = longest;
      }
    where
      longest : (g z : List ℕ) (other : List Step) → x ≡ g ++ z → length g ≤ place → EndsAt g other → length g ≤ at
      longest g z other whole below (ts, os, fits, deep, are_open, is, path) =
          let front_is : take (length g) y ≡ g = near (length g) place x below within ∙ ap (take (length g)) whole ∙ take-append_seam g z in
          let split : g ++ drop (length g) y ≡ y = ap (λ l. l ++ drop (length g) y) (sym front_is) ∙ take-append-drop (length g) y in
          omega (arith, after_front g (drop (length g) y) (between g ts os fits deep are_open is), ap (λ l. place_in (run 1024 (start 0) l)) split, there)

  -- A reader that refuses a head stands before it.
  stands_there : (holds : Partial → Part → Type 0) (around : List Level) (l : Level) (left at n : ℕ) (h : Option PartialHead) (ts : Trees) (p : ℕ) (r : WireReason) → run 1024 (start 0) y ≡ Failed ts p r → n ≤ length y → AreBytes (take n y)
      → HereAt holds around l left at h (run 1024 (start 0) (take n y)) → head_at at h ≡ p → place_in (run 1024 (start 0) (take n y)) ≡ p
  stands_there holds around l left at n (Some h) ts p r fails low are (short, f, held, keeps, takes, is) next = ap place_in is ∙ next
  stands_there holds around l left at n None ts p r fails low are here next =
      let before = before_fault y (bytes-left y (drop place x) (subst AreBytes (sym (take-append-drop place x)) bytes)) ts p r fails in
      let s : SoundLive 1024 0 (take n y) at (ready here.partial) (open_in here.partial) (unfinished here.amid) = subst (Sound 1024 0 (take n y)) here.is (sound 1024 0 (take n y) are) in
      let all : n ≡ p = omega (arith, s.fed_is, next, length-take-le n y low) in
      ap (λ k. place_in (run 1024 (start 0) (take k y))) all ∙ ap place_in before.1.is ∙ length-take-le p y before.0

  pub read_to : (v : Places) (around : List Level) (l : Level) (m : HeadReader) (at : ℕ) (r : Result ℕ VisitFault) → Reads (IsHeld v) around l m 0 [] y r → (r ≡ Err (Memory alloc_error) → ⊥) → IfOk r (λ n. n ≡ length y) → m.limit ≡ 1024 → at ≡ unwrap_or v.string (next_head m)
      → IsWalked x place at (around ++ l ∷ [])
  read_to v around l m at r reads never end limited there = go r reads never end
    where
      here : (n : ℕ) → IsFed (IsHeld v) around l m 0 (take n y) → HereAt (IsHeld v) around l m.left m.at m.head (run 1024 (start 0) (take n y))
      here n fed = subst (λ k. HereAt (IsHeld v) around l m.left m.at m.head (run k (start 0) (take n y))) limited fed.2

      over : (n : ℕ) → IsFed (IsHeld v) around l m 0 (take n y) → IsOver (take n y) at (around ++ l ∷ [])
      over n fed = read_over (take n y) fed.0 v around l m.left m.at at m.head (here n fed) there

      go : (r : Result ℕ VisitFault) → Reads (IsHeld v) around l m 0 [] y r → (r ≡ Err (Memory alloc_error) → ⊥) → IfOk r (λ n. n ≡ length y) → IsWalked x place at (around ++ l ∷ [])
      go (Ok n) fed never all = walked n at _ (omega (arith, all)) (over n fed) (ap (λ z. place_in (run 1024 (start 0) z)) (sym (take_all n y (omega (arith, all)))) ∙ (over n fed).stands)
      go (Err (Refused p r)) h never all =
          let fails = subst (λ k. run k (start 0) y ≡ Failed (ready_in (run k (start 0) (take h.taken y))) p r) limited h.fails in
          walked h.taken at _ h.within (over h.taken h.fed)
          (ap place_in fails ∙ sym (stands_there (IsHeld v) around l m.left m.at h.taken m.head _ p r fails h.within h.fed.0 (here h.taken h.fed) h.next) ∙ (over h.taken h.fed).stands)
      go (Err (Memory e)) h never all = absurd (never refl)

-- The path of a walk leads to the place,
pub walk_leads : (x : List ℕ) (place at : ℕ) (ls : List Level) → length x < 2 ^ 64 → IsWalked x place at ls → LeadsTo x place (path_of ls)
walk_leads x place at ls short w = (
  take at x,
  drop at x,
  sym (take-append-drop at x),
  omega (arith, len, w.low),
  subst (λ l. EndsAt (take at x) (path_of l)) w.kept (opened_ends x at w.partial short w.opened),
  λ g z other is up ends. omega (arith, len, w.longest g z other is up ends),
)
  where
    len : length (take at x) ≡ at
    len = length-take-le at x w.opened.within

-- and that to the end leads to all places beyond it, too.
pub leads_beyond : (x : List ℕ) (n place : ℕ) (path : List Step) → (n ≡ place) ⊎ ((n ≡ length x) × (length x ≤ place)) → LeadsTo x n path → LeadsTo x place path
leads_beyond x n place path (inl e) h = subst (λ k. LeadsTo x k path) e h
leads_beyond x n place path (inr (e, l)) (f, y, whole, up, at, longest) =
    (f, y, whole, omega (arith, e, l, up), at, λ g z other is h ends. longest g z other is (omega (arith, e, ap length is, length-append g z)) ends)
