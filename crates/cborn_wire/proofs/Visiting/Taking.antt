-- What is taken off the front of a piece.
use Rattle.std.specs.Prelude.{◌≡◌, ◌+◌, ◌/◌, ◌%◌, ◌<◌, ◌≤◌, ◌∷◌, ◌++◌}
use Rattle.cborn_wire.proofs.Common.{refl, sym, ap, ◌∙◌, subst, ℕ, List, [], length, take, drop, get_or, Bool, leb, Option, Some, None, arith, length-append, add-one, take-append-drop, AreBytes, Width, Major, Argument, Given, Trees, Partial, top, inside, Part, no_part, VisitFault, Refused, Memory, Slot, OpenContainer, slot, open_depth, IsNoString, AreOpen, Head, Level, PartialHead, major_at, seen_argument, IsHeadOf, Info, Next, info_at, info_for, head_reason, plain, width_bytes, argument_of, nothing, Unfinished, gathering, State, Live, run, IsReached, open_in, state, level_in, levels, Keeps, Takes, slot_of, Stands, FailsAs, HereAt, common_steps, nat_tests, bytes-left}
use Rattle.cborn_wire.proofs.Machine.SoundRuns.{depth_is_length, sound, info_is}
use Rattle.cborn_wire.proofs.Machine.Pieces.{major_of_head, info_of_head}
use Rattle.cborn_wire.proofs.Machine.SoundSteps.{shallow_open}
use Rattle.cborn_wire.proofs.Machine.Running.{run-append, failed_run}
use Rattle.cborn_wire.proofs.Visiting.Counting.{top_slot}

pub bytes-take : (n : ℕ) (x : List ℕ) → AreBytes x → AreBytes (take n x)
bytes-take n x h = bytes-left (take n x) (drop n x) (subst AreBytes (sym (take-append-drop n x)) h)

-- Between strings the visitor holds no part of one.
pub between : (holds : Partial → Part → Type 0) (outer : List Level) (l : Level) (left at : ℕ) (s : State) → left ≡ 0 → Stands holds outer l left at s
    → (f : Partial) × holds f no_part × Keeps f outer l × (s ≡ state at f no_part)
between holds outer l left at s none h = grind arith

pub between_here : (holds : Partial → Part → Type 0) (outer : List Level) (l : Level) (left at : ℕ) (h : Option PartialHead) (s : State) → h ≡ None → left ≡ 0 → HereAt holds outer l left at h s
    → (f : Partial) × holds f no_part × Keeps f outer l × (s ≡ state at f no_part)
between_here holds outer l left at h s none zero here = between holds outer l left at s zero (subst (λ o. HereAt holds outer l left at o s) none here)

pub stands_here : (holds : Partial → Part → Type 0) (outer : List Level) (l : Level) (left at : ℕ) (h : Option PartialHead) (s u : State) → h ≡ None → s ≡ u → Stands holds outer l left at u → HereAt holds outer l left at h s
stands_here holds outer l left at h s u none is stands = subst (λ o. HereAt holds outer l left at o s) (sym none) (subst (Stands holds outer l left at) (sym is) stands)

-- which heads are allowed

plain_same : (s : Slot) (full : Bool) (m : Major) (i : Info) → head_reason (plain s) full m i [] ≡ head_reason s full m i []
plain_same s full m i = grind (arith, common_steps, nat_tests)

level_count : (f : Partial) → length (levels f) ≡ length (open_in f) + 1
level_count (top ts) = refl
level_count (inside f o ts) = omega (arith, level_count f, length-append (levels f) (level_in o ts ∷ []))

pub outer_count : (f : Partial) (ls : List Level) (l : Level) → levels f ≡ ls ++ l ∷ [] → length ls ≡ length (open_in f)
outer_count f ls l e = omega (arith, level_count f, ap length e, length-append ls (l ∷ []))

any_depth : (os : List OpenContainer) (limit j : ℕ) (m : Major) (i : Info) → (IsNoString os → j ≡ open_depth os) → head_reason (slot os) (leb limit j) m i [] ≡ head_reason (slot os) (leb limit (open_depth os)) m i []
any_depth os limit j m i h = grind (arith, common_steps, nat_tests)

pub reason_same : (limit : ℕ) (f : Partial) (ls : List Level) (l : Level) (m : Major) (i : Info) → Keeps f ls l → AreOpen limit (open_in f)
    → head_reason (slot_of l.kind l.missing) (leb limit (length ls)) m i [] ≡ head_reason (slot (open_in f)) (leb limit (open_depth (open_in f))) m i []
reason_same limit f ls l m i are h =
    ap (λ s. head_reason s (leb limit (length ls)) m i []) (top_slot f ls l are.0)
    ∙ plain_same (slot (open_in f)) (leb limit (length ls)) m i
    ∙ any_depth (open_in f) limit (length ls) m i (λ free. outer_count f ls l are.0 ∙ sym (depth_is_length limit (open_in f) h free))

-- how many may be open
open_most : (limit : ℕ) (os : List OpenContainer) → AreOpen limit os → length os ≤ limit + 1
open_most limit os h = grind (arith, depth_is_length, shallow_open)

-- there is room for one more level
pub room : (limit most : ℕ) (f : Partial) (ls : List Level) (l : Level) → Keeps f ls l → limit + 1 < most → AreOpen limit (open_in f) → length ls < most
room limit most f ls l are small h = omega (arith, outer_count f ls l are.0, open_most limit (open_in f) h, small)

-- what is allowed may be next

module _ (f : Partial) (full : Bool) where
  pub head_next : (m : Major) (a : Argument) → head_reason (slot (open_in f)) full m (info_for a) [] ≡ None → Takes f m a
  head_next m a h = grind (arith, common_steps, nat_tests)

  pub first_next : (piece : List ℕ) (h : Head) (n : ℕ) → IsHeadOf piece h n → 0 < length piece → None ≡ head_reason (slot (open_in f)) full (major_at (get_or piece 0 0 / 32)) (info_at (get_or piece 0 0 % 32)) []
      → Takes f (major_at h.major) (seen_argument h.argument)
  first_next [] h n i some e = absurd (omega (arith, some))
  first_next (b ∷ y) h n i some e =
      let m = major_at h.major in
      let a = seen_argument h.argument in
      head_next m a (ap (λ j. head_reason (slot (open_in f)) full j (info_for a) []) (sym (major_of_head m a b y i.rest i.fits i.whole)) ∙ ap (λ j. head_reason (slot (open_in f)) full (major_at (b / 32)) j []) (sym (info_of_head m a b y i.rest i.fits i.whole)) ∙ sym e)

  pub short_next : (m : Major) (i : Info) (w : Width) → i ≡ Next w → 0 < width_bytes w → None ≡ head_reason (slot (open_in f)) full m i [] → Takes f m (Given w 0)
  short_next m i w h e g = grind (arith, common_steps, nat_tests)

-- of which argument that is doesn't matter
pub any_argument : (f : Partial) (m : Major) (w : Width) (n k : ℕ) → Takes f m (Given w n) → Takes f m (Given w k)
any_argument f m w n k h = grind (arith, common_steps, nat_tests)

-- the initial byte of a head that ends after the piece
pub short_taken : (limit at : ℕ) (rd : Trees) (os : List OpenContainer) (piece : List ℕ) (w : Width) → 0 < length piece → info_at (get_or piece 0 0 % 32) ≡ Next w
    → None ≡ head_reason (slot os) (leb limit (open_depth os)) (major_at (get_or piece 0 0 / 32)) (info_at (get_or piece 0 0 % 32)) []
    → (0 < width_bytes w) × (run limit (Live at rd os nothing) (take 1 piece) ≡ Live (at + 1) rd os (gathering at (argument_of (major_at (get_or piece 0 0 / 32)) w) (width_bytes w) []))
short_taken limit at rd os piece w h e g = grind (arith, add-one, info_is)

-- what fails on a front of the piece fails on it
pub fails_on : (limit : ℕ) (s u : State) (ts : Trees) (n : ℕ) (piece : List ℕ) (e : VisitFault) → run limit s (take n piece) ≡ u → FailsAs ts u e → FailsAs ts (run limit s piece) e
fails_on limit s u ts n piece (Refused p r) goes h =
    ap (run limit s) (sym (take-append-drop n piece)) ∙ run-append limit s (take n piece) (drop n piece) ∙ ap (λ v. run limit v (drop n piece)) (goes ∙ h) ∙ failed_run limit (drop n piece) ts p r
fails_on limit s u ts n piece (Memory e) goes h = tt

-- what some bytes make is within the limit
pub reached_open : (limit base : ℕ) (s : State) (at : ℕ) (rd : Trees) (os : List OpenContainer) (q : Unfinished) → IsReached limit base s → s ≡ Live at rd os q → AreOpen limit os
reached_open limit base s at rd os q h e = grind (arith, sound)

-- there is room for one more level where a reader is
pub here_room : (limit most base : ℕ) (holds : Partial → Part → Type 0) (outer : List Level) (l : Level) (left at : ℕ) (h : Option PartialHead) (s : State) → limit + 1 < most → HereAt holds outer l left at h s → IsReached limit base s → length outer < most
here_room limit most base holds outer l left at None s small here from = room limit most here.partial outer l here.levels small (reached_open limit base s at _ _ _ from here.is)
here_room limit most base holds outer l left at (Some h) s small (short, f, held, are, takes, is) from = room limit most f outer l are small (reached_open limit base s at _ _ _ from is)
