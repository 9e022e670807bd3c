-- What a reader that is fed by pieces has ready is what it has to give. The bytes that it holds follow from what it keeps, and its answers follow from them.
use Rattle.std.specs.Prelude.{◌≡◌, ◌+◌, ◌≤◌, ◌++◌}
use Rattle.cborn_wire.proofs.Common.{refl, sym, ap, ◌∙◌, subst, ℕ, List, [], length, Option, Some, None, Err, arith, append_assoc, length-append, option_to_list, AreBytes, Tree, Trees, no_item, more, trees, depth, spelled, Fits, Wellformed, PlacedAll, WireFault, WireReason, Truncated, OpenContainer, Fault, AreComplete, Feeding, Accepts, Refuses, RunsShort, Feeds, append_trees, Unfinished, nothing, State, Live, Failed, start, ready_in, held, run, IsReached, Stops, append-nil, depth_all, spelled_all, FitsAll, all_from, common_steps, nat_tests, bytes-append, bytes-right}
use Rattle.cborn_wire.specs.declared.faults.WireFault.TheVariants as faults
use Rattle.cborn_wire.specs.Feeding.{IsFed}
use Rattle.cborn_wire.proofs.Machine.Running.{run-append, failed_run}
use Rattle.cborn_wire.proofs.Machine.WholeFront.{with_front, front_run}
use Rattle.cborn_wire.proofs.Spelled.OneReading.{ends_read, after_first, placed_reading, longest, ready_front}
use Rattle.cborn_wire.proofs.Machine.SoundItems.{SoundLive, Sound}
use Rattle.cborn_wire.proofs.Machine.SoundRuns.{sound, reached_held, reached_sound}
use Rattle.cborn_wire.proofs.Spelled.FaultLaws.{fails_refused}
use Rattle.cborn_wire.proofs.Spelled.GoingOn.{refused_ends}
use Rattle.cborn_wire.proofs.Spelled.SlotLaws.{cut_short, goes_on}
use Rattle.cborn_wire.proofs.Spelled.TreeLists.{trees-append, trees-tree_list, tree_list, begins_list, spelled_all-append}
use Rattle.cborn_wire.proofs.Machine.TakesItems.{append_trees-nil}

-- Whole items stay, and more follow them.
pub ready_grows : (limit : ℕ) (s : State) (y : List ℕ) → (us : Trees) × (ready_in (run limit s y) ≡ append_trees (ready_in s) us)
ready_grows limit (Live fed ready os partial) y =
    let s = Live fed no_item os partial in (
      ready_in (run limit s y),
      ap ready_in (ap (λ l. run limit (Live fed l os partial) y) (sym (append_trees-nil ready)) ∙ front_run ready limit y s) ∙ ready_front ready (run limit s y),
    )
ready_grows limit (Failed ready p r) y = (no_item, ap ready_in (failed_run limit y ready p r) ∙ sym (append_trees-nil ready))

module _ (limit base : ℕ) where
  -- No well-formed front is longer than what the complete items spell.
  no_longer : (x f y : List ℕ) (us : Trees) → x ≡ f ++ y → Wellformed limit us f → length f ≤ length (spelled_all (ready_in (run limit (start base) x)))
  no_longer x f y us is w =
      let (vs, e) = longest limit base us f y w in
      let same : spelled_all (ready_in (run limit (start base) x)) ≡ f ++ spelled_all vs
      = ap (λ l. spelled_all (ready_in (run limit (start base) l))) is ∙ ap spelled_all e ∙ spelled_all-append (all_from base us) vs
      ∙ ap (λ l. l ++ spelled_all vs) (placed_reading limit base us f w).0.spells in
      omega (arith, ap length same, length-append f (spelled_all vs))

  -- the complete items of a state are sound, and something follows them
  record Begins (x : List ℕ) (ready : Trees) : Type 0 where
    others : List ℕ
    whole : x ≡ spelled_all ready ++ others
    read : Wellformed limit ready (spelled_all ready)
    placed : PlacedAll base ready

  begins_live : (x : List ℕ) (fed : ℕ) (ready : Trees) (os : List OpenContainer) (partial : Unfinished) → SoundLive limit base x fed ready os partial → Begins x ready
  begins_live x fed ready os partial h = grind (arith, common_steps, nat_tests)

  begins : (x : List ℕ) (s : State) → Sound limit base x s → Begins x (ready_in s)
  begins x (Live fed ready os partial) h = begins_live x fed ready os partial h
  begins x (Failed ready p r) h = grind (arith, common_steps, nat_tests, begins_live, append_assoc)

  -- What is ready are the nodes of the longest front that is well-formed.
  pub complete : (items : List Tree) (x : List ℕ) → AreBytes x → ready_in (run limit (start base) x) ≡ trees items → AreComplete limit base items x
  complete items x bytes e =
      let s = run limit (start base) x in
      let b = begins x s (sound limit base x bytes) in
      let same : spelled_all (ready_in s) ≡ spelled_all (trees items) = ap spelled_all e in
      record {
        front = spelled_all (trees items);
        rest = b.others;
        whole = b.whole ∙ ap (λ l. l ++ b.others) same;
        read = record { spells = refl; fit = subst FitsAll e b.read.fit; shallow = subst (λ ts. depth_all ts ≤ limit) e b.read.shallow };
        placed = subst (PlacedAll base) e b.placed;
        longest = λ f y others is w. subst (λ l. length f ≤ length l) same (no_longer x f y (trees others) is w);
      }

  -- No item is complete: none is at the front.
  pub no_first : (x : List ℕ) (t : Tree) (y : List ℕ) → ready_in (run limit (start base) x) ≡ no_item → x ≡ spelled t ++ y → Fits t → depth t ≤ limit → ⊥
  no_first x t y e is fits deep =
      let w : Wellformed limit (more t no_item) (spelled t) = record { spells = append-nil (spelled t); fit = (fits, tt); shallow = omega arith } in
      let (vs, some) = longest limit base (more t no_item) (spelled t) y w in
      cc (sym e ∙ ap (λ l. ready_in (run limit (start base) l)) is ∙ some)

module _ (limit base : ℕ) where
  -- Where something is open, the input is cut short.
  pub feeds_cut : (fed : ℕ) (ready : Trees) (os : List OpenContainer) (partial : Unfinished) → IsReached limit base (Live fed ready os partial) → (os ≡ [] → partial ≡ nothing → ⊥)
      → let x = held (Live fed ready os partial) in Fault limit x (length x) Truncated
  feeds_cut fed ready os partial h unfinished =
      let r = reached_held limit base fed ready os partial h in
      cut_short limit base (held (Live fed ready os partial)) r.1 fed ready os partial r.0 unfinished

  without : (t : Tree) (s : State) {fed : ℕ} {ts : Trees} {os : List OpenContainer} {partial : Unfinished} → with_front (more t no_item) s ≡ Live fed (more t ts) os partial → s ≡ Live fed ts os partial
  without t s h = grind (arith, common_steps, nat_tests)

-- the state once the first item was taken, if there is one, and with it the bytes that it spells
pub taken : (limit base at : ℕ) (o : Option Tree) (items left : List Tree) (os : List OpenContainer) (partial : Unfinished) → items ≡ option_to_list o ++ left
    → IsReached limit base (Live at (trees items) os partial) → (q : ℕ) × IsReached limit q (Live at (trees left) os partial)
taken limit base at None items left os partial e h = (base, subst (λ ts. IsReached limit base (Live at (trees ts) os partial)) e h)
taken limit base at (Some t) items left os partial e h = grind (arith, append_assoc, reached_held, sound, after_first, bytes-right, without)

-- These laws in the words of what contracts see of a feeder, for live states.

module _ (limit base at fed : ℕ) (items : List Tree) (os : List OpenContainer) (partial : Unfinished) (h : IsReached limit base (Live at (trees items) os partial)) (same : at ≡ fed) where
  abbrev pub with_fault : Option WireFault → Feeding
  with_fault fault = record { limit = limit; fed = fed; held = held (Live at (trees items) os partial); items = items; fault = fault }

  offset : fed ≡ base + length (held (Live at (trees items) os partial))
  offset = let (x, s) = reached_sound limit base (Live at (trees items) os partial) h in sym same ∙ s.fed_is ∙ ap (λ l. base + length l) s.bytes

  abbrev s : State
  s = Live at (trees items) os partial

  reached : (run limit (start base) (held s) ≡ s) × AreBytes (held s)
  reached = reached_held limit base at (trees items) os partial h

  pub is_fed : (fault : Option WireFault) → IsFed (with_fault fault)
  is_fed fault = (base, offset, complete limit base items (held s) reached.1 (ap ready_in reached.0))

  -- what the bytes held and a piece make
  feeds : (y : List ℕ) → run limit (start base) (held s ++ y) ≡ run limit s y
  feeds y = run-append limit (start base) (held s) y ∙ ap (λ u. run limit u y) reached.0

  feeds_bytes : (y : List ℕ) → AreBytes y → AreBytes (held s ++ y)
  feeds_bytes y are = bytes-append (held s) y reached.1 are

  feeds_items : (y : List ℕ) (left : List Tree) → AreBytes y → ready_in (run limit s y) ≡ trees left → AreComplete limit base left (held s ++ y)
  feeds_items y left are e = complete limit base left (held s ++ y) (feeds_bytes y are) (ap ready_in (feeds y) ∙ e)

  pub accepts : (piece : List ℕ) (at' : ℕ) (items' : List Tree) (os' : List OpenContainer) (partial' : Unfinished) (fault : Option WireFault) → AreBytes piece
      → run limit s piece ≡ Live at' (trees items') os' partial'
      → Accepts piece (with_fault fault) (record { limit = limit; fed = fed + length piece; held = held (Live at' (trees items') os' partial'); items = items'; fault = fault })
  accepts piece at' items' os' partial' fault are e =
      let all = held s ++ piece in
      let now : SoundLive limit base all at' (trees items') os' partial' = subst (Sound limit base all) (feeds piece ∙ e) (sound limit base all (feeds_bytes piece are)) in
      let bytes : held (Live at' (trees items') os' partial') ≡ all = sym now.bytes in (
        rw bytes refl,
        (base, omega (arith, offset, ap length bytes, length-append (held s) piece), subst (AreComplete limit base items') (sym bytes) (feeds_items piece items' are (ap ready_in e))),
        λ p r fault. refused_ends limit all p r fault (goes_on limit base all (feeds_bytes piece are) at' (trees items') os' partial' (feeds piece ∙ e)),
      )

  pub refuses : (piece : List ℕ) (g : Feeding) (q : ℕ) (r : WireReason) (fault : Option WireFault) → AreBytes piece
      → run limit s piece ≡ Failed (trees g.items) q r → Refuses piece (with_fault fault) g q r
  refuses piece g q r fault are e =
      let (p, stands, refused) = fails_refused limit base (held s ++ piece) (feeds_bytes piece are) (trees g.items) q r (feeds piece ∙ e) in
      (base, p, offset, stands, refused, feeds_items piece g.items are (ap ready_in e))

  -- Memory was refused when the front y of the piece was taken.
  pub runs_short : (piece y z : List ℕ) (g : Feeding) (fault : Option WireFault) → AreBytes piece → piece ≡ y ++ z
      → ready_in (run limit s y) ≡ trees g.items → RunsShort piece (with_fault fault) g
  runs_short piece y z g fault are cut e =
      let (us, more_now) = ready_grows limit s y in
      let (vs, more_then) = ready_grows limit (run limit s y) z in
      let all : ready_in (run limit s piece) ≡ trees (g.items ++ tree_list vs)
      = ap (λ l. ready_in (run limit s l)) cut ∙ ap ready_in (run-append limit s y z) ∙ more_then ∙ ap (λ ts. append_trees ts vs) e
      ∙ ap (append_trees (trees g.items)) (sym (trees-tree_list vs)) ∙ sym (trees-append g.items (tree_list vs)) in (
        base,
        tree_list us,
        tree_list vs,
        offset,
        begins_list items g.items us (sym e ∙ more_now),
        feeds_items piece (g.items ++ tree_list vs) are all,
      )

  pub fails : (piece bytes : List ℕ) (left : List Tree) (e : WireFault) (fault : Option WireFault) → AreBytes piece → Stops limit s piece e (trees left)
      → Feeds piece (with_fault fault) (Err e) (record { limit = limit; fed = fed; held = bytes; items = left; fault = Some e })
  fails piece bytes left (faults.Refused p r) fault are h = (refl, refuses piece (record { limit = limit; fed = fed; held = bytes; items = left; fault = Some (faults.Refused p r) }) p r fault are h)
  fails piece bytes left faults.OutOfMemory fault are (y, z, cut, h) = (refl, runs_short piece y z (record { limit = limit; fed = fed; held = bytes; items = left; fault = Some faults.OutOfMemory }) fault are cut h)

  pub whole : os ≡ [] → partial ≡ nothing → Wellformed limit (trees items) (held s)
  whole e f = (ends_read limit base (held s) reached.1 at (trees items) (reached.0 ∙ ap (λ l. Live at (trees items) l partial) e ∙ ap (Live at (trees items) []) f)).0
