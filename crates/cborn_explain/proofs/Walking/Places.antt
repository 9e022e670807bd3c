-- The head that comes next, or is partial, is never before one that came.
use Rattle.std.specs.Prelude.{◌≤◌, ◌∷◌, ◌++◌}
use Rattle.cborn_explain.proofs.Common.{ℕ, suc, List, [], length, Bool, true, false, cond, leb, ltb, Option, Some, None, arith, Opening, an_array, a_map, built, Tree, Trees, WireReason, OpenContainer, opened, slot, slot_in, open_depth, Goal, argument_of, content_of, nothing, gathering, State, Live, Failed, is_full, finished, holding, ended, after_head, gather, begin_head, unless, at_slot, number, step, run, place_in}
use Rattle.cborn_model.specs.declared.heads.Width.TheVariants.{Direct}
use Rattle.cborn_model.specs.declared.heads.Major.{Major}
use Rattle.cborn_model.specs.Heads.{Argument, Given, EndlessArgument}
use Rattle.cborn_wire.specs.SlotFaults.{needs_item}
use Rattle.cborn_wire.specs.HeadReading.{major_at, size_in, count_in}
use Rattle.cborn_wire.specs.shared.InitialBytes.{Info, Now, Next, Reserved, EndlessInformation, info_at, head_reason}

-- the state is at p or after it
abbrev Rises : ℕ → State → Type 0
Rises p (Live at rd os nothing) = p ≤ at
Rises p (Live at rd os (gathering q g n got)) = (p ≤ q) × (q ≤ at)
Rises p (Failed rd q r) = p ≤ q

either : (p : ℕ) (c : Bool) (s u : State) → Rises p s → Rises p u → Rises p (cond c s u)
either p c s u h1 h2 = grind (arith, false, true)

module _ (p fed : ℕ) (rd : Trees) (up : p ≤ fed) where
  item_rises : (os : List OpenContainer) (t : Tree) → Rises p (finished fed rd os t)
  item_rises [] t = up
  item_rises (opened o ts ∷ os) t = either p (is_full o (length (ts ++ t ∷ []))) _ _ (item_rises os (built o (ts ++ t ∷ []))) up

  opened_rises : (os : List OpenContainer) (o : Opening) → Rises p (holding fed rd os o [])
  opened_rises os o = either p (is_full o 0) _ _ (item_rises os (built o [])) up

  module _ (q : ℕ) (os : List OpenContainer) (from : p ≤ q) (to : q ≤ fed) where
    end_rises : (os : List OpenContainer) → Rises p (ended fed q rd os)
    end_rises os = grind (arith, built, either, item_rises, needs_item, opened, slot_in)

    head_rises : (m : Major) (a : Argument) → Rises p (after_head fed q rd os m a)
    head_rises m a = grind (arith, a_map, an_array, count_in, either, end_rises, item_rises, leb, ltb, opened_rises, size_in)

    gather_rises : (g : Goal) (n : ℕ) (got : List ℕ) → Rises p (gather fed q rd os g n got)
    gather_rises g n got = grind (arith, argument_of, content_of, either, head_rises, item_rises, leb, length, number)

first_rises : (limit p fed : ℕ) (rd : Trees) (os : List OpenContainer) (m : Major) (i : Info) → p ≤ fed → Rises p (at_slot limit fed rd os m i)
first_rises limit p fed rd os m i up = go (head_reason (slot os) (leb limit (open_depth os)) m i [])
  where
    begins : (i : Info) → Rises p (begin_head fed rd os m i)
    begins (Now n) = head_rises p (suc fed) rd (omega (arith, up)) fed os up (omega arith) m (Given Direct n)
    begins (Next w) = gather_rises p (suc fed) rd (omega (arith, up)) fed os up (omega arith) (argument_of m w) _ []
    begins EndlessInformation = head_rises p (suc fed) rd (omega (arith, up)) fed os up (omega arith) m EndlessArgument
    begins Reserved = up

    go : (o : Option WireReason) → Rises p (unless o rd fed (begin_head fed rd os m i))
    go None = begins i
    go (Some r) = up

step_rises : (limit p b : ℕ) (s : State) → Rises p s → Rises p (step limit s b)
step_rises limit p b s h1 = grind (arith, first_rises, gather_rises, gathering, info_at, major_at, nothing, suc)

run_rises : (limit p : ℕ) (y : List ℕ) (s : State) → Rises p s → Rises p (run limit s y)
run_rises limit p [] s h = h
run_rises limit p (b ∷ y) s h = run_rises limit p y (step limit s b) (step_rises limit p b s h)

-- after a state between two heads
pub place_rises : (limit at : ℕ) (rd : Trees) (os : List OpenContainer) (y : List ℕ) → at ≤ place_in (run limit (Live at rd os nothing) y)
place_rises limit at rd os y = go (run limit (Live at rd os nothing) y) (run_rises limit at y (Live at rd os nothing) (omega arith))
  where
    go : (s : State) → Rises at s → at ≤ place_in s
    go (Live fed us ps nothing) h = h
    go (Live fed us ps (gathering q g n got)) h = h.0
    go (Failed us q r) h = h
