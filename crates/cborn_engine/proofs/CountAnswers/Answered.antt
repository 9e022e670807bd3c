-- What is answered for an input that is held and has to hold a given number of items.
use Rattle.std.specs.Prelude.{◌≡◌, ◌⊎◌, ◌≤◌, ◌∷◌}
use Rattle.cborn_engine.proofs.Common.{refl, ap, subst, ℕ, List, [], length, Option, Result, Ok, Err, Global, Ordering, inl, inr, arith, CowSlice, AllZip, Tree, trees, Value, Means, unplaced_all, Defect, WireReason, Fault, CompareCountFault, Count, EngineFault, CountFault, Kind, Holds, Spells, SpellsInPlace, SpellsOne, SpellsCount, HoldsOne, IsTaken, IsNotOne, CountAnswer, NormalisedWhole, ShownWhole, CheckedWhole, AreRefusedWhole, of_the_first, of_first_counted, of_second_counted, EncodedWhole, most_bytes, IsRefusedWhole, TellsFaultAs, Invalid, WireFault, not_both, one_fault}
use Rattle.cborn_engine.proofs.Answers.{unfaulted}
use Rattle.cborn_engine.proofs.Held.Meant.{unplaced_once}

-- ---- whole inputs

-- what another number of items makes of an answer
pub kept_counted : {A : Type 0} (count : Count) (k : Kind) (limit : ℕ) (x : List ℕ) (Answers : Result A EngineFault → Type 0) (a : A) (why : CountFault) → Answers (Ok a) → Answers (Err EngineFault.OutOfMemory)
    → (count ≡ Count.One) × ((why ≡ CountFault.Engine EngineFault.OutOfMemory) ⊎ IsNotOne k limit x why) → CountAnswer count k limit x Answers (Err why)
kept_counted count k limit x Answers a why h1 h2 h3 = grind (arith, inl, inr)

-- a fault where any number will do is the engine's
pub engine_of : {A : Type 0} (k : Kind) (limit : ℕ) (x : List ℕ) (Answers : Result A EngineFault → Type 0) (why : CountFault) → CountAnswer Count.Any k limit x Answers (Err why) → (w : EngineFault) × (why ≡ CountFault.Engine w) × Answers (Err w)
engine_of k limit x Answers (CountFault.Engine w) h = (w, refl, h)
engine_of k limit x Answers _ h = absurd (let e = h.1.0 in cc)

pub same_engine : {A : Type 0} (v w : EngineFault) → ◌≡◌ {A = Result A CountFault} (Err (CountFault.Engine v)) (Err (CountFault.Engine w)) → v ≡ w
same_engine v w e = cc

-- ---- the fault of bytes that aren't well-formed

its_fault : (k : Kind) (limit : ℕ) (x : List ℕ) (why : EngineFault) (p : ℕ) (r : WireReason) → length x ≤ most_bytes → IsRefusedWhole k limit most_bytes x why → k ≡ Kind.Wire → Fault limit x p r → why ≡ EngineFault.Wire (WireFault.Refused p r)
its_fault Kind.Wire limit x EngineFault.TooLong p r l h e f = absurd (omega (arith, l, h))
its_fault Kind.Wire limit x EngineFault.OutOfMemory p r l h e f = absurd (h.1.none p r e f)
its_fault Kind.Wire limit x (EngineFault.Wire (WireFault.Refused q s)) p r l h e f = let t = one_fault limit x q p s r h.1 f in λ i. EngineFault.Wire (WireFault.Refused (t.0 i) (t.1 i))
its_fault Kind.Wire limit x (EngineFault.Invalid (Invalid.Refused q s)) p r l h e f = absurd (not_both limit x p r (trees h.1.nodes, h.1.spelled.0) f)
its_fault Kind.Wire limit x _ p r l h e f = absurd h
its_fault _ limit x why p r l h e f = absurd cc

unfaulted_by : {k : Kind} {limit : ℕ} {x : List ℕ} (nodes : List Tree) → Spells k limit x nodes → (p : ℕ) (r : WireReason) → k ≡ Kind.Wire → Fault limit x p r → ⊥
unfaulted_by {k} {limit} {x} nodes s p r e f = (unfaulted k limit x nodes s).none p r e f

module _ (count : Count) (k out : Kind) (limit : ℕ) (x : List ℕ) (l : length x ≤ most_bytes) where
  pub normalised_reported : (order : List ℕ → List ℕ → Ordering) (r : Result (CowSlice ℕ Global) CountFault) → CountAnswer count k limit x (NormalisedWhole order k out limit x) r → TellsFaultAs CountFault.Engine k limit x r
  normalised_reported order (Ok a) h p r e f = absurd (unfaulted_by h.0.1.held.nodes h.0.1.held.spelled p r e f)
  normalised_reported order (Err (CountFault.Engine w)) h p r e f = ap (λ (v : EngineFault). Err (CountFault.Engine v)) (its_fault k limit x w p r l h e f)
  normalised_reported order (Err _) h p r e f = absurd (unfaulted_by h.0.1.1.held.nodes h.0.1.1.held.spelled p r e f)

  pub shown_reported : (r : Result (CowSlice ℕ Global) CountFault) → CountAnswer count k limit x (ShownWhole k out limit x) r → TellsFaultAs CountFault.Engine k limit x r
  shown_reported (Ok a) h p r e f = absurd (unfaulted_by h.0.1.nodes h.0.1.spelled p r e f)
  shown_reported (Err (CountFault.Engine (EngineFault.Show w))) h p r e f = absurd (in_place k h.1.nodes h.1.spelled p r e f)
    where
      in_place : (k : Kind) (nodes : List Tree) → SpellsInPlace k limit x nodes → (p : ℕ) (r : WireReason) → k ≡ Kind.Wire → Fault limit x p r → ⊥
      in_place Kind.Wire nodes s p r e f = not_both limit x p r (trees nodes, s.0) f
      in_place _ nodes s p r e f = absurd cc
  shown_reported (Err (CountFault.Engine w)) h p r e f = ap (λ (v : EngineFault). Err (CountFault.Engine v)) (its_fault k limit x w p r l h.0 e f)
  shown_reported (Err _) h p r e f = absurd (unfaulted_by h.0.1.1.nodes h.0.1.1.spelled p r e f)

pub checked_reported : (count : Count) (order : List ℕ → List ℕ → Ordering) (limit : ℕ) (x : List ℕ) (r : Result (Option Defect) CountFault) → length x ≤ most_bytes → CountAnswer count Kind.Wire limit x (CheckedWhole order limit x) r → TellsFaultAs CountFault.Engine Kind.Wire limit x r
checked_reported count order limit x (Ok a) l h p r e f = absurd (unfaulted_by h.0.1.held.nodes h.0.1.held.spelled p r e f)
checked_reported count order limit x (Err (CountFault.Engine w)) l h p r e f = ap (λ (v : EngineFault). Err (CountFault.Engine v)) (its_fault Kind.Wire limit x w p r l h e f)
checked_reported count order limit x (Err _) l h p r e f = absurd (unfaulted_by h.0.1.1.held.nodes h.0.1.1.held.spelled p r e f)

-- likewise of the first of two inputs
pub compared_reported : {A : Type 0} (count : Count) (k l : Kind) (limit : ℕ) (x y : List ℕ) (why : CompareCountFault) → AreRefusedWhole count k l limit x y why → length x ≤ most_bytes → TellsFaultAs {A = A} of_the_first k limit x (Err why)
compared_reported count k l limit x y (CompareCountFault.First (CountFault.Engine w)) h n p r e f = ap (λ (v : EngineFault). Err (of_the_first v)) (its_fault k limit x w p r n h.0 e f)
compared_reported count k l limit x y (CompareCountFault.First _) h n p r e f = absurd (unfaulted_by h.1.1.nodes h.1.1.spelled p r e f)
compared_reported count k l limit x y (CompareCountFault.Second w) h n p r e f = absurd (unfaulted_by h.0.held.nodes h.0.held.spelled p r e f)
compared_reported count k l limit x y CompareCountFault.OutOfMemory (inl h) n p r e f = absurd (h.1.none p r e f)
compared_reported count k l limit x y CompareCountFault.OutOfMemory (inr h) n p r e f = absurd (unfaulted_by h.0.held.nodes h.0.held.spelled p r e f)

-- an input that is taken
pub taken_reported : {A : Type 0} (count : Count) (k : Kind) (limit : ℕ) (x : List ℕ) (result : Result A CompareCountFault) → IsTaken count k limit x → TellsFaultAs of_the_first k limit x result
taken_reported count k limit x result t p r e f = absurd (unfaulted_by t.held.nodes t.held.spelled p r e f)

-- items of one node are one
holds_one : (k : Kind) (limit : ℕ) (x : List ℕ) (vs : List Value) → Holds k limit x vs → SpellsOne k limit x → HoldsOne k limit x
holds_one k limit x vs h (t, s) =
    let v = go h.nodes vs h.meant (unplaced_once k limit x h.nodes (t ∷ []) h.spelled s) in
    (v.0, subst (Holds k limit x) v.1 h)
  where
    go : (ns : List Tree) (vs : List Value) → AllZip Means ns vs → unplaced_all (trees ns) ≡ unplaced_all (trees (t ∷ [])) → (v : Value) × (vs ≡ v ∷ [])
    go [] vs m e = absurd cc
    go (n ∷ ns) [] m e = absurd m
    go (n ∷ []) (v ∷ []) m e = (v, refl)
    go (n ∷ []) (v ∷ w ∷ vs) m e = absurd m.1
    go (n ∷ m ∷ ns) (v ∷ vs) h e = absurd cc

-- an input with as many nodes as it has to spell
pub taken : (count : Count) (k : Kind) (limit : ℕ) (x : List ℕ) (vs : List Value) → length x ≤ most_bytes → Holds k limit x vs → SpellsCount count k limit x → IsTaken count k limit x
taken count k limit x vs n h s = record { short = n; items = vs; held = h; one = λ e. holds_one k limit x vs h (s e) }

-- of two inputs

module _ (order : List ℕ → List ℕ → Ordering) (count : Count) (k l : Kind) (limit : ℕ) (x y : List ℕ) where
  pub second_refused : (why : CountFault) → IsTaken count k limit x → CountAnswer count l limit y (EncodedWhole order l limit y) (Err why) → AreRefusedWhole count k l limit x y (of_second_counted why)
  second_refused why h1 h2 = grind (arith, inr)
