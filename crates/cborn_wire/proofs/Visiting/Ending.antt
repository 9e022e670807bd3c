-- What a reader is before the first byte, at the end of the input, and at a head that isn't allowed; and what one that stops after one item says of the front of the bytes.
use Rattle.std.specs.Prelude.{◌≡◌, ◌+◌, ◌<◌, ◌≤◌, ◌∷◌, ◌++◌}
use Rattle.cborn_wire.proofs.Common.{refl, sym, ap, ◌∙◌, subst, ℕ, List, [], length, length-drop, take, Option, Some, Err, inl, arith, take_all, AreBytes, Tree, Trees, trees, Wellformed, PlacedAll, Partial, top, inside, Part, no_part, part, VisitFault, WireReason, Truncated, Level, PartialHead, HeadReader, Fault, OpenContainer, Unfinished, nothing, State, Live, start, run, ready, open_in, unfinished, Stands, HereAt, IsFresh, IsInput, IsFed, MayEnd, levels, Missing, Reads, RefusesPiece, drop, append-nil, Ok, inr, length-take-le, take-append-drop, drop-drop, nil_from_length, no_item, depth, spelled, Fits, EndsHeld, Failed, ready_in, AtMostOneMore, ReadsItem, common_steps, nat_tests, bytes-right}
use Rattle.cborn_wire.specs.declared.faults.VisitFault.TheVariants as faults
use Rattle.cborn_wire.specs.Faults.{Refused}
use Rattle.cborn_wire.proofs.Spelled.SlotLaws.{cut_short}
use Rattle.cborn_wire.proofs.Spelled.FaultLaws.{fails_refused}
use Rattle.cborn_wire.proofs.Spelled.OneReading.{ends_read}
use Rattle.cborn_wire.proofs.Visiting.Taking.{outer_count}
use Rattle.cborn_wire.proofs.Visiting.Pieces.{may_end_here}
use Rattle.cborn_wire.specs.Reading.{EndsItem}
use Rattle.cborn_wire.specs.declared.faults.WireFault.TheVariants as wire
use Rattle.cborn_wire.proofs.Feeding.FeederLaws.{no_first}

-- a reader that was handed nothing
pub fresh_fed : (holds : Partial → Part → Type 0) (outer : List Level) (l : Level) (limit at : ℕ) (m : HeadReader) → holds (top []) no_part → IsInput outer l → IsFresh limit at m → IsFed holds outer l m at []
fresh_fed holds outer l limit at m held h e = grind arith

-- a state that a reader is at lives
live_here : (holds : Partial → Part → Type 0) (outer : List Level) (l : Level) (left at : ℕ) (h : Option PartialHead) (s : State) → HereAt holds outer l left at h s → (rd : Trees) × (os : List OpenContainer) × (q : Unfinished) × (s ≡ Live at rd os q)
live_here holds outer l left at h s e = grind (arith, common_steps, nat_tests)

module _ (holds : Partial → Part → Type 0) (outer : List Level) (l : Level) (m : HeadReader) (base : ℕ) (x : List ℕ) (fed : IsFed holds outer l m base x) where
  -- The input may end: the visitor holds the nodes that the bytes spell.
  pub whole : MayEnd outer m → (ts : List Tree) × holds (top ts) no_part × Wellformed m.limit (trees ts) x × PlacedAll base (trees ts) × (run m.limit (start base) x ≡ Live m.at (trees ts) [] nothing)
  whole (between, none, bare) = at_end (subst (λ h. HereAt holds outer l m.left m.at h (run m.limit (start base) x)) between fed.2)
    where
      at_end : Stands holds outer l m.left m.at (run m.limit (start base) x) → (ts : List Tree) × holds (top ts) no_part × Wellformed m.limit (trees ts) x × PlacedAll base (trees ts) × (run m.limit (start base) x ≡ Live m.at (trees ts) [] nothing)
      at_end h = go h.partial h.amid h.missing h.held h.levels.0 h.is
        where
          go : (f : Partial) (c : Part) → Missing m.left c → holds f c → levels f ≡ outer ++ l ∷ [] → run m.limit (start base) x ≡ Live m.at (ready f) (open_in f) (unfinished c)
              → (ts : List Tree) × holds (top ts) no_part × Wellformed m.limit (trees ts) x × PlacedAll base (trees ts) × (run m.limit (start base) x ≡ Live m.at (trees ts) [] nothing)
          go (top ts) no_part missing held e is = let (read, placed) = ends_read m.limit base x fed.0 m.at (trees ts) is in (ts, held, read, placed, is)
          go (inside f o ts) no_part missing held e is = absurd (omega (arith, outer_count (inside f o ts) outer l e, ap length bare))
          go f (part p k w n y) missing held e is = absurd (omega (arith, none, missing.1))

  -- The input may not end: it is cut.
  pub cut : (MayEnd outer m → ⊥) → Fault m.limit x (length x) Truncated
  cut never =
      let (rd, os, q, is) = live_here holds outer l m.left m.at m.head _ fed.2 in
      cut_short m.limit base x fed.0 m.at rd os q is (λ none still. never (may_end_here holds outer l m _ m.at rd fed.2 (is ∙ ap (λ ls. Live m.at rd ls q) none ∙ ap (Live m.at rd []) still)))

-- A head that isn't allowed is the fault of the bytes.
pub refused : (holds : Partial → Part → Type 0) (outer : List Level) (l : Level) (m : HeadReader) (base : ℕ) (x piece : List ℕ) (p : ℕ) (r : WireReason) → AreBytes (x ++ piece) → RefusesPiece holds outer l m base x piece p r
    → (q : ℕ) × (p ≡ base + q) × Refused m.limit (x ++ piece) q r
refused holds outer l m base x piece p r are h = fails_refused m.limit base (x ++ piece) are _ p r h.fails

-- an input that is read as one piece
module _ (holds : Partial → Part → Type 0) (outer : List Level) (l : Level) (m : HeadReader) (limit : ℕ) (x : List ℕ) (limited : m.limit ≡ limit) where
  module _ (n : ℕ) (all : n ≡ length x) (h : IsFed holds outer l m 0 ([] ++ take n x)) where
    fed : IsFed holds outer l m 0 x
    fed = subst (IsFed holds outer l m 0) (ap (λ k. take k x) all ∙ take_all (length x) x (omega arith)) h

    pub whole_piece : MayEnd outer m → (ts : List Tree) × holds (top ts) no_part × Wellformed limit (trees ts) x × PlacedAll 0 (trees ts)
    whole_piece may = let (ts, held, read, placed, is) = whole holds outer l m 0 x fed may in (ts, held, subst (λ k. Wellformed k (trees ts) x) limited read, placed)

    pub cut_piece : (MayEnd outer m → ⊥) → Fault limit x (length x) Truncated
    cut_piece never = subst (λ k. Fault k x (length x) Truncated) limited (cut holds outer l m 0 x fed never)

  pub refused_piece : AreBytes x → (e : VisitFault) → Reads holds outer l m 0 [] x (Err e) → (p : ℕ) (r : WireReason) → e ≡ faults.Refused p r → Fault limit x p r
  refused_piece are e h p r said =
      let (q, at, fault) = refused holds outer l m 0 [] x p r are (subst (λ f. Reads holds outer l m 0 [] x (Err f)) said h) in
      subst (λ k. Fault limit x k r) (omega (arith, at)) (subst (λ k. Fault k x q r) limited (inl fault))

pub ends_item : (P : Tree → Type 0) (limit p : ℕ) (x : List ℕ) (end : Option ℕ) → EndsHeld P limit x p (Ok end) → EndsItem limit x p (Ok end)
ends_item P limit p x end h = grind (arith, common_steps, nat_tests)

-- Nothing is there.
pub none_there : (limit p : ℕ) (x : List ℕ) → p ≡ length x → EndsItem limit x p (Err (wire.Refused p Truncated))
none_there limit p x all =
    let none : drop p x ≡ [] = nil_from_length (drop p x) (omega (arith, length-drop p x, all)) in
    (0, omega arith, (λ t rest is. no_first limit p [] t rest refl (sym none ∙ is), inl (none, refl, refl)))

-- the bytes from there on
module _ (limit p : ℕ) (x y : List ℕ) (same : y ≡ drop p x) where
  -- A head isn't allowed, before any item is whole.
  pub refused_first : (P : Tree → Type 0) (e : VisitFault) → AreBytes x → ReadsItem limit p [] y (Err e) → EndsHeld P limit x p (Err e)
  refused_first P (faults.Refused q r) are h =
      let fails = subst (λ z. run limit (start p) z ≡ Failed no_item q r) same h in
      let (at, is, fault) = fails_refused limit p (drop p x) (bytes-right (take p x) (drop p x) (subst AreBytes (sym (take-append-drop p x)) are)) no_item q r fails in
      (at, is, (λ t rest. no_first limit p (drop p x) t rest (ap ready_in fails), inr (inl fault)))
  refused_first P (faults.Memory e) are h = tt

  module _ (holds : Partial → Part → Type 0) (outer : List Level) (l : Level) (m : HeadReader) (n : ℕ) (low : p ≤ length x) (within : n ≤ length y) (limited : m.limit ≡ limit)
      (fed : IsFed holds outer l m p (take n y)) (one : AtMostOneMore no_item (run m.limit (start p) (take n y))) where
    -- The item that is whole.
    pub first_whole : 0 < n → MayEnd outer m → EndsHeld (λ t. holds (top (t ∷ [])) no_part) limit x p (Ok (Some (p + n)))
    first_whole some end =
        let (ts, held, read, placed, is) = whole holds outer l m p (take n y) fed end in
        go ts held read placed (subst (AtMostOneMore no_item) is one)
      where
        go : (ts : List Tree) → holds (top ts) no_part → Wellformed m.limit (trees ts) (take n y) → PlacedAll p (trees ts) → AtMostOneMore no_item (Live m.at (trees ts) [] nothing)
            → EndsHeld (λ t. holds (top (t ∷ [])) no_part) limit x p (Ok (Some (p + n)))
        go [] held read placed h = absurd (omega (arith, some, length-take-le n y within, ap length read.spells))
        go (t ∷ []) held read placed h =
            let front : take n y ≡ spelled t = sym read.spells ∙ append-nil (spelled t) in
            let rest : drop n y ≡ drop (p + n) x = ap (drop n) same ∙ drop-drop n p x in (
              omega (arith, some),
              omega (arith, within, ap length same, length-drop p x, low),
              t,
              held,
              record { whole = sym (take-append-drop n y ∙ same) ∙ ap (λ z. z ++ drop n y) front ∙ ap (λ z. spelled t ++ z) rest; fits = read.fit.0; shallow = omega (arith, read.shallow, limited); placed = placed.0 },
            )
        go (t ∷ u ∷ ts) held read placed (inl h) = cc
        go (t ∷ u ∷ ts) held read placed (inr (at, v, h)) = cc

    -- The bytes end before an item is whole.
    pub first_cut : n ≡ length y → (MayEnd outer m → ⊥) → EndsItem limit x p (Err (wire.Refused (length x) Truncated))
    first_cut all never = (
      length (drop p x),
      omega (arith, length-drop p x, low),
      (none, inr (subst (λ k. Fault k (drop p x) (length (drop p x)) Truncated) limited (cut holds outer l m p (drop p x) (subst (IsFed holds outer l m p) front fed) never))),
    )
      where
        front : take n y ≡ drop p x
        front = take_all n y (omega (arith, all)) ∙ same

        go : AtMostOneMore no_item (run m.limit (start p) (take n y)) → ready_in (run m.limit (start p) (take n y)) ≡ no_item
        go (inl none) = none
        go (inr (at, u, is)) = absurd (never (may_end_here holds outer l m _ at _ fed.2 is))

        none : (t : Tree) (rest : List ℕ) → drop p x ≡ spelled t ++ rest → Fits t → depth t ≤ limit → ⊥
        none t rest is fits deep = no_first m.limit p (take n y) t rest (go one) (front ∙ is) fits (omega (arith, deep, limited))
