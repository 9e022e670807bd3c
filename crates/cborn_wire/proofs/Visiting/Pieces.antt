-- A piece is read by its fronts.
use Rattle.std.specs.Prelude.{◌≡◌, ◌+◌, ◌-◌, ◌≤◌, ◌++◌}
use Rattle.cborn_wire.proofs.Common.{refl, sym, ap, ◌∙◌, subst, ℕ, List, [], length, take, drop, Result, Ok, Err, inl, inr, arith, append_assoc, length-append, length-take-le, take-append-drop, take_all, take_rest, take-append-le, nil_from_length, AreBytes, Trees, Partial, Part, no_part, part, VisitFault, Refused, Memory, WireReason, Level, HeadReader, nothing, State, Live, Failed, ready_in, start, run, AtMostOneMore, unfinished, open_in, Missing, Stands, HereAt, Here, IsReached, TakesPiece, IsFed, MayEnd, Reads, ReadsItem, next_head, bytes-append}
use Rattle.cborn_wire.proofs.Machine.Running.{run-append}
use Rattle.cborn_wire.proofs.Visiting.Taking.{bytes-take, outer_count}

-- what was taken of a piece
pub front_taken : (piece y rest : List ℕ) → piece ≡ y ++ rest → take (length y) piece ≡ y
front_taken piece y rest cut = ap (take (length y)) cut ∙ take-append-le (length y) y rest (omega arith) ∙ take_all (length y) y (omega arith)

pub all_taken : (piece y rest : List ℕ) → piece ≡ y ++ rest → take (length piece - length rest) piece ≡ y
all_taken piece y rest cut = ap (λ k. take k piece) (omega (arith, ap length cut, length-append y rest)) ∙ front_taken piece y rest cut

-- Where nothing is open and nothing is partial, the input may end.

bare : (holds : Partial → Part → Type 0) (outer : List Level) (l : Level) (left at n : ℕ) (ts : Trees) (s : State) → Stands holds outer l left at s → s ≡ Live n ts [] nothing → (left ≡ 0) × (outer ≡ [])
bare holds outer l left at n ts s h is =
    let none : open_in h.partial ≡ [] = cc (sym h.is ∙ is) in
    (go h.amid h.missing (cc (sym h.is ∙ is)), nil_from_length outer (outer_count h.partial outer l h.levels.0 ∙ ap length none))
  where
    go : (c : Part) → Missing left c → unfinished c ≡ nothing → left ≡ 0
    go no_part none e = none
    go (part p k w x y) none e = cc

pub may_end_here : (holds : Partial → Part → Type 0) (outer : List Level) (l : Level) (m : HeadReader) (s : State) (n : ℕ) (ts : Trees) → Here holds outer l m s → s ≡ Live n ts [] nothing → MayEnd outer m
may_end_here holds outer l m s n ts here is = grind (arith, bare)

-- A front y of the piece was read, the rest is to come, and n bytes of that are taken next.
module _ (piece y rest : List ℕ) (cut : piece ≡ y ++ rest) (n : ℕ) (fits : n ≤ length rest) where
  pub next_cut : piece ≡ (y ++ take n rest) ++ take (length rest - n) (drop n rest)
  next_cut = cut ∙ ap (λ l. y ++ l) (sym (take-append-drop n rest)) ∙ sym (append_assoc y (take n rest) (drop n rest)) ∙ ap (λ l. (y ++ take n rest) ++ l) (sym (take_rest rest n))

  pub next_taken : take (length piece - length (take (length rest - n) (drop n rest))) piece ≡ y ++ take n rest
  next_taken = ap (λ k. take k piece) (omega (arith, ap length next_cut, length-append (y ++ take n rest) (take (length rest - n) (drop n rest)))) ∙ front_taken piece (y ++ take n rest) (take (length rest - n) (drop n rest)) next_cut

  pub taken_len : length piece - length (take (length rest - n) (drop n rest)) ≡ length y + n
  taken_len = omega (arith, ap length next_cut, length-append (y ++ take n rest) (take (length rest - n) (drop n rest)), length-append y (take n rest), length-take-le n rest fits)

-- After the bytes x and y the reader m takes a front of the rest, or the rest is refused.
module _ {V L : Type 0} (holds : V → Partial → Part → Type 0) (outer : L → List Level) (inner : L → Level) (v : V) (k : L) (m : HeadReader) (base : ℕ) (x y rest : List ℕ) (fed : IsFed (holds v) (outer k) (inner k) m base (x ++ y)) where
  abbrev now : State
  now = run m.limit (start base) (x ++ y)

  -- what a call that takes bytes gives here
  abbrev Takes : V → L → HeadReader → Result ℕ VisitFault → Type 0
  Takes w j next r = (s : State) (b : ℕ) → Here (holds v) (outer k) (inner k) m s → IsReached m.limit b s → TakesPiece m.limit s rest (holds w) (outer j) (inner j) next.left m.at next.head r

  pub reached_now : IsReached m.limit base now
  reached_now = (x ++ y, fed.0, refl)

  next_state : (n : ℕ) → run m.limit now (take n rest) ≡ run m.limit (start base) (x ++ (y ++ take n rest))
  next_state n = sym (run-append m.limit (start base) (x ++ y) (take n rest)) ∙ ap (run m.limit (start base)) (append_assoc x y (take n rest))

  module _ (w : V) (j : L) (next : HeadReader) (n : ℕ) (takes : Takes w j next (Ok n)) (same : next.limit ≡ m.limit) (at : next.at ≡ m.at) where
    abbrev moved : HeadReader
    moved = record next { at = next.at + n }

    here : Here (holds w) (outer j) (inner j) moved (run m.limit (start base) (x ++ (y ++ take n rest)))
    here = subst (λ p. HereAt (holds w) (outer j) (inner j) next.left (p + n) next.head (run m.limit (start base) (x ++ (y ++ take n rest)))) (sym at) (subst (HereAt (holds w) (outer j) (inner j) next.left (m.at + n) next.head) (next_state n) (takes now base fed.2 reached_now).0)

    pub next_fed : AreBytes rest → IsFed (holds w) (outer j) (inner j) moved base (x ++ (y ++ take n rest))
    next_fed more = grind (arith, append_assoc, bytes-append, bytes-take, here)

    -- no item is whole before
    module _ (none : ready_in now ≡ ready_in (run m.limit (start base) x)) where
      pub next_item : AtMostOneMore (ready_in (run m.limit (start base) x)) (run m.limit (start base) (x ++ (y ++ take n rest)))
      next_item = subst (λ ts. AtMostOneMore ts (run m.limit (start base) (x ++ (y ++ take n rest)))) none (subst (AtMostOneMore (ready_in now)) (next_state n) (takes now base fed.2 reached_now).1)

      -- nor now, where the input may not end
      pub none_more : (MayEnd (outer j) moved → ⊥) → ready_in (run next.limit (start base) (x ++ (y ++ take n rest))) ≡ ready_in (run next.limit (start base) x)
      none_more never = subst (λ l. ready_in (run l (start base) (x ++ (y ++ take n rest))) ≡ ready_in (run l (start base) x)) (sym same) (go next_item)
        where
          go : AtMostOneMore (ready_in (run m.limit (start base) x)) (run m.limit (start base) (x ++ (y ++ take n rest))) → ready_in (run m.limit (start base) (x ++ (y ++ take n rest))) ≡ ready_in (run m.limit (start base) x)
          go (inl is) = is
          go (inr (end, t, is)) = absurd (never (may_end_here (holds w) (outer j) (inner j) moved _ end _ here is))

  module _ (piece : List ℕ) (cut : piece ≡ y ++ rest) where
    all_state : run m.limit (start base) (x ++ piece) ≡ run m.limit now rest
    all_state = ap (λ l. run m.limit (start base) (x ++ l)) cut ∙ ap (run m.limit (start base)) (sym (append_assoc x y rest)) ∙ run-append m.limit (start base) (x ++ y) rest

    pub next_refused : (w : V) (j : L) (next : HeadReader) (e : VisitFault) → Takes w j next (Err e) → next.limit ≡ m.limit → ((p : ℕ) (r : WireReason) → ◌≡◌ {A = Result ℕ VisitFault} (Err e) (Err (Refused p r)) → (p ≡ next_head m) × (w ≡ v) × (j ≡ k) × (next ≡ m))
        → Reads (holds w) (outer j) (inner j) next base x piece (Err e)
    next_refused w j next (Refused p r) takes same kept =
        let taken : take (length y) piece ≡ y = front_taken piece y rest cut in
        let (there, vs, ks, ms) = kept p r refl in
        rw (vs, ks, ms) (record {
          taken = length y;
          within = omega (arith, ap length cut, length-append y rest);
          fed = subst (λ z. IsFed (holds v) (outer k) (inner k) m base (x ++ z)) (sym taken) fed;
          fails = rw taken (all_state ∙ takes now base fed.2 reached_now);
          next = sym there;
        })
    next_refused w j next (Memory e) takes same kept = tt

    pub next_item_refused : (w : V) (j : L) (next : HeadReader) (e : VisitFault) → Takes w j next (Err e) → ready_in now ≡ ready_in (run m.limit (start base) x) → ReadsItem m.limit base x piece (Err e)
    next_item_refused w j next (Refused p r) takes none = all_state ∙ takes now base fed.2 reached_now ∙ ap (λ ts. Failed ts p r) none
    next_item_refused w j next (Memory e) takes none = tt
