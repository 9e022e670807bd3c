-- What a judge of pieces knows of the bytes that came.
use Rattle.std.specs.Prelude.{◌≡◌, ◌≤◌, ◌++◌}
use Rattle.cborn_engine.proofs.Common.{ℕ, List, [], length, take, true, Option, None, Some, Result, Ok, Err, refl, sym, subst, arith, inl, inr, is_some, Ordering, Tree, trees, Wellformed, PlacedAll, Fault, Refused, WireReason, Consumes, Consumes-trans, PieceAnswers, Collects, InputFault, EngineFault, of_input, most_bytes, AreJudged, IsRefusedHeld, nil_from_length, top, no_part, IsHeld, MayEnd, Truncated, refused_stays, whole, cut, Count, Input, Whole, Judged, Kind, EncodedItems, read_failures_at, HasJudged, IsJudging, InputAnswers, ReadsInput, ReadsWhole}
use Rattle.cborn_engine.specs.declared.piece_judges.PieceJudge.{PieceJudge}
use Rattle.cborn_engine.proofs.Answers.{read_refused, unread}
use Rattle.cborn_engine.proofs.Streams.Coming.{SoFar, read_now, taken_all}

module _ {O : Type 0} (order : List ℕ → List ℕ → Ordering) (j : PieceJudge O) (x : List ℕ) where
  -- a fault stays, whatever follows
  pub stays : (y : List ℕ) (fault : Option (ℕ × WireReason)) → is_some fault ≡ true → HasJudged (IsHeld order) j x fault → HasJudged (IsHeld order) j (x ++ y) fault
  stays y fault h1 h2 = grind (arith, refused_stays)

  module _ (limit : ℕ) (h : IsJudging (IsHeld order) j x limit) where
    pub refused : (f : ℕ × WireReason) → j.fault ≡ Some f → Fault limit x f.0 f.1
    refused f some = inl (subst (λ k. Refused k x f.0 f.1) h.0 (subst (HasJudged (IsHeld order) j x) some h.1))

    module _ (none : j.fault ≡ None) where
      read : HasJudged (IsHeld order) j x None
      read = subst (HasJudged (IsHeld order) j x) none h.1

      pub ended : MayEnd j.levels.outer.items j.heads → (ts : List Tree) × IsHeld order j.encoder (top ts) no_part × Wellformed limit (trees ts) x × PlacedAll 0 (trees ts)
      ended may =
          let (ts, held, spelled, placed, is) = whole (IsHeld order j.encoder) j.levels.outer.items j.levels.inner j.heads 0 x read.0 may in
          (ts, held, subst (λ k. Wellformed k (trees ts) x) h.0 spelled, placed)

      pub cut_off : (MayEnd j.levels.outer.items j.heads → ⊥) → Fault limit x j.heads.at Truncated
      cut_off h1 = grind (arith, cut, length, read)

-- no content of bytes is a failure of their reader
pub quiet : (limit : ℕ) (x : List ℕ) (why : EngineFault) (n : ℕ) → IsRefusedHeld Kind.Wire limit x why → read_failures_at why n ≡ n
quiet limit x why n h1 = grind (arith, length)

-- memory was refused after this was read
pub refused_memory : (order : List ℕ → List ℕ → Ordering) (limit : ℕ) (a b : Option (List ℕ)) (x : List ℕ) → Consumes a b x → length x ≤ most_bytes → ReadsInput order Count.Any Kind.Wire limit a b (Err EngineFault.OutOfMemory)
refused_memory order limit a b x t l = record { input = x; taken = t; answer = l; to_end = inr (inr (inr refl)) }

-- so is a failed read, or a byte too many
pub unread_input : (order : List ℕ → List ℕ → Ordering) (limit : ℕ) (a b : Option (List ℕ)) (why : InputFault) → Collects most_bytes a b (Err why) → ReadsInput order Count.Any Kind.Wire limit a b (Err (of_input why))
unread_input order limit a b why = unread (λ why. why) (InputAnswers order Count.Any Kind.Wire limit) most_bytes a b Kind.Wire limit why (λ x r. r.0)

-- The judge took all bytes that were read so far.
module _ {O : Type 0} (order : List ℕ → List ℕ → Ordering) (limit left : ℕ) (a b c : Option (List ℕ)) (j : PieceJudge O) (s : SoFar most_bytes left a b (λ x. IsJudging (IsHeld order) j x limit)) (buf : List ℕ) (n : ℕ) (p : PieceAnswers b c left buf (Ok n)) where
  -- the input has ended
  module _ (none : n ≡ 0) where
    taken : Consumes a c s.input
    taken = taken_all most_bytes left a b c (λ x. IsJudging (IsHeld order) j x limit) s buf n p none

    pub judged : (e : EncodedItems) → AreJudged order limit s.input e.bytes.items e.defect → ReadsInput order Count.Any Kind.Wire limit a c (Ok (Judged e))
    judged e h = record { input = s.input; taken = taken; answer = (omega (arith, s.count), h); to_end = p.3 none }

    pub refused_whole : (why : EngineFault) → IsRefusedHeld Kind.Wire limit s.input why → ReadsInput order Count.Any Kind.Wire limit a c (Err why)
    refused_whole why h1 = grind (arith, inl, length, most_bytes, read_refused, taken)

  -- it was the first piece, and all that followed was collected, or not
  module _ (first : left ≡ most_bytes) (d : Option (List ℕ)) where
    nothing : s.input ≡ []
    nothing = nil_from_length s.input (omega (arith, s.count, first))

    with_front : (y : List ℕ) → Consumes c d y → Consumes a d (take n buf ++ y)
    with_front y t = Consumes-trans a c d (take n buf) y (subst (λ x. Consumes a c (x ++ take n buf)) nothing (read_now most_bytes left a b c (λ x. IsJudging (IsHeld order) j x limit) s buf n p)) t

    pub kept_whole : (r : Result Input EngineFault) → ReadsWhole (take n buf) c d r → ReadsInput order Count.Any Kind.Wire limit a d r
    kept_whole (Ok (Whole bytes)) w = record { input = take n buf ++ w.input; taken = with_front w.input w.taken; answer = (w.answer.0, w.answer.1); to_end = w.answer.2 }
    kept_whole (Ok (Judged e)) w = absurd w
    kept_whole (Err why) (f, is, w) = subst (λ e. ReadsInput order Count.Any Kind.Wire limit a d (Err e)) (sym is) (unread_input order limit a d f (record { input = take n buf ++ w.input; taken = with_front w.input w.taken; answer = w.answer }))
