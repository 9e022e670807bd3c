-- The state of the machine at a slot, and what it fails for there.
use Rattle.std.specs.Prelude.{◌≡◌, ◌+◌, ◌++◌}
use Rattle.cborn_wire.proofs.Common.{refl, sym, ap, ◌∙◌, subst, ℕ, List, [], length, Some, inr, arith, append-nil, length-append, AreBytes, Trees, no_item, spelled_all, WireReason, Slot, OpenContainer, beginnings, slot, open_depth, Open, IsWellformed, GoesOn, Fault, Truncated, SlotRefused, front_reason, all_from, Unfinished, nothing, Live, Failed, run, start, front, bytes-append}
use Rattle.cborn_wire.proofs.HeadReading.InitialBytes.{same_reason}
use Rattle.cborn_wire.proofs.Machine.Running.{run-append, failed_run}
use Rattle.cborn_wire.proofs.Spelled.OneReading.{reads, takes_sequence, ends_read}
use Rattle.cborn_wire.proofs.Machine.SoundItems.{SoundLive, SoundFailed, Sound}
use Rattle.cborn_wire.proofs.Machine.SoundRuns.{sound}
use Rattle.cborn_wire.proofs.Machine.TakesOpen.{open_from, slot-from, open_depth-from, takes_open}
use Rattle.cborn_wire.proofs.Machine.SomeEnd.{refused_run, Closable, closes}

module _ (limit base : ℕ) where
  -- the state of the machine at a slot
  pub record At (f : List ℕ) (s : Slot) (k : ℕ) : Type 0 where
    pub ready : Trees
    pub os : List OpenContainer
    pub is : run limit (start base) f ≡ Live (base + length f) ready os nothing
    pub slot_is : slot os ≡ s
    pub depth_is : open_depth os ≡ k

  pub opened : (f : List ℕ) (s : Slot) (k : ℕ) → Open limit f s k → At f s k
  opened f s k (ts, os, fits, deep, are_open, is, e, d) =
      let us = all_from base ts in
      let whole : f ≡ spelled_all ts ++ (beginnings os ++ []) = is ∙ ap (λ l. spelled_all ts ++ l) (sym (append-nil (beginnings os))) in
      let q = base + length (spelled_all ts) in
      let total : q + length (beginnings os) ≡ base + length f = omega (arith, ap length is, length-append (spelled_all ts) (beginnings os)) in
      record {
        ready = us;
        os = open_from q os;
        is = ap (run limit (start base)) whole ∙ takes_sequence ts limit base no_item (beginnings os ++ []) fits deep ∙ takes_open limit os q us [] are_open ∙ ap (λ k. Live k us (open_from q os) nothing) total;
        slot_is = slot-from os q ∙ sym e;
        depth_is = open_depth-from os q ∙ sym d;
      }

  -- the run of what the table refuses
  pub refused_fails : (x : List ℕ) (p : ℕ) (r : WireReason) → SlotRefused limit x p r → (ready : Trees) × (run limit (start base) x ≡ Failed ready (base + p) r)
  refused_fails x p r (f, y, s, k, is, at, opens, reason) =
      let a = opened f s k opens in
      let stands : front_reason limit (slot a.os) (open_depth a.os) y ≡ Some r = ap (λ t. front_reason limit t (open_depth a.os) y) a.slot_is ∙ ap (λ d. front_reason limit s d y) a.depth_is ∙ sym (same_reason limit s k y) ∙ reason in
      (a.ready, ap (run limit (start base)) is ∙ run-append limit (start base) f y ∙ ap (λ u. run limit u y) a.is ∙ refused_run limit y (base + length f) a.ready a.os r stands ∙ ap (λ q. Failed a.ready (base + q) r) at)

  -- and nothing else fails
  pub fails_at_slot : (x : List ℕ) → AreBytes x → (ready : Trees) (q : ℕ) (r : WireReason) → run limit (start base) x ≡ Failed ready q r → (p : ℕ) × (q ≡ base + p) × SlotRefused limit x p r
  fails_at_slot x bytes ready q r e =
      let h : SoundFailed limit base x ready q r = subst (Sound limit base x) e (sound limit base x bytes) in (
        length h.before,
        h.live.fed_is,
        (
          h.before,
          h.after,
          slot h.os,
          open_depth h.os,
          h.whole,
          refl,
          (ready, h.os, h.live.ground.fit, h.live.ground.shallow, h.live.ground.are_open, h.live.bytes ∙ append-nil (front ready h.os), refl, refl),
          same_reason limit (slot h.os) (open_depth h.os) h.after ∙ h.refused,
        ),
      )

  pub ends_whole : (x : List ℕ) → AreBytes x → (fed : ℕ) (ready : Trees) → run limit (start base) x ≡ Live fed ready [] nothing → IsWellformed limit x
  ends_whole x bytes fed ready e = (ready, (ends_read limit base x bytes fed ready e).0)

  -- what can come to an end of complete items goes on
  pub closable_goes : (x : List ℕ) → AreBytes x → Closable limit (run limit (start base) x) → GoesOn limit x
  closable_goes x bytes (y, more, fed, ready, end) = (y, ends_whole (x ++ y) (bytes-append x y bytes more) fed ready (run-append limit (start base) x y ∙ end))

  -- so does what lives
  pub goes_on : (x : List ℕ) → AreBytes x → (fed : ℕ) (ready : Trees) (os : List OpenContainer) (partial : Unfinished) → run limit (start base) x ≡ Live fed ready os partial → GoesOn limit x
  goes_on x bytes fed ready os partial e =
      let h : SoundLive limit base x fed ready os partial = subst (Sound limit base x) e (sound limit base x bytes) in
      closable_goes x bytes (subst (Closable limit) (sym e) (closes limit base x fed ready os partial h))

  -- Where something is open or partial, the bytes are cut.
  pub cut_short : (x : List ℕ) → AreBytes x → (fed : ℕ) (ready : Trees) (os : List OpenContainer) (partial : Unfinished) → run limit (start base) x ≡ Live fed ready os partial → (os ≡ [] → partial ≡ nothing → ⊥) → Fault limit x (length x) Truncated
  cut_short x bytes fed ready os partial e unfinished = inr (refl, (refl, never, goes_on x bytes fed ready os partial e))
    where
      never : IsWellformed limit x → ⊥
      never (ts, w) = let both = sym (reads limit base ts x w) ∙ e in unfinished (cc both) (cc both)

  -- and what fails doesn't
  pub fails_ends : (x : List ℕ) (p : ℕ) (r : WireReason) (ready : Trees) → run limit (start base) x ≡ Failed ready p r → GoesOn limit x → ⊥
  fails_ends x p r ready e (y, (ts, w)) =
      cc (sym (reads limit base ts (x ++ y) w) ∙ run-append limit (start base) x y ∙ ap (λ s. run limit s y) e ∙ failed_run limit y ready p r)

module _ (limit : ℕ) where
  -- each front has at most one slot and one depth
  pub one_slot : (f : List ℕ) (s t : Slot) (j k : ℕ) → Open limit f s j → Open limit f t k → (s ≡ t) × (j ≡ k)
  one_slot f s t j k g h =
      let a = opened limit 0 f s j g in
      let b = opened limit 0 f t k h in
      let same : a.os ≡ b.os = cc (sym a.is ∙ b.is) in
      (sym a.slot_is ∙ ap slot same ∙ b.slot_is, sym a.depth_is ∙ ap open_depth same ∙ b.depth_is)

  -- What the table refuses has no end.
  pub slot_ends : (x : List ℕ) (p : ℕ) (r : WireReason) → SlotRefused limit x p r → GoesOn limit x → ⊥
  slot_ends x p r h =
      let (ready, e) = refused_fails limit 0 x p r h in
      fails_ends limit 0 x (0 + p) r ready e
