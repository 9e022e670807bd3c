-- Which bytes go on: the state of the machine where a head begins, and which heads are allowed there.
use Rattle.std.specs.Prelude.{◌≡◌, ◌+◌, ◌<◌, ◌∷◌, ◌++◌}
use Rattle.cborn_wire.proofs.Common.{refl, sym, ap, ◌∙◌, subst, ℕ, List, [], length, take, drop, Bool, true, false, cond, eqb, Some, inl, inr, arith, append_assoc, eqb-true, take-append-drop, AreBytes, Trees, Unsigned, WireReason, StringKind, OfBytes, OfText, Slot, chunk, OpenContainer, Open, IsWellformed, GoesOn, BeginsHead, judged, IsReason, reason_at, SlotRefused, Now, is_bad_chunk, nothing, gathering, State, Live, Failed, step, start, run, length-append, append_cancel_left, append_same, bytes-append, bytes-left, bytes-right, common_steps, nat_tests}
use Rattle.cborn_wire.proofs.Spelled.OneReading.{split}
use Rattle.cborn_wire.specs.Faults.{Refused}
use Rattle.cborn_wire.proofs.Machine.Running.{run-append}
use Rattle.cborn_wire.proofs.Machine.SomeEnd.{Closable, takes_part, takes_integer}
use Rattle.cborn_wire.proofs.Machine.SoundItems.{SoundLive, Sound}
use Rattle.cborn_wire.proofs.Machine.SoundRuns.{sound}
use Rattle.cborn_wire.proofs.Spelled.AllBytes.{well_bytes}
use Rattle.cborn_wire.proofs.Spelled.Reasons.{table_reason, judged_reason}
use Rattle.cborn_wire.proofs.Spelled.SlotLaws.{At, opened, closable_goes, goes_on, fails_ends, slot_ends}

-- two places in one list, the first before the second
pub later : (x f g y z : List ℕ) (b c : ℕ) → x ≡ f ++ b ∷ y → x ≡ g ++ c ∷ z → length f < length g → (w : List ℕ) × (g ≡ f ++ b ∷ w) × (y ≡ w ++ c ∷ z)
later x f g y z b c e h l =
    let (w, is) = split (f ++ b ∷ []) g y (c ∷ z) (append_assoc f (b ∷ []) y ∙ sym e ∙ h) (omega (arith, length-append f (b ∷ []))) in
    let front : g ≡ f ++ b ∷ w = is ∙ append_assoc f (b ∷ []) w in
    let both : b ∷ y ≡ b ∷ (w ++ c ∷ z) = append_cancel_left f (b ∷ y) (b ∷ (w ++ c ∷ z)) (sym e ∙ h ∙ ap (λ l. l ++ c ∷ z) front ∙ append_assoc f (b ∷ w) (c ∷ z)) in
    (w, front, cc both)

-- one place
pub same_place : (x f g y z : List ℕ) (b c : ℕ) → x ≡ f ++ b ∷ y → x ≡ g ++ c ∷ z → length f ≡ length g → (f ≡ g) × (b ≡ c)
same_place x f g y z b c e h l = grind (arith, append_same)

module _ (limit : ℕ) where
  -- each front of what goes on goes on
  pub goes_front : (f g : List ℕ) → GoesOn limit (f ++ g) → GoesOn limit f
  goes_front f g (y, w) = (g ++ y, subst (IsWellformed limit) (append_assoc f g y) w)

  -- a byte after a front that the machine may take goes on
  byte_goes : (f : List ℕ) (c : ℕ) (s : State) → AreBytes f → c < 256 → run limit (start 0) f ≡ s → Closable limit (step limit s c) → GoesOn limit (f ++ c ∷ [])
  byte_goes f c s bytes byte e h =
      closable_goes limit 0 (f ++ c ∷ []) (bytes-append f (c ∷ []) bytes (byte, tt))
      (subst (Closable limit) (sym (run-append limit (start 0) f (c ∷ []) ∙ ap (λ s. run limit s (c ∷ [])) e)) h)

  -- Where a head begins the machine is between heads.
  pub record Between (f : List ℕ) : Type 0 where
    pub fed : ℕ
    pub ready : Trees
    pub os : List OpenContainer
    pub is : run limit (start 0) f ≡ Live fed ready os nothing

  pub begins_between : (f : List ℕ) → BeginsHead limit f → Between f
  begins_between f (goes, free) = go (run limit (start 0) f) refl
    where
      bytes : AreBytes f
      bytes = bytes-left f goes.0 (well_bytes limit goes.1.0 (f ++ goes.0) goes.1.1)

      go : (s : State) → run limit (start 0) f ≡ s → Between f
      go (Live fed ready os nothing) e = record { fed = fed; ready = ready; os = os; is = e }
      go (Live fed ready os (gathering p g n got)) e =
          let h : SoundLive limit 0 f fed ready os (gathering p g n got) = subst (Sound limit 0 f) e (sound limit 0 f bytes) in
          absurd (free (byte_goes f 0xfc (Live fed ready os (gathering p g n got)) bytes (omega arith) e (takes_part limit 0 f fed ready os p g n got 0xfc (omega arith) h)))
      go (Failed ready p r) e = absurd (fails_ends limit 0 f p r ready e goes)

  -- after the first byte of a simple value of two bytes it isn't
  amid_simple : (f : List ℕ) → Between f → Between (f ++ 0xf8 ∷ []) → ⊥
  amid_simple f a b = grind (arith, common_steps, nat_tests, run-append)

  judged_front : (b : ℕ) (y : List ℕ) → (z : List ℕ) × (b ∷ y ≡ judged b y ++ z)
  judged_front b y = go (eqb b 0xf8)
    where
      go : (c : Bool) → (z : List ℕ) × (b ∷ y ≡ (b ∷ cond c (take 1 y) []) ++ z)
      go true = (drop 1 y, ap (λ l. b ∷ l) (sym (take-append-drop 1 y)))
      go false = (y, refl)

  -- what is refused has no end
  pub refused_ends : (x : List ℕ) (p : ℕ) (r : WireReason) → Refused limit x p r → GoesOn limit x → ⊥
  refused_ends x p r (f, b, y, is, at, begins, bad, why) goes =
      let (z, e) = judged_front b y in
      bad (goes_front (f ++ judged b y) z (subst (GoesOn limit) (is ∙ ap (λ l. f ++ l) e ∙ sym (append_assoc f (judged b y) z)) goes))

  -- After a head that is refused no further one begins.
  pub none_later : (x f g y z : List ℕ) (b c : ℕ) → x ≡ f ++ b ∷ y → x ≡ g ++ c ∷ z → BeginsHead limit f → (GoesOn limit (f ++ judged b y) → ⊥) → BeginsHead limit g → length f < length g → ⊥
  none_later x f g y z b c e h begins bad after l =
      let (w, front, rest) = later x f g y z b c e h l in
      go w front rest (eqb b 0xf8) refl bad
    where
      go : (w : List ℕ) → g ≡ f ++ b ∷ w → y ≡ w ++ c ∷ z → (d : Bool) → eqb b 0xf8 ≡ d → (GoesOn limit (f ++ b ∷ cond d (take 1 y) []) → ⊥) → ⊥
      go w front rest false k bad = bad (goes_front (f ++ b ∷ []) w (subst (GoesOn limit) (front ∙ sym (append_assoc f (b ∷ []) w)) after.0))
      go [] front rest true k bad =
          amid_simple f (begins_between f begins) (subst Between (front ∙ ap (λ b. f ++ b ∷ []) (eqb-true b 0xf8 k)) (begins_between g after))
      go (d ∷ w) front rest true k bad =
          let two : take 1 y ≡ d ∷ [] = ap (take 1) rest in
          bad (subst (λ l. GoesOn limit (f ++ b ∷ l)) (sym two) (goes_front (f ++ b ∷ d ∷ []) w (subst (GoesOn limit) (front ∙ sym (append_assoc f (b ∷ d ∷ []) w)) after.0)))

  -- What the table refuses isn't allowed after its front.
  stands_not : (f y : List ℕ) (s : Slot) (k : ℕ) (r : WireReason) → Open limit f s k → reason_at limit s k y ≡ Some r → GoesOn limit (f ++ y) → ⊥
  stands_not f y s k r opens reason = slot_ends limit (f ++ y) (length f) r (f, y, s, k, refl, refl, opens, reason)

  no_integer : (f : List ℕ) (kind : StringKind) (k : ℕ) → Open limit f (chunk kind) k → GoesOn limit (f ++ 0 ∷ []) → ⊥
  no_integer f OfBytes k opens = stands_not f (0 ∷ []) (chunk OfBytes) k _ opens refl
  no_integer f OfText k opens = stands_not f (0 ∷ []) (chunk OfText) k _ opens refl

  some_integer : (f : List ℕ) (s : Slot) (k : ℕ) → AreBytes f → Open limit f s k → is_bad_chunk s Unsigned (Now 0) ≡ false → GoesOn limit (f ++ 0 ∷ [])
  some_integer f s k bytes opens free =
      let a : At limit 0 f s k = opened limit 0 f s k opens in
      let h : SoundLive limit 0 f (0 + length f) a.ready a.os nothing = subst (Sound limit 0 f) a.is (sound limit 0 f bytes) in
      byte_goes f 0 (Live (0 + length f) a.ready a.os nothing) bytes (omega arith) a.is (takes_integer limit (0 + length f) a.ready a.os h.ground.are_open (ap (λ t. is_bad_chunk t Unsigned (Now 0)) a.slot_is ∙ free))

  reason_there : (f : List ℕ) (s : Slot) (k b : ℕ) (y : List ℕ) (r : WireReason) → AreBytes f → Open limit f s k → reason_at limit s k (b ∷ y) ≡ Some r → IsReason limit f b r
  reason_there f (chunk kind) k b y r bytes opens e = inr (no_integer f kind k opens, table_reason limit (chunk kind) k b y r e)
  reason_there f s k b y r bytes opens e = inl (some_integer f s k bytes opens refl, table_reason limit s k b y r e)

  -- What the table refuses is refused.
  pub refused_said : (x : List ℕ) (p : ℕ) (r : WireReason) → AreBytes x → SlotRefused limit x p r → Refused limit x p r
  refused_said x p r bytes (f, [], s, k, is, at, opens, reason) = cc
  refused_said x p r bytes (f, b ∷ y, s, k, is, at, opens, reason) =
      let all : AreBytes (f ++ b ∷ y) = subst AreBytes is bytes in
      let here : AreBytes f = bytes-left f (b ∷ y) all in
      let a : At limit 0 f s k = opened limit 0 f s k opens in (
        f,
        b,
        y,
        is,
        at,
        (goes_on limit 0 f here (0 + length f) a.ready a.os nothing a.is, stands_not f (0xfc ∷ []) s k _ opens refl),
        stands_not f (judged b y) s k r opens (judged_reason limit s k b y (bytes-right f (b ∷ y) all).0 ∙ reason),
        reason_there f s k b y r here opens reason,
      )
