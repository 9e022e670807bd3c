-- A whole run keeps what the machine has to what was read: so this is known of each state that some bytes make.
use Rattle.std.specs.Prelude.{◌≡◌, ◌+◌, ◌*◌, ◌/◌, ◌%◌, ◌<◌, ◌≤◌, ◌∷◌, ◌++◌, ◌&&◌}
use Rattle.cborn_wire.proofs.Common.{refl, sym, ap, ◌∙◌, subst, ℕ, suc, List, [], length, get_or, Bool, true, false, leb, Option, Some, None, arith, append_assoc, append-nil, length_push, cond_both, leb-true, leb-false, be_bytes_2, be_bytes_4, be_bytes_8, AreBytes, Width, Direct, Major, Given, EndlessArgument, code, information, following, head, WidthFits, Trees, WireReason, major_of, Slot, OpenContainer, slot, open_depth, Info, Now, Next, Reserved, EndlessInformation, info_at, head_reason, front_reason, is_other, is_container, info_for, major_at, start, width_bytes, number, argument_of, content_of, nothing, gathering, State, Live, Failed, gather, begin_head, at_slot, unless, step, run, front, Ground, in_chunks, Tree, no_item, more, depth, depth_all, Fits, FitsAll, opened, IsNoString, AreOpen, snoc, Unfinished, held, IsReached, common_steps, nat_tests, bytes-append}
pub use Rattle.cborn_model.proofs.Numbers.Majors.{code_at}
use Rattle.cborn_wire.proofs.Machine.SoundItems.{SoundLive, Sound}
use Rattle.cborn_wire.proofs.Machine.SoundSteps.{Clear, is_clear, sound_head, sound_content}
use Rattle.cborn_wire.proofs.Machine.Running.{run-append}

pub initial : (b : ℕ) → b < 256 → b ≡ 32 * code (major_at (b / 32)) + b % 32
initial b h = omega (arith, code_at (b / 32) (omega arith))

abbrev pub IsWide : Width → Type 0
IsWide Direct = ⊥
IsWide _ = Unit {0}

abbrev pub InfoIs : ℕ → Info → Type 0
InfoIs i (Now n) = (i ≡ n) × (n < 24)
InfoIs i (Next w) = (i ≡ information w 0) × IsWide w
InfoIs i Reserved = Unit {0}
InfoIs i EndlessInformation = i ≡ 31

pub info_is : (i : ℕ) → InfoIs i (info_at i)
info_is i = grind (arith, common_steps, nat_tests)

small : (x : List ℕ) → AreBytes x → (i : ℕ) → get_or x i 0 < 256
small x h i = grind (arith, common_steps, nat_tests)

-- the bytes of an argument are those of the number that they make
pub again : (w : Width) (got : List ℕ) → IsWide w → length got ≡ width_bytes w → AreBytes got → (following w (number w got) ≡ got) × WidthFits w (number w got)
again w got h e g = grind (arith, common_steps, nat_tests, be_bytes_2, be_bytes_4, be_bytes_8, small)

pub wide : (w : Width) → 0 < width_bytes w → IsWide w
wide w h = grind (arith, common_steps, nat_tests)

pub wide_info : (w : Width) (n : ℕ) → IsWide w → info_for (Given w n) ≡ Next w
wide_info w n h = grind (arith, common_steps, nat_tests)

pub wide_information : (w : Width) (n : ℕ) → IsWide w → information w n ≡ information w 0
wide_information w n h = grind (arith, common_steps, nat_tests)

not_both : (m : Major) → (is_other m && is_container m) ≡ false
not_both m = grind (arith, common_steps, nat_tests)

-- a reason that the initial byte gives stays, whatever follows
pub reason_stays : (s : Slot) (full : Bool) (m : Major) (i : Info) (y : List ℕ) (r : WireReason) → head_reason s full m i [] ≡ Some r → head_reason s full m i y ≡ Some r
reason_stays s full m i y r e = let h = not_both m in grind (arith, nat_tests)

pub front_reason_stays : (limit : ℕ) (s : Slot) (k : ℕ) (y z : List ℕ) (r : WireReason) → front_reason limit s k y ≡ Some r → front_reason limit s k (y ++ z) ≡ Some r
front_reason_stays limit s k y z r h = grind (arith, common_steps, nat_tests)

module _ (limit base : ℕ) where
  -- some bytes of an argument came
  sound_argument : (m : Major) (w : Width) (ready : Trees) (os : List OpenContainer) (n : ℕ) (got : List ℕ) (fed p : ℕ) (x : List ℕ)
      → Ground limit base ready os → head_reason (slot os) (leb limit (open_depth os)) m (Next w) [] ≡ None → AreBytes got → IsWide w
      → n ≡ width_bytes w → length got ≤ n → p ≡ base + length (front ready os)
      → x ≡ front ready os ++ ((32 * code m + information w 0) ∷ got) → fed ≡ base + length x
      → Sound limit base x (gather fed p ready os (argument_of m w) n got)
  sound_argument m w ready os n got fed p x g none bytes broad all up placed is at =
      cond_both (leb n (length got)) _ _ (Sound limit base x)
      (λ e.
      let full : length got ≡ width_bytes w = omega (arith, leb-true n (length got) e) in
      let k = number w got in
      let same = again w got broad full bytes in
      let clear = is_clear (slot os) (leb limit (open_depth os)) m (Next w) [] none in
      sound_head limit base ready os fed p x g placed at m (Given w k) (subst (Clear (slot os) (leb limit (open_depth os)) m) (sym (wide_info w k broad)) clear) same.1
      (is ∙ ap (λ i. front ready os ++ ((32 * code m + i) ∷ got)) (sym (wide_information w k broad))
      ∙ ap (λ l. front ready os ++ ((32 * code m + information w k) ∷ l)) (sym same.0)))
      (λ e. record { ground = g; bytes = is; fed_is = at; partial_fits = (placed, all, leb-false n (length got) e, none, bytes) })

  sound_begin : (i : Info) (m : Major) (ready : Trees) (os : List OpenContainer) (fed b : ℕ) (x : List ℕ)
      → SoundLive limit base x fed ready os nothing → head_reason (slot os) (leb limit (open_depth os)) m i [] ≡ None
      → b ≡ 32 * code m + b % 32 → InfoIs (b % 32) i
      → Sound limit base (x ++ b ∷ []) (begin_head fed ready os m i)
  sound_begin i m ready os fed b x h none first is = go i none is
    where
      here : x ≡ front ready os
      here = h.bytes ∙ append-nil (front ready os)

      at : suc fed ≡ base + length (x ++ b ∷ [])
      at = omega (arith, h.fed_is, length_push x b)

      placed : fed ≡ base + length (front ready os)
      placed = h.fed_is ∙ ap (λ l. base + length l) here

      read : (j : ℕ) → b % 32 ≡ j → x ++ b ∷ [] ≡ front ready os ++ (32 * code m + j) ∷ []
      read j e = ap (λ l. l ++ b ∷ []) here ∙ ap (λ c. front ready os ++ c ∷ []) (first ∙ ap (λ k. 32 * code m + k) e)

      go : (i : Info) → head_reason (slot os) (leb limit (open_depth os)) m i [] ≡ None → InfoIs (b % 32) i → Sound limit base (x ++ b ∷ []) (begin_head fed ready os m i)
      go (Now n) none is = sound_head limit base ready os (suc fed) fed (x ++ b ∷ []) h.ground placed at m (Given Direct n) (is_clear (slot os) (leb limit (open_depth os)) m (Now n) [] none) is.1 (read n is.0)
      go (Next w) none is = sound_argument m w ready os (width_bytes w) [] (suc fed) fed (x ++ b ∷ []) h.ground none tt is.1 refl (omega arith) placed (read (information w 0) is.0) at
      go Reserved none is = let e : true ≡ false = (is_clear (slot os) (leb limit (open_depth os)) m Reserved [] none).reserved in cc
      go EndlessInformation none is = sound_head limit base ready os (suc fed) fed (x ++ b ∷ []) h.ground placed at m EndlessArgument (is_clear (slot os) (leb limit (open_depth os)) m EndlessInformation [] none) tt (read 31 is)

  sound_slot : (ready : Trees) (os : List OpenContainer) (fed b : ℕ) (x : List ℕ) → b < 256 → SoundLive limit base x fed ready os nothing
      → Sound limit base (x ++ b ∷ []) (at_slot limit fed ready os (major_at (b / 32)) (info_at (b % 32)))
  sound_slot ready os fed b x byte h = go (head_reason (slot os) (leb limit (open_depth os)) (major_at (b / 32)) (info_at (b % 32)) []) refl
    where
      go : (o : Option WireReason) → head_reason (slot os) (leb limit (open_depth os)) (major_at (b / 32)) (info_at (b % 32)) [] ≡ o
          → Sound limit base (x ++ b ∷ []) (unless o ready fed (begin_head fed ready os (major_at (b / 32)) (info_at (b % 32))))
      go None e = sound_begin (info_at (b % 32)) (major_at (b / 32)) ready os fed b x h e (initial b byte) (info_is (b % 32))
      go (Some r) e = record { before = x; after = b ∷ []; os = os; whole = refl; live = h; refused = e }

  sound_step : (s : State) (b : ℕ) (x : List ℕ) → b < 256 → Sound limit base x s → Sound limit base (x ++ b ∷ []) (step limit s b)
  sound_step (Failed ready p r) b x byte h = record {
    before = h.before;
    after = h.after ++ b ∷ [];
    os = h.os;
    whole = ap (λ l. l ++ b ∷ []) h.whole ∙ append_assoc h.before h.after (b ∷ []);
    live = h.live;
    refused = front_reason_stays limit (slot h.os) (open_depth h.os) h.after (b ∷ []) r h.refused;
  }
  sound_step (Live fed ready os nothing) b x byte h = sound_slot ready os fed b x byte h
  sound_step (Live fed ready os (gathering p (argument_of m w) n got)) b x byte h =
      sound_argument m w ready os n (got ++ b ∷ []) (suc fed) p (x ++ b ∷ []) h.ground h.partial_fits.3 (bytes-append got (b ∷ []) h.partial_fits.4 (byte, tt))
      (wide w (omega (arith, h.partial_fits.1, h.partial_fits.2))) h.partial_fits.1 (omega (arith, h.partial_fits.2, length_push got b)) h.partial_fits.0
      (ap (λ l. l ++ b ∷ []) h.bytes ∙ append_assoc (front ready os) _ (b ∷ [])) (omega (arith, h.fed_is, length_push x b))
  sound_step (Live fed ready os (gathering p (content_of k w) n got)) b x byte h =
      sound_content limit base ready os (suc fed) p (x ++ b ∷ []) h.ground h.partial_fits.0 (omega (arith, h.fed_is, length_push x b)) k w n (got ++ b ∷ []) h.partial_fits.3 h.partial_fits.1
      (omega (arith, h.partial_fits.2, length_push got b)) (bytes-append got (b ∷ []) h.partial_fits.4 (byte, tt))
      (ap (λ l. l ++ b ∷ []) h.bytes ∙ append_assoc (front ready os) _ (b ∷ []) ∙ ap (λ l. front ready os ++ l) (append_assoc (head (major_of k) (Given w n)) got (b ∷ [])))

  pub sound_run : (y : List ℕ) (s : State) (x : List ℕ) → AreBytes y → Sound limit base x s → Sound limit base (x ++ y) (run limit s y)
  sound_run [] s x h k = subst (λ l. Sound limit base l s) (sym (append-nil x)) k
  sound_run (b ∷ y) s x h k = subst (λ l. Sound limit base l (run limit (step limit s b) y)) (append_assoc x (b ∷ []) y) (sound_run y (step limit s b) (x ++ b ∷ []) h.1 (sound_step s b x h.0 k))

  pub sound : (x : List ℕ) → AreBytes x → Sound limit base x (run limit (start base) x)
  sound x h = sound_run x (start base) [] h (record { ground = record { fit = tt; shallow = omega arith; placed = tt; are_open = tt; open_placed = tt }; bytes = refl; fed_is = omega arith; partial_fits = tt })

fits_last : (ts : Trees) (t : Tree) → FitsAll (snoc ts t) → Fits t
fits_last no_item t h = h.0
fits_last (more u ts) t h = fits_last ts t h.1

depth_last : (ts : Trees) (t : Tree) → depth t ≤ depth_all (snoc ts t)
depth_last no_item t = omega arith
depth_last (more u ts) t = omega (arith, depth_last ts t)

-- No array, map or tag is open inside an indefinite string, so all that is open counts.
pub depth_is_length : (limit : ℕ) (os : List OpenContainer) → AreOpen limit os → IsNoString os → open_depth os ≡ length os
depth_is_length limit [] h free = refl
depth_is_length limit (opened (in_chunks p k) ts ∷ os) h free = absurd free
depth_is_length limit (opened o ts ∷ os) h free = omega (arith, depth_is_length limit os h.2 h.1)

module _ (limit base : ℕ) where
  pub reached_more : (s : State) (y : List ℕ) → IsReached limit base s → AreBytes y → IsReached limit base (run limit s y)
  reached_more s y (x, bytes, is) are = (x ++ y, bytes-append x y bytes are, run-append limit (start base) x y ∙ ap (λ u. run limit u y) is)

  pub reached_sound : (s : State) → IsReached limit base s → (x : List ℕ) × Sound limit base x s
  reached_sound s (x, bytes, is) = (x, subst (Sound limit base x) is (sound limit base x bytes))

  -- From a live state follow the bytes that make it.
  pub reached_held : (fed : ℕ) (ready : Trees) (os : List OpenContainer) (partial : Unfinished) → IsReached limit base (Live fed ready os partial)
      → let s = Live fed ready os partial in (run limit (start base) (held s) ≡ s) × AreBytes (held s)
  reached_held fed ready os partial h = grind (arith, sound)

  -- a complete item
  pub reached_item : (fed : ℕ) (ready : Trees) (t : Tree) (os : List OpenContainer) (partial : Unfinished) → IsReached limit base (Live fed (snoc ready t) os partial) → Fits t × (depth t ≤ limit)
  reached_item fed ready t os partial h =
      let (x, s) = reached_sound (Live fed (snoc ready t) os partial) h in
      (fits_last ready t s.ground.fit, omega (arith, depth_last ready t, s.ground.shallow))
