-- What is refused, and what can go on.
use Rattle.std.specs.Prelude.{◌≡◌, ◌+◌, ◌-◌, ◌*◌, ◌/◌, ◌%◌, ◌<◌, ◌≤◌, ◌∷◌, ◌++◌, ◌&&◌}
use Rattle.cborn_wire.proofs.Common.{refl, sym, ap, ◌∙◌, subst, ℕ, zero, suc, List, [], length, Bool, true, false, cond, leb, Option, Some, None, arith, length-append, add-one, add-zero, lt-leb, le-leb, le-ltb, AreBytes, Width, Direct, One, Fixed, Major, Unsigned, Negative, ByteString, TextString, Array, Map, Tag, Other, Given, Opening, an_array, a_map, a_tag, in_chunks, last_key, built, string_tree, Tree, Uint, Simple, Trees, WireReason, BadSimple, StringKind, OfBytes, OfText, Slot, OpenContainer, opened, slot, slot_in, slot_in_map, open_depth, AreOpen, needs_item, begins_low, major_at, Info, Now, Next, info_at, is_other, is_one, is_bad_chunk, head_reason, front_reason, info_for, snoc, width_bytes, number, Goal, argument_of, content_of, Unfinished, nothing, gathering, State, Live, Failed, is_full, finished, holding, gather, begin_head, after_head, unless, step, run, common_steps, nat_tests}
use Rattle.cborn_wire.proofs.Machine.Running.{failed_run}
use Rattle.cborn_wire.proofs.Machine.Containers.{value_next, not_full}
use Rattle.cborn_wire.proofs.Machine.TakesItems.{takes_break, map_plain, no_chunk}
use Rattle.cborn_wire.proofs.Machine.SoundItems.{SoundLive}
use Rattle.cborn_wire.proofs.Machine.SoundSteps.{Clear, is_clear}
use Rattle.cborn_wire.proofs.Machine.SoundRuns.{reason_stays, wide, wide_info}

pub some_is : (q r : WireReason) → Some q ≡ Some r → q ≡ r
some_is q r e = cc

low_reason : (s : Slot) (full : Bool) (m : Major) (i : Info) (y : List ℕ) (r : WireReason) → head_reason s full m i y ≡ Some r → head_reason s full m i [] ≡ None → cond ((is_other m && is_one i) && begins_low y) (Some BadSimple) None ≡ Some r
low_reason s full m i y r e h = grind (arith, nat_tests)

module _ (limit : ℕ) where
  low_run : (m : Major) (i : Info) (fed : ℕ) (ready : Trees) (os : List OpenContainer) (y : List ℕ) (r : WireReason)
      → cond ((is_other m && is_one i) && begins_low y) (Some BadSimple) None ≡ Some r
      → run limit (begin_head fed ready os m i) y ≡ Failed ready fed r
  low_run m i fed ready os y r h = grind (arith, failed_run, some_is)

  refused_at : (full : Bool) (m : Major) (i : Info) (y : List ℕ) (fed : ℕ) (ready : Trees) (os : List OpenContainer) (r : WireReason) → head_reason (slot os) full m i y ≡ Some r
      → (o : Option WireReason) → head_reason (slot os) full m i [] ≡ o → run limit (unless o ready fed (begin_head fed ready os m i)) y ≡ Failed ready fed r
  refused_at full m i y fed ready os r e (Some q) h = failed_run limit y ready fed q ∙ ap (Failed ready fed) (some_is q r (sym (reason_stays (slot os) full m i y q h) ∙ e))
  refused_at full m i y fed ready os r e None h = low_run m i fed ready os y r (low_reason (slot os) full m i y r e h)

  -- What isn't allowed at a slot fails there, for that reason.
  pub refused_run : (y : List ℕ) (fed : ℕ) (ready : Trees) (os : List OpenContainer) (r : WireReason) → front_reason limit (slot os) (open_depth os) y ≡ Some r
      → run limit (Live fed ready os nothing) y ≡ Failed ready fed r
  refused_run [] fed ready os r e = cc
  refused_run (b ∷ y) fed ready os r e = refused_at (leb limit (open_depth os)) (major_at (b / 32)) (info_at (b % 32)) y fed ready os r e _ refl

  -- The machine comes to an end of complete items.
  abbrev pub Closable : State → Type 0
  Closable s = (y : List ℕ) × AreBytes y × (fed : ℕ) × (ready : Trees) × (run limit s y ≡ Live fed ready [] nothing)

  after_byte : (b : ℕ) (s : State) → b < 256 → Closable (step limit s b) → Closable s
  after_byte b s h c = (b ∷ c.0, (h, c.1), c.2, c.3, c.4)

  pick : (b : Bool) {s u : State} → Closable s → Closable u → Closable (cond b s u)
  pick true h k = h
  pick false h k = k

  none_there : (s : Slot) (full : Bool) → is_bad_chunk s Unsigned (Now 0) ≡ false → head_reason s full Unsigned (Now 0) [] ≡ None
  none_there s full e = rw e refl

  -- An integer is allowed wherever no chunk has to be.
  zero_step : (fed : ℕ) (ready : Trees) (os : List OpenContainer) → is_bad_chunk (slot os) Unsigned (Now 0) ≡ false → step limit (Live fed ready os nothing) 0 ≡ finished (suc fed) ready os (Uint fed Direct 0)
  zero_step fed ready os free = ap (λ o. unless o ready fed (finished (suc fed) ready os (Uint fed Direct 0))) (none_there (slot os) (leb limit (open_depth os)) free)

  module _ (os : List OpenContainer) (ready : Trees) (o : Opening) (next : (fed : ℕ) (t : Tree) → Closable (finished fed ready os t)) where
    -- zeros fill a container
    filled : (j fed : ℕ) (ts : List Tree) → ((us : List Tree) → is_bad_chunk (slot_in (opened o us)) Unsigned (Now 0) ≡ false) → is_full o (length ts + j) ≡ true → Closable (holding fed ready os o ts)
    filled zero fed ts free full =
        subst (λ c. Closable (cond c (finished fed ready os (built o ts)) (Live fed ready (opened o ts ∷ os) nothing))) (sym (ap (is_full o) (sym (add-zero (length ts))) ∙ full)) (next fed (built o ts))
    filled (suc j) fed ts free full =
        pick (is_full o (length ts)) (next fed (built o ts))
        (after_byte 0 (Live fed ready (opened o ts ∷ os) nothing) (omega arith) (subst Closable (sym (zero_step fed ready (opened o ts ∷ os) (free ts)))
        (filled j (suc fed) (ts ++ Uint fed Direct 0 ∷ []) free (subst (λ n. is_full o n ≡ true) (omega (arith, length-append ts (Uint fed Direct 0 ∷ []))) full))))

    -- a break ends it
    broken : (fed : ℕ) (ts : List Tree) → needs_item (slot_in (opened o ts)) ≡ false → Closable (Live fed ready (opened o ts ∷ os) nothing)
    broken fed ts e = after_byte 255 (Live fed ready (opened o ts ∷ os) nothing) (omega arith) (subst Closable (sym (takes_break limit fed ready os o ts [] e ∙ ap (λ q. finished q ready os (built o ts)) (add-one fed))) (next (suc fed) (built o ts)))

  -- a container comes to its end
  closes_holding : (os : List OpenContainer) (fed : ℕ) (ready : Trees) (o : Opening) (ts : List Tree) → ((fed : ℕ) (t : Tree) → Closable (finished fed ready os t)) → Closable (holding fed ready os o ts)
  closes_holding os fed ready (an_array p s (Some n)) ts next = filled os ready (an_array p s (Some n)) next n fed ts (λ us. refl) (le-leb n (length ts + n) (omega arith))
  closes_holding os fed ready (an_array p s None) ts next = broken os ready (an_array p s None) next fed ts refl
  closes_holding os fed ready (a_map p s (Some n)) ts next = filled os ready (a_map p s (Some n)) next (2 * n) fed ts (λ us. no_chunk _ Unsigned (Now 0) (map_plain (Some n) (last_key us))) (le-leb n ((length ts + 2 * n) / 2) (omega arith))
  closes_holding os fed ready (a_map p s None) ts next = go (last_key ts) refl
    where
      o : Opening
      o = a_map p s None

      -- a break, after a value that is missing
      go : (x : Option Tree) → last_key ts ≡ x → Closable (Live fed ready (opened o ts ∷ os) nothing)
      go None e = broken os ready o next fed ts (ap (λ k. needs_item (slot_in_map None k)) e)
      go (Some k) e =
          after_byte 0 (Live fed ready (opened o ts ∷ os) nothing) (omega arith) (subst Closable (sym (zero_step fed ready (opened o ts ∷ os) (no_chunk _ Unsigned (Now 0) (map_plain None (last_key ts)))))
          (broken os ready o next (suc fed) (ts ++ Uint fed Direct 0 ∷ []) (ap (λ k. needs_item (slot_in_map None k)) (value_next ts (Uint fed Direct 0) k e).1)))
  closes_holding os fed ready (a_tag p w n) ts next = filled os ready (a_tag p w n) next 1 fed ts (λ us. refl) (le-leb 1 (length ts + 1) (omega arith))
  closes_holding os fed ready (in_chunks p k) ts next = broken os ready (in_chunks p k) next fed ts refl

  closes_finished : (os : List OpenContainer) (fed : ℕ) (ready : Trees) (t : Tree) → AreOpen limit os → Closable (finished fed ready os t)
  closes_finished [] fed ready t h = ([], tt, fed, snoc ready t, refl)
  closes_finished (opened o ts ∷ os) fed ready t h = closes_holding os fed ready o (ts ++ t ∷ []) (λ fed t. closes_finished os fed ready t h.2)

  closes_open : (os : List OpenContainer) (fed : ℕ) (ready : Trees) → AreOpen limit os → Closable (Live fed ready os nothing)
  closes_open [] fed ready h = ([], tt, fed, ready, refl)
  closes_open (opened o ts ∷ os) fed ready h =
      subst (λ c. Closable (cond c (finished fed ready os (built o ts)) (Live fed ready (opened o ts ∷ os) nothing))) (not_full o ts (length ts) h.0.1 (omega arith))
      (closes_holding os fed ready o ts (λ fed t. closes_finished os fed ready t h.2))

  closes_opening : (os : List OpenContainer) (fed : ℕ) (ready : Trees) (o : Opening) → AreOpen limit os → Closable (holding fed ready os o [])
  closes_opening os fed ready o h = closes_holding os fed ready o [] (λ fed t. closes_finished os fed ready t h)

  closes_content : (j : ℕ) (os : List OpenContainer) (fed p : ℕ) (ready : Trees) (k : StringKind) (w : Width) (n : ℕ) (got : List ℕ) → AreOpen limit os → n ≤ length got + j → Closable (gather fed p ready os (content_of k w) n got)
  closes_content zero os fed p ready k w n got h up =
      subst (λ c. Closable (cond c (finished fed ready os (string_tree p k w got)) (Live fed ready os (gathering p (content_of k w) n got)))) (sym (le-leb n (length got) (omega arith))) (closes_finished os fed ready (string_tree p k w got) h)
  closes_content (suc j) os fed p ready k w n got h up =
      pick (leb n (length got)) (closes_finished os fed ready (string_tree p k w got) h)
      (after_byte 0 (Live fed ready os (gathering p (content_of k w) n got)) (omega arith) (closes_content j os (suc fed) p ready k w n (got ++ 0 ∷ []) h (omega (arith, length-append got (0 ∷ [])))))

  closes_head : (m : Major) (w : Width) (n : ℕ) (os : List OpenContainer) (fed p : ℕ) (ready : Trees) → AreOpen limit os → Clear (slot os) (leb limit (open_depth os)) m (info_for (Given w n)) → 32 ≤ n
      → Closable (after_head fed p ready os m (Given w n))
  closes_head Unsigned w n os fed p ready h c high = closes_finished os fed ready _ h
  closes_head Negative w n os fed p ready h c high = closes_finished os fed ready _ h
  closes_head ByteString w n os fed p ready h c high = closes_content n os fed p ready OfBytes w n [] h (omega arith)
  closes_head TextString w n os fed p ready h c high = closes_content n os fed p ready OfText w n [] h (omega arith)
  closes_head Array w n os fed p ready h c high = closes_opening os fed ready (an_array p (Fixed w) (Some n)) h
  closes_head Map w n os fed p ready h c high = closes_opening os fed ready (a_map p (Fixed w) (Some n)) h
  closes_head Tag w n os fed p ready h c high = closes_opening os fed ready (a_tag p w n) h
  closes_head Other Direct n os fed p ready h c high = closes_finished os fed ready _ h
  closes_head Other One n os fed p ready h c high = subst (λ b. Closable (cond b (Failed ready p BadSimple) (finished fed ready os (Simple p n)))) (sym (le-ltb n 32 high)) (closes_finished os fed ready (Simple p n) h)
  closes_head Other w n os fed p ready h c high = let e : true ≡ false = c.float in cc

number_last : (w : Width) (g : List ℕ) (c : ℕ) → 32 ≤ c → suc (length g) ≡ width_bytes w → 32 ≤ number w (g ++ c ∷ [])
number_last w g c h e = grind (arith, common_steps, nat_tests)

module _ (limit : ℕ) where
  -- A byte that makes no simple value below 32 may be one of an argument.
  takes_argument : (j : ℕ) (c : ℕ) (m : Major) (w : Width) (n : ℕ) (os : List OpenContainer) (fed p : ℕ) (ready : Trees) (got : List ℕ) → 32 ≤ c → AreOpen limit os → head_reason (slot os) (leb limit (open_depth os)) m (Next w) [] ≡ None
      → n ≡ width_bytes w → length got + suc j ≡ n
      → Closable limit (step limit (Live fed ready os (gathering p (argument_of m w) n got)) c)
  takes_argument zero c m w n os fed p ready got high h none all left =
      let got' = got ++ c ∷ [] in
      let l : length got' ≡ suc (length got) = omega (arith, length-append got (c ∷ [])) in
      let broad = wide w (omega arith) in
      subst (λ b. Closable limit (cond b (after_head (suc fed) p ready os m (Given w (number w got'))) (Live (suc fed) ready os (gathering p (argument_of m w) n got'))))
      (sym (le-leb n (length got') (omega arith)))
      (closes_head limit m w (number w got') os (suc fed) p ready h
      (subst (Clear (slot os) (leb limit (open_depth os)) m) (sym (wide_info w (number w got') broad)) (is_clear (slot os) (leb limit (open_depth os)) m (Next w) [] none))
      (number_last w got c high (omega arith)))
  takes_argument (suc j) c m w n os fed p ready got high h none all left =
      let got' = got ++ c ∷ [] in
      let l : length got' ≡ suc (length got) = omega (arith, length-append got (c ∷ [])) in
      subst (λ b. Closable limit (cond b (after_head (suc fed) p ready os m (Given w (number w got'))) (Live (suc fed) ready os (gathering p (argument_of m w) n got'))))
      (sym (lt-leb n (length got') (omega arith)))
      (after_byte limit 255 (Live (suc fed) ready os (gathering p (argument_of m w) n got')) (omega arith)
      (takes_argument j 255 m w n os (suc fed) p ready got' (omega arith) h none all (omega arith)))

  -- so any such byte may follow where an argument or a string came in part
  pub takes_part : (base : ℕ) (x : List ℕ) (fed : ℕ) (ready : Trees) (os : List OpenContainer) (p : ℕ) (g : Goal) (n : ℕ) (got : List ℕ) (c : ℕ) → 32 ≤ c → SoundLive limit base x fed ready os (gathering p g n got)
      → Closable limit (step limit (Live fed ready os (gathering p g n got)) c)
  takes_part base x fed ready os p (argument_of m w) n got c high h =
      takes_argument (n - suc (length got)) c m w n os fed p ready got high h.ground.are_open h.partial_fits.3 h.partial_fits.1 (omega (arith, h.partial_fits.2))
  takes_part base x fed ready os p (content_of k w) n got c high h = closes_content limit n os (suc fed) p ready k w n (got ++ c ∷ []) h.ground.are_open (omega arith)

  -- Each state that lives can come to an end of complete items.
  pub closes : (base : ℕ) (x : List ℕ) (fed : ℕ) (ready : Trees) (os : List OpenContainer) (partial : Unfinished) → SoundLive limit base x fed ready os partial → Closable limit (Live fed ready os partial)
  closes base x fed ready os nothing h = closes_open limit os fed ready h.ground.are_open
  closes base x fed ready os (gathering p g n got) h =
      after_byte limit 255 (Live fed ready os (gathering p g n got)) (omega arith) (takes_part base x fed ready os p g n got 255 (omega arith) h)

  -- An integer is allowed wherever no chunk has to be.
  pub takes_integer : (fed : ℕ) (ready : Trees) (os : List OpenContainer) → AreOpen limit os → is_bad_chunk (slot os) Unsigned (Now 0) ≡ false → Closable limit (step limit (Live fed ready os nothing) 0)
  takes_integer fed ready os h free = subst (Closable limit) (sym (zero_step limit fed ready os free)) (closes_finished limit os (suc fed) ready (Uint fed Direct 0) h)
