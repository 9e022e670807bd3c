-- Each step keeps what the machine has to what was read.
use Rattle.std.specs.Prelude.{◌≡◌, ◌+◌, ◌≤◌, ◌∷◌, ◌++◌, ◌&&◌}
use Rattle.cborn_wire.proofs.Common.{refl, sym, ap, ◌∙◌, subst, ℕ, List, [], length, Bool, true, false, cond, ltb, leb, Some, None, inr, arith, append_assoc, append-nil, cond_both, leb-true, leb-false, ltb-false, AreBytes, Width, Direct, One, Fixed, Endless, Major, Unsigned, Negative, ByteString, TextString, Array, Map, Tag, Other, Argument, Given, EndlessArgument, head, WidthFits, Opening, an_array, a_map, a_tag, in_chunks, built, string_tree, Tree, Uint, Nint, Simple, Trees, trees, depth, ending, string, spelled, spelled_all, Fits, Placed, BadSimple, UnexpectedBreak, StringKind, OfBytes, OfText, major_of, Slot, OpenContainer, opened, opening, slot, added_depth, open_depth, HeadFits, IsNoString, AreOpen, needs_item, ArgumentFits, Info, Next, is_reserved, is_endless_head, is_always_bounded, is_other, is_container, is_break, is_bad_chunk, is_float, head_reason, info_for, place_of, Ground, content_of, Failed, finished, holding, ended, gather, after_head, front, chunk, common_steps, nat_tests, simple_value, least_direct, least_one}
use Rattle.cborn_wire.proofs.Machine.Containers.{empty_goes, empty_whole, break_ends}
use Rattle.cborn_wire.proofs.Machine.SoundItems.{Sound, Accepts, accepted, ground_less, top_placed, nothing_more, ends, sound_holding, sound_finished}

-- What no reason means.
pub record Clear (s : Slot) (full : Bool) (m : Major) (i : Info) : Type 0 where
  pub reserved : is_reserved i ≡ false
  pub bounded : (is_endless_head i && is_always_bounded m) ≡ false
  pub chunked : is_bad_chunk s m i ≡ false
  pub broken : (is_break m i && needs_item s) ≡ false
  pub float : (is_other m && is_float i) ≡ false
  pub room : (is_container m && full) ≡ false

pub is_clear : (s : Slot) (full : Bool) (m : Major) (i : Info) (y : List ℕ) → head_reason s full m i y ≡ None → Clear s full m i
is_clear s full m i y e = grind (arith, common_steps, nat_tests)

-- what is no chunk isn't in an indefinite string
pub free_of : (os : List OpenContainer) (m : Major) (i : Info) → is_bad_chunk (slot os) m i ≡ false → is_bad_chunk (chunk OfBytes) m i ≡ true → is_bad_chunk (chunk OfText) m i ≡ true → IsNoString os
free_of os m i h e g = grind (arith, common_steps, nat_tests)

-- a definite string may be in an indefinite one of its kind
string_accepted : (os : List OpenContainer) (p : ℕ) (k : StringKind) (w : Width) (bytes : List ℕ) (i : Info) → is_bad_chunk (slot os) (major_of k) i ≡ false → Accepts os (string_tree p k w bytes)
string_accepted os p k w bytes i h = grind (arith, common_steps, nat_tests)

pub shallow_open : (limit : ℕ) (os : List OpenContainer) → AreOpen limit os → open_depth os ≤ limit
shallow_open limit [] h = omega arith
shallow_open limit (opened o ts ∷ os) h = omega (arith, h.0.3)

-- a break
sound_ended : (limit base : ℕ) (ready : Trees) (os : List OpenContainer) (fed p : ℕ) (x : List ℕ) → Ground limit base ready os → fed ≡ base + length x → needs_item (slot os) ≡ false → x ≡ front ready os ++ ending Endless
    → Sound limit base x (ended fed p ready os)
sound_ended limit base ready [] fed p x g at slotted is = cc
sound_ended limit base ready (opened o ts ∷ os) fed p x g at slotted is =
    let (fits, goes, all, deep) = g.are_open.0 in
    let (h, closed) = break_ends o ts goes slotted in
    let cut : front ready (opened o ts ∷ os) ++ ending Endless ≡ front ready os ++ (opening o ++ spelled_all (trees ts) ++ ending Endless) = simp append_assoc in
    subst (λ b. Sound limit base x (cond b (Failed ready p UnexpectedBreak) (finished fed ready os (built o ts)))) (sym slotted) (sound_finished limit base os ready (built o ts) fed x
    (ends limit base ready os o ts (ground_less limit base ready os (opened o ts) g) g.are_open.1 fits all deep (top_placed limit base ready os (opened o ts) g) fed x at h
    (is ∙ cut ∙ ap (λ l. front ready os ++ (opening o ++ spelled_all (trees ts) ++ l)) (sym closed))))

module _ (limit base : ℕ) (ready : Trees) (os : List OpenContainer) (fed p : ℕ) (x : List ℕ) (g : Ground limit base ready os) (placed : p ≡ base + length (front ready os)) (at : fed ≡ base + length x) where
  -- an item that is a head alone, or is spelled with no other item in it
  sound_leaf : (t : Tree) → Accepts os t → Fits t → depth t ≡ 0 → Placed (base + length (front ready os)) t → x ≡ front ready os ++ spelled t → Sound limit base x (finished fed ready os t)
  sound_leaf t accepts fits flat there is = grind (arith, shallow_open, sound_finished)

  -- a definite string is whole
  sound_string : (k : StringKind) (w : Width) (bytes : List ℕ) (i : Info) → is_bad_chunk (slot os) (major_of k) i ≡ false → WidthFits w (length bytes) × AreBytes bytes
      → x ≡ front ready os ++ string (major_of k) w bytes → Sound limit base x (finished fed ready os (string_tree p k w bytes))
  sound_string k w bytes i h e g = grind (arith, sound_leaf, string_accepted)

  -- some of a definite string's bytes came
  pub sound_content : (k : StringKind) (w : Width) (n : ℕ) (got : List ℕ) → is_bad_chunk (slot os) (major_of k) (info_for (Given w n)) ≡ false → WidthFits w n → length got ≤ n → AreBytes got
      → x ≡ front ready os ++ (head (major_of k) (Given w n) ++ got) → Sound limit base x (gather fed p ready os (content_of k w) n got)
  sound_content k w n got allowed fits up are is =
      cond_both (leb n (length got)) _ _ (Sound limit base x)
      (λ e.
      let same : n ≡ length got = omega (arith, leb-true n (length got) e) in
      sound_string k w got (info_for (Given w n)) allowed (subst (WidthFits w) same fits, are) (is ∙ ap (λ j. front ready os ++ (head (major_of k) (Given w j) ++ got)) same))
      (λ e. record { ground = g; bytes = is; fed_is = at; partial_fits = (placed, fits, leb-false n (length got) e, allowed, are) })

  -- a container is opened
  sound_opening : (o : Opening) → place_of o ≡ p → HeadFits o → IsNoString os → added_depth o + open_depth os ≤ limit → x ≡ front ready os ++ opening o → Sound limit base x (holding fed ready os o [])
  sound_opening o there fits free deep is =
      sound_holding limit base ready os o [] g free fits tt (omega (arith, deep)) (there ∙ placed, tt) fed x at (λ t. sound_finished limit base os ready t fed x) (empty_goes o) (empty_whole o)
      (is ∙ ap (λ l. front ready os ++ l) (sym (append-nil (opening o))))

  low_reason : (s : Slot) (full : Bool) (n : ℕ) → Clear s full Other (Next One) → ltb n 32 ≡ true → head_reason s full Other (Next One) (n ∷ []) ≡ Some BadSimple
  low_reason s full n c e = rw (c.chunked, e) refl

  -- a head is whole
  pub sound_head : (m : Major) (a : Argument) → Clear (slot os) (leb limit (open_depth os)) m (info_for a) → ArgumentFits a → x ≡ front ready os ++ head m a → Sound limit base x (after_head fed p ready os m a)
  sound_head Unsigned (Given w n) c fits is = sound_leaf (Uint p w n) (accepted os _ (free_of os Unsigned _ c.chunked refl refl)) fits refl placed is
  sound_head Negative (Given w n) c fits is = sound_leaf (Nint p w n) (accepted os _ (free_of os Negative _ c.chunked refl refl)) fits refl placed is
  sound_head ByteString (Given w n) c fits is = sound_content OfBytes w n [] c.chunked fits (omega arith) tt (is ∙ ap (λ l. front ready os ++ l) (sym (append-nil (head ByteString (Given w n)))))
  sound_head TextString (Given w n) c fits is = sound_content OfText w n [] c.chunked fits (omega arith) tt (is ∙ ap (λ l. front ready os ++ l) (sym (append-nil (head TextString (Given w n)))))
  sound_head ByteString EndlessArgument c fits is = sound_opening (in_chunks p OfBytes) refl tt (free_of os ByteString _ c.chunked refl refl) (omega (arith, shallow_open limit os g.are_open)) is
  sound_head TextString EndlessArgument c fits is = sound_opening (in_chunks p OfText) refl tt (free_of os TextString _ c.chunked refl refl) (omega (arith, shallow_open limit os g.are_open)) is
  sound_head Array (Given w n) c fits is = sound_opening (an_array p (Fixed w) (Some n)) refl fits (free_of os Array _ c.chunked refl refl) (omega (arith, leb-false limit (open_depth os) c.room)) is
  sound_head Array EndlessArgument c fits is = sound_opening (an_array p Endless None) refl tt (free_of os Array _ c.chunked refl refl) (omega (arith, leb-false limit (open_depth os) c.room)) is
  sound_head Map (Given w n) c fits is = sound_opening (a_map p (Fixed w) (Some n)) refl fits (free_of os Map _ c.chunked refl refl) (omega (arith, leb-false limit (open_depth os) c.room)) is
  sound_head Map EndlessArgument c fits is = sound_opening (a_map p Endless None) refl tt (free_of os Map _ c.chunked refl refl) (omega (arith, leb-false limit (open_depth os) c.room)) is
  sound_head Tag (Given w n) c fits is = sound_opening (a_tag p w n) refl fits (free_of os Tag _ c.chunked refl refl) (omega (arith, leb-false limit (open_depth os) c.room)) is
  sound_head Other (Given Direct n) c fits is = grind (arith, common_steps, nat_tests, sound_leaf, accepted, free_of, simple_value, least_direct)
  sound_head Other (Given One n) c fits is =
      cond_both (ltb n 32) _ _ (Sound limit base x)
      (λ e. record {
        before = front ready os;
        after = head Other (Given One n);
        os = os;
        whole = is;
        live = record { ground = g; bytes = nothing_more limit base _ _ refl; fed_is = placed; partial_fits = tt };
        refused = low_reason (slot os) (leb limit (open_depth os)) n c e;
      })
      (λ e.
      let high : 32 ≤ n = ltb-false n 32 e in
      sound_leaf (Simple p n) (accepted os _ (free_of os Other _ c.chunked refl refl)) (simple_value n (inr (high, fits))) refl placed
      (is ∙ ap (λ w. front ready os ++ head Other (Given w n)) (sym (least_one n (omega arith) fits))))
  sound_head Other EndlessArgument c fits is = sound_ended limit base ready os fed p x g at c.broken is
  sound_head Other (Given w n) c fits is = let e : true ≡ false = c.float in cc
  sound_head m EndlessArgument c fits is = let e : true ≡ false = c.bounded in cc
