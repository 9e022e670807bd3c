-- The machine takes what `read_head` reads.
use Rattle.std.specs.Prelude.{◌≡◌, ◌+◌, ◌/◌, ◌%◌, ◌<◌, ◌≤◌, ◌∷◌, ◌++◌}
use Rattle.cborn_wire.proofs.Common.{refl, sym, ap, ◌∙◌, ℕ, suc, List, [], length, take, get_or, Bool, false, leb, Some, None, arith, append-nil, length-append, add-one, take_more, slice_set, Width, Major, Other, Argument, Given, head, Trees, WireReason, Head, major_at, seen_argument, reason_alone, IsHeadOf, Slot, element_or_end, OpenContainer, slot, open_depth, Info, EndlessInformation, info_at, head_reason, width_bytes, number, argument_of, nothing, gathering, Live, Failed, ended, after_head, at_slot, run, common_steps, nat_tests}
use Rattle.cborn_wire.proofs.HeadReading.InitialBytes.{same_alone}
use Rattle.cborn_wire.proofs.Machine.Pieces.{takes_whole_head, refuses_first}
use Rattle.cborn_wire.proofs.Machine.SomeEnd.{refused_run}

pub head_some : (m : Major) (a : Argument) → 0 < length (head m a)
head_some m a = grind (arith, common_steps, nat_tests)

pub head_front : (piece : List ℕ) (h : Head) (n : ℕ) → IsHeadOf piece h n → take n piece ≡ head (major_at h.major) (seen_argument h.argument)
head_front piece h n i = grind (arith, common_steps, nat_tests)

module _ (limit at : ℕ) (ready : Trees) (os : List OpenContainer) where
  -- The last byte of an argument, of which n bytes came.
  pub argument_ends : (p : ℕ) (m : Major) (w : Width) (bytes piece : List ℕ) (n v : ℕ) → length bytes ≡ 8 → length (take n bytes) < width_bytes w → 0 < length piece
      → let all = take (n + 1) (slice_set bytes n (get_or piece 0 0)) in width_bytes w ≤ length all → v ≡ number w (take (width_bytes w) all)
      → run limit (Live at ready os (gathering p (argument_of m w) (width_bytes w) (take n bytes))) (take 1 piece) ≡ after_head (at + 1) p ready os m (Given w v)
  argument_ends p m w bytes piece n v eight short some full value = grind (arith, common_steps, nat_tests)

  -- An initial byte that isn't allowed there.
  pub first_refused : (piece : List ℕ) (r : WireReason) → 0 < length piece → Some r ≡ head_reason (slot os) (leb limit (open_depth os)) (major_at (get_or piece 0 0 / 32)) (info_at (get_or piece 0 0 % 32)) []
      → run limit (Live at ready os nothing) piece ≡ Failed ready at r
  first_refused [] r some e = absurd (omega arith)
  first_refused (b ∷ y) r some e = refuses_first limit at ready os b y r (sym e)

  -- A whole head.
  pub head_taken : (piece : List ℕ) (h : Head) (n : ℕ) → IsHeadOf piece h n → None ≡ head_reason (slot os) (leb limit (open_depth os)) (major_at (get_or piece 0 0 / 32)) (info_at (get_or piece 0 0 % 32)) []
      → run limit (Live at ready os nothing) (take n piece) ≡ after_head (at + n) at ready os (major_at h.major) (seen_argument h.argument)
  head_taken piece h n i none =
      whole_head (head (major_at h.major) (seen_argument h.argument)) i.rest refl piece i.whole (head_front piece h n i) none
    where
      whole_head : (x rest : List ℕ) → x ≡ head (major_at h.major) (seen_argument h.argument) → (all : List ℕ) → all ≡ x ++ rest → take n piece ≡ x
          → None ≡ head_reason (slot os) (leb limit (open_depth os)) (major_at (get_or all 0 0 / 32)) (info_at (get_or all 0 0 % 32)) []
          → run limit (Live at ready os nothing) (take n piece) ≡ after_head (at + n) at ready os (major_at h.major) (seen_argument h.argument)
      whole_head [] rest e all is f none = absurd (omega (arith, ap length e, head_some (major_at h.major) (seen_argument h.argument)))
      whole_head (b ∷ y) rest e all is f none =
          let first : get_or all 0 0 ≡ b = ap (λ l. get_or l 0 0) is in
          let clear : head_reason (slot os) (leb limit (open_depth os)) (major_at (b / 32)) (info_at (b % 32)) [] ≡ None = ap (λ j. head_reason (slot os) (leb limit (open_depth os)) (major_at (j / 32)) (info_at (j % 32)) []) (sym first) ∙ sym none in
          ap (run limit (Live at ready os nothing)) f
          ∙ takes_whole_head limit at ready os (major_at h.major) (seen_argument h.argument) b y [] i.fits (e ∙ sym (append-nil (head (major_at h.major) (seen_argument h.argument)))) clear
          ∙ ap (λ k. after_head (at + k) at ready os (major_at h.major) (seen_argument h.argument)) (sym i.len)

-- A reason that the initial byte alone doesn't give follows from the second byte, wherever the head is.
bad_simple : (s : Slot) (full : Bool) (m : Major) (i : Info) (y : List ℕ) (r : WireReason) → head_reason s full m i [] ≡ None → head_reason element_or_end false m i y ≡ Some r → head_reason s full m i y ≡ Some r
bad_simple s full m i y r none e = grind (arith, nat_tests)

pub second_refused : (limit at : ℕ) (ready : Trees) (os : List OpenContainer) (piece : List ℕ) (r : WireReason) → 0 < length piece
    → None ≡ head_reason (slot os) (leb limit (open_depth os)) (major_at (get_or piece 0 0 / 32)) (info_at (get_or piece 0 0 % 32)) [] → reason_alone piece ≡ Some r
    → run limit (Live at ready os nothing) piece ≡ Failed ready at r
second_refused limit at ready os [] r some none e = absurd (omega arith)
second_refused limit at ready os (b ∷ y) r some none e =
    refused_run limit (b ∷ y) at ready os r (bad_simple (slot os) (leb limit (open_depth os)) (major_at (b / 32)) (info_at (b % 32)) y r (sym none) (sym (same_alone b y) ∙ e))

pub head_fits : (piece : List ℕ) (h : Head) (n : ℕ) → IsHeadOf piece h n → (0 < n) × (n ≤ length piece)
head_fits piece h n i = grind (arith, head_some, length-append)

-- a break, which says by itself where it isn't allowed

break_ended : (limit at : ℕ) (rd : Trees) (os : List OpenContainer) → at_slot limit at rd os Other EndlessInformation ≡ ended (suc at) at rd os
break_ended limit at rd os = grind (arith, common_steps, nat_tests)

pub break_taken : (limit at : ℕ) (rd : Trees) (os : List OpenContainer) (piece : List ℕ) → 0 < length piece → get_or piece 0 0 ≡ 255 → run limit (Live at rd os nothing) (take 1 piece) ≡ ended (at + 1) at rd os
break_taken limit at rd os piece some e = ap (run limit (Live at rd os nothing)) (take_more piece 0 0 some ∙ ap (λ b. b ∷ []) e) ∙ break_ended limit at rd os ∙ ap (λ k. ended k at rd os) (sym (add-one at))
