-- What is made of the head of an array, a map or a tag and of a break, and of heads that are taken one after another off the front of a piece.
use Rattle.std.specs.Prelude.{◌≡◌, ◌+◌, ◌-◌, ◌<◌, ◌≤◌, ◌++◌, ◌/◌, ◌%◌, ◌∷◌}
use Rattle.cborn_wire.proofs.Common.{refl, sym, ap, ◌∙◌, subst, inl, inr, ℕ, List, length, take, drop, arith, AreBytes, Partial, Part, no_part, Level, TakesHead, nothing, ready_in, run, IsReached, AtMostOneMore, AreOpen, ready, open_in, state, Keeps, Stands, [], get_or, leb, false, None, Head, slot, open_depth, major_at, seen_argument, IsHeadOf, info_at, is_always_bounded, head_reason, after_head, is_container, true, common_steps, nat_tests, bytes-left}
use Rattle.cborn_wire.proofs.Machine.Running.{run-append}
use Rattle.cborn_wire.proofs.Machine.SoundRuns.{reached_more}
use Rattle.cborn_wire.proofs.Visiting.Pieces.{next_taken, taken_len}
use Rattle.cborn_wire.proofs.Visiting.Taking.{between, outer_count, reached_open}
use Rattle.cborn_wire.specs.declared.heads.Argument.TheVariants.{Endless}
use Rattle.cborn_wire.proofs.HeadReading.HeadFronts.{endless_head}
use Rattle.cborn_wire.proofs.HeadReading.HeadSteps.{head_taken}
use Rattle.cborn_wire.proofs.Visiting.Leaves.{taken_as}
use Rattle.cborn_wire.proofs.Machine.WholeFront.{one_more_head}

-- the major type of an initial byte
pub container_at : (b : ℕ) → 128 ≤ b → b < 224 → is_container (major_at (b / 32)) ≡ true
container_at b low high = grind (arith, common_steps, nat_tests)

-- an array or a map has an indefinite length or a definite one
pub bounded_not : (n : ℕ) → 4 ≤ n → n < 6 → is_always_bounded (major_at n) ≡ false
bounded_not n h e = grind (arith, common_steps, nat_tests)

pub endless_at : (x : List ℕ) → 0 < length x → 128 ≤ get_or x 0 0 → get_or x 0 0 < 192 → get_or x 0 0 % 32 ≡ 31 → IsHeadOf x (record { major = get_or x 0 0 / 32; argument = Endless }) 1
endless_at [] some low high e = absurd (omega (arith, some))
endless_at (b ∷ y) some low high e = endless_head y b (b / 32) (omega (arith, high)) refl (ap info_at e) (bounded_not (b / 32) (omega (arith, low)) (omega (arith, high)))

-- what is made of a head that is whole at the front of the piece
pub head_opens : (limit place : ℕ) (f : Partial) (piece : List ℕ) (holds : Partial → Part → Type 0) (around : List Level) (l : Level) (h : Head) (n left : ℕ) → IsHeadOf piece h n
    → None ≡ head_reason (slot (open_in f)) (leb limit (open_depth (open_in f))) (major_at (get_or piece 0 0 / 32)) (info_at (get_or piece 0 0 % 32)) []
    → left ≡ 0 → Stands holds around l left (place + n) (after_head (place + n) place (ready f) (open_in f) (major_at h.major) (seen_argument h.argument)) → TakesHead limit place f piece holds around l n
head_opens limit place f piece holds around l h n left is none no_left stands = grind (arith, head_taken, one_more_head, taken_as)

-- A front y of the piece was taken, after which the partial sequence is h.
module _ (limit place : ℕ) (f : Partial) (piece y rest : List ℕ) (cut : piece ≡ y ++ rest) (at : ℕ) (there : at ≡ place + length y) (h : Partial) (same : ready h ≡ ready f) (is : run limit (state place f no_part) y ≡ state at h no_part) where
  pub still_open : (base : ℕ) → AreBytes piece → IsReached limit base (state place f no_part) → AreOpen limit (open_in h)
  still_open base bytes from = reached_open limit base (run limit (state place f no_part) y) at (ready h) (open_in h) nothing (reached_more limit base (state place f no_part) y from (bytes-left y rest (subst AreBytes cut bytes))) is

  module _ (holds : Partial → Part → Type 0) (outer : List Level) (inner : Level) where
    pub front_heads : holds h no_part → Keeps h outer inner → TakesHead limit place f piece holds outer inner (length piece - length rest)
    front_heads held kept = grind (arith, common_steps, nat_tests)

    -- n more bytes are taken
    module _ (n : ℕ) (fits : n ≤ length rest) (takes : TakesHead limit at h rest holds outer inner n) where
      next : run limit (state place f no_part) (y ++ take n rest) ≡ run limit (state at h no_part) (take n rest)
      next = run-append limit (state place f no_part) y (take n rest) ∙ ap (λ s. run limit s (take n rest)) is

      one_more : AtMostOneMore (ready f) (run limit (state at h no_part) (take n rest))
      one_more = subst (λ r. AtMostOneMore r (run limit (state at h no_part) (take n rest))) same takes.1

      pub more_heads : TakesHead limit place f piece holds outer inner (length piece - length (take (length rest - n) (drop n rest)))
      more_heads = grind (arith, next, next_taken, one_more, taken_len)

      -- no item became whole, since something is open
      pub heads_go_on : 0 < length outer → (g : Partial) × holds g no_part × Keeps g outer inner × (ready g ≡ ready f) × (run limit (state place f no_part) (y ++ take n rest) ≡ state (at + n) g no_part)
      heads_go_on amid =
          let (g, held, kept, now) = between holds outer inner 0 (at + n) _ refl takes.0 in
          (g, held, kept, go g kept now one_more, next ∙ now)
        where
          go : (g : Partial) → Keeps g outer inner → run limit (state at h no_part) (take n rest) ≡ state (at + n) g no_part → AtMostOneMore (ready f) (run limit (state at h no_part) (take n rest)) → ready g ≡ ready f
          go g kept now (inl none) = sym (ap ready_in now) ∙ none
          go g kept now (inr (end, t, whole)) = let bare : open_in g ≡ [] = cc (sym now ∙ whole) in absurd (omega (arith, amid, outer_count g outer inner kept.0, ap length bare))
