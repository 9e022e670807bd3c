-- A piece may be taken by heads and by slices, and not byte by byte.
use Rattle.std.specs.Prelude.{◌≡◌, ◌+◌, ◌*◌, ◌/◌, ◌%◌, ◌<◌, ◌≤◌, ◌∷◌, ◌++◌}
use Rattle.cborn_wire.proofs.Common.{refl, sym, ap, ◌∙◌, ℕ, List, [], length, cond, leb, Some, None, arith, append-nil, length-append, lt-leb, le-leb, Width, Direct, One, Two, Four, Eight, Major, Argument, Given, EndlessArgument, code, following, head, string_tree, Trees, WireReason, StringKind, OpenContainer, slot, open_depth, info_at, head_reason, info_for, content_of, nothing, gathering, Live, Failed, finished, after_head, gather, run, major_at, ArgumentFits, common_steps, nat_tests}
use Rattle.cborn_wire.proofs.Machine.Running.{failed_run}
use Rattle.cborn_wire.proofs.Machine.TakesHeads.{gathers, takes_head, quotient, major_at-code, info_at-now}

-- the initial byte of a head, and what its information is
record FirstOf (m : Major) (a : Argument) : Type 0 where
  low : ℕ
  others : List ℕ
  bytes : head m a ≡ (32 * code m + low) ∷ others
  small : low < 32
  says : info_at low ≡ info_for a

first_of : (m : Major) (a : Argument) → ArgumentFits a → FirstOf m a
first_of m (Given Direct n) h = record { low = n; others = []; bytes = refl; small = omega arith; says = info_at-now n h }
first_of m (Given One n) h = record { low = 24; others = following One n; bytes = refl; small = omega arith; says = refl }
first_of m (Given Two n) h = record { low = 25; others = following Two n; bytes = refl; small = omega arith; says = refl }
first_of m (Given Four n) h = record { low = 26; others = following Four n; bytes = refl; small = omega arith; says = refl }
first_of m (Given Eight n) h = record { low = 27; others = following Eight n; bytes = refl; small = omega arith; says = refl }
first_of m EndlessArgument h = record { low = 31; others = []; bytes = refl; small = omega arith; says = refl }

first_byte : (m : Major) (a : Argument) (b : ℕ) (z y : List ℕ) → b ∷ z ≡ head m a ++ y → (f : FirstOf m a) → b ≡ 32 * code m + f.low
first_byte m a b z y e f = cc (e ∙ ap (λ l. l ++ y) f.bytes)

pub major_of_head : (m : Major) (a : Argument) (b : ℕ) (z y : List ℕ) → ArgumentFits a → b ∷ z ≡ head m a ++ y → major_at (b / 32) ≡ m
major_of_head m a b z y fits e = grind (arith, first_of, first_byte, quotient, major_at-code)

pub info_of_head : (m : Major) (a : Argument) (b : ℕ) (z y : List ℕ) → ArgumentFits a → b ∷ z ≡ head m a ++ y → info_at (b % 32) ≡ info_for a
info_of_head m a b z y fits e = grind (arith, common_steps, nat_tests)

module _ (limit fed : ℕ) (ready : Trees) (os : List OpenContainer) where
  -- A head that is whole at the front of a piece.
  pub takes_whole_head : (m : Major) (a : Argument) (b : ℕ) (z y : List ℕ) → ArgumentFits a → b ∷ z ≡ head m a ++ y
      → head_reason (slot os) (leb limit (open_depth os)) (major_at (b / 32)) (info_at (b % 32)) [] ≡ None
      → run limit (Live fed ready os nothing) (b ∷ z) ≡ run limit (after_head (fed + length (head m a)) fed ready os m a) y
  takes_whole_head m a b z y fits e none =
      let allowed : head_reason (slot os) (leb limit (open_depth os)) m (info_for a) [] ≡ None
      = ap (λ j. head_reason (slot os) (leb limit (open_depth os)) j (info_for a) []) (sym (major_of_head m a b z y fits e))
      ∙ ap (λ i. head_reason (slot os) (leb limit (open_depth os)) (major_at (b / 32)) i []) (sym (info_of_head m a b z y fits e)) ∙ none in
      ap (run limit (Live fed ready os nothing)) e ∙ takes_head limit fed ready os m a y fits allowed

  -- An initial byte that isn't allowed in the slot.
  pub refuses_first : (b : ℕ) (y : List ℕ) (r : WireReason) → head_reason (slot os) (leb limit (open_depth os)) (major_at (b / 32)) (info_at (b % 32)) [] ≡ Some r
      → run limit (Live fed ready os nothing) (b ∷ y) ≡ Failed ready fed r
  refuses_first b y r e = grind (arith, failed_run)

  -- A slice of a string's content: one that leaves some to come, and one that ends it.
  module _ (p : ℕ) (k : StringKind) (w : Width) (n : ℕ) (got y : List ℕ) where
    content_taken : length got < n → length got + length y ≤ n → run limit (Live fed ready os (gathering p (content_of k w) n got)) y ≡ gather (fed + length y) p ready os (content_of k w) n (got ++ y)
    content_taken some fits =
        ap (run limit (Live fed ready os (gathering p (content_of k w) n got))) (sym (append-nil y))
        ∙ ap (λ c. run limit (cond c (finished fed ready os (string_tree p k w got)) (Live fed ready os (gathering p (content_of k w) n got))) (y ++ [])) (sym (lt-leb n (length got) some))
        ∙ gathers limit y fed p ready os (content_of k w) n got [] fits

    pub content_more : length got + length y < n → run limit (Live fed ready os (gathering p (content_of k w) n got)) y ≡ Live (fed + length y) ready os (gathering p (content_of k w) n (got ++ y))
    content_more h = grind (arith, content_taken, length-append, lt-leb)

    pub content_done : length got < n → length got + length y ≡ n → run limit (Live fed ready os (gathering p (content_of k w) n got)) y ≡ finished (fed + length y) ready os (string_tree p k w (got ++ y))
    content_done h all = grind (arith, content_taken, le-leb, length-append)
