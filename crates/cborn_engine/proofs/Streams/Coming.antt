-- What is known in a loop that reads an input by pieces, and keeps none of them.
use Rattle.std.specs.Prelude.{◌≡◌, ◌≤◌, ◌+◌, ◌++◌}
use Rattle.cborn_engine.proofs.Common.{ℕ, List, [], length, take, Option, Ok, Err, append-nil, subst, arith, length-append, Consumes, Consumes-trans, Consumes-kept, length-take-le, InputFault, PieceAnswers, Collects}
use Rattle.cborn_engine.proofs.Answers.{nothing_read}

-- Of at most `most` bytes so many more may come, and this is known of what came.
pub record SoFar (most left : ℕ) (before after : Option (List ℕ)) (Known : List ℕ → Type 0) : Type 0 where
  pub input : List ℕ
  pub taken : Consumes before after input
  pub count : length input + left ≡ most
  pub known : Known input

pub at_first : (most : ℕ) (a : Option (List ℕ)) (Known : List ℕ → Type 0) → Known [] → SoFar most most a a Known
at_first most a Known h = record { input = []; taken = nothing_read a; count = omega arith; known = h }

module _ (most left : ℕ) (a b c : Option (List ℕ)) (Known : List ℕ → Type 0) (s : SoFar most left a b Known) (buf : List ℕ) where
  -- no further piece came
  pub halted : (why : InputFault) → PieceAnswers b c left buf (Err why) → Collects most a c (Err why)
  halted InputFault.TooLong p =
      let n : length (s.input ++ p.0) ≡ most + 1 = omega (arith, length-append s.input p.0, p.2, s.count) in
      record { input = s.input ++ p.0; taken = Consumes-trans a b c s.input p.0 s.taken p.1; answer = n }
  halted InputFault.ReadFault p = let n : length s.input ≤ most = omega (arith, s.count) in record { input = s.input; taken = Consumes-kept a b c s.input s.taken p; answer = n }
  halted InputFault.OutOfMemory p = absurd p

  -- a piece came
  module _ (n : ℕ) (p : PieceAnswers b c left buf (Ok n)) where
    abbrev pub all : List ℕ
    all = s.input ++ take n buf

    pub read_now : Consumes a c all
    read_now = Consumes-trans a b c s.input (take n buf) s.taken p.2

    count_now : length all + left ≡ most + n
    count_now = omega (arith, length-append s.input (take n buf), length-take-le n buf p.1, s.count)

    pub within_now : length all ≤ most
    within_now = omega (arith, count_now, p.0)

    pub goes_on : (m : ℕ) → m + n ≡ left → (Now : List ℕ → Type 0) → Now all → SoFar most m a c Now
    goes_on m e Now h = record { input = all; taken = read_now; count = omega (arith, count_now, e); known = h }

    -- the input has ended
    pub taken_all : n ≡ 0 → Consumes a c s.input
    taken_all e = subst (Consumes a c) (append-nil s.input) (Consumes-trans a b c s.input [] s.taken (subst (λ (m : ℕ). Consumes b c (take m buf)) e p.2))
