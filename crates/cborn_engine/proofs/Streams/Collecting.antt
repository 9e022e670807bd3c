-- A loop that collects pieces, each after those before it.
use Rattle.std.specs.Prelude.{◌≡◌, ◌≤◌, ◌+◌, ◌-◌, ◌++◌}
use Rattle.cborn_engine.proofs.Common.{ℕ, List, length, take, drop, Option, Ok, Err, ap, ◌∙◌, arith, append_assoc, length-append, Consumes, Consumes-trans, Consumes-kept, length-take-le, take-add, InputFault, PieceAnswers, CollectsOn}

module _ (front : List ℕ) where
  -- the first bytes of a buffer are the front and what was read
  pub record Filled (most filled : ℕ) (before after : Option (List ℕ)) (x : List ℕ) : Type 0 where
    pub within : filled ≤ length x
    pub allowed : filled ≤ most
    pub read : List ℕ
    pub is : take filled x ≡ front ++ read
    pub taken : Consumes before after read

  -- they stay where the buffer changes after them
  pub kept : (most filled : ℕ) (a b : Option (List ℕ)) (x y : List ℕ) → Filled most filled a b x → take filled y ≡ take filled x → filled ≤ length y → Filled most filled a b y
  kept most filled a b x y h e l = record { within = l; allowed = h.allowed; read = h.read; is = e ∙ h.is; taken = h.taken }

  -- no further piece came
  pub stopped : (most filled : ℕ) (a b c : Option (List ℕ)) (x buf : List ℕ) (why : InputFault) → Filled most filled a b x → PieceAnswers b c (most - filled) buf (Err why) → CollectsOn front most a c (Err why)
  stopped most filled a b c x buf InputFault.TooLong h p =
      let n : length (front ++ (h.read ++ p.0)) ≡ most + 1 = omega (arith, ap length (append_assoc front h.read p.0), length-append (front ++ h.read) p.0, ap length h.is, length-take-le filled x h.within, h.allowed, p.2) in
      record { input = h.read ++ p.0; taken = Consumes-trans a b c h.read p.0 h.taken p.1; answer = n }
  stopped most filled a b c x buf InputFault.ReadFault h p =
      let l : length (front ++ h.read) ≤ most = omega (arith, ap length h.is, length-take-le filled x h.within, h.allowed) in
      record { input = h.read; taken = Consumes-kept a b c h.read h.taken p; answer = l }
  stopped most filled a b c x buf _ h p = absurd p

  module _ (most filled n : ℕ) (a b c : Option (List ℕ)) (y : List ℕ) (h : Filled most filled a b y) (p : PieceAnswers b c (most - filled) (drop filled y) (Ok n)) where
    -- a piece came
    pub more : filled + n ≤ length y → Filled most (filled + n) a c y
    more l =
        let piece : List ℕ = take n (drop filled y) in
        record {
          within = l;
          allowed = omega (arith, h.allowed, p.0);
          read = h.read ++ piece;
          is = take-add filled n y ∙ ap (λ z. z ++ piece) h.is ∙ append_assoc front h.read piece;
          taken = Consumes-trans a b c h.read piece h.taken p.2;
        }
