-- What is answered where an input is read, and the answer of the call over what is held is sent.
use Rattle.std.specs.Prelude.{◌≡◌, ◌≢◌, ◌≤◌}
use Rattle.cborn_engine.proofs.Common.{arith, refl, ap, subst, ℕ, List, [], length, Option, None, Some, Result, Ok, Err, Vec, Global, Ordering, inl, inr, Appends, cow_slice_items, CowSlice, InputFault, CountFault, Count, EngineFault, Kind, Collects, CountAnswer, ShownWhole, unwrap_or, EncodedWhole, bytes_of, EncodeAnswers, IsEncoded, CountsFault, of_input, IsNoFlaw, most_bytes, IsRefused, ShowAnswers, IsSent, Writes, IsRefusedWhole, IsUnshownWhole}
use Rattle.cborn_engine.proofs.Answers.{nothing_written, unread, read_whole, read_refused}
use Rattle.cborn_engine.proofs.CountAnswers.Answered.{same_engine}

-- ---- what is answered for an input that is held, is answered for one that was read

pub show_refused : (k out : Kind) (limit most : ℕ) (x : List ℕ) (why : EngineFault) → IsRefused k limit most x why × IsNoFlaw why → ShowAnswers k out limit most x (Err why)
show_refused k out limit most x (EngineFault.Show w) h = absurd h.0
show_refused k out limit most x _ h = h

read_unshown : (k out : Kind) (limit : ℕ) (x : List ℕ) (why : EngineFault) → length x ≤ most_bytes → IsUnshownWhole k out limit most_bytes x why → ShowAnswers k out limit most_bytes x (Err why)
read_unshown k out limit x why h1 h2 = grind (arith, most_bytes, read_refused)

module _ (count : Count) (k : Kind) (limit : ℕ) (x : List ℕ) (short : length x ≤ most_bytes) where
  pub read_shown : (out : Kind) (r : Result (CowSlice ℕ Global) CountFault) → CountAnswer count k limit x (ShownWhole k out limit x) r → CountAnswer count k limit x (ShowAnswers k out limit most_bytes x) (bytes_of r)
  read_shown out r h1 = grind (arith, cow_slice_items, read_unshown)

  module _ (order : List ℕ → List ℕ → Ordering) (input : Vec ℕ Global) (e : x ≡ input.items) where
    pub not_encoded : (why : CountFault) → CountAnswer count k limit x (EncodedWhole order k limit x) (Err why) → CountAnswer count k limit x (EncodeAnswers order k limit most_bytes x) (Err why)
    not_encoded (CountFault.Engine w) h = read_refused k limit most_bytes x w short h
    not_encoded _ h = ((unwrap_or h.0.0 input, go h.0.0 h.0.1), h.1)
      where
        go : (found : Option (Vec ℕ Global)) → EncodedWhole order k limit x (Ok found) → EncodeAnswers order k limit most_bytes x (Ok (unwrap_or found input))
        go None a = (short, subst (IsEncoded order k limit x) e a.1)
        go (Some bytes) a = a

-- ---- what went out

pub sent_on : {E : Type 0} (failed : E) (Answers : Result (List ℕ) E → Type 0) (a : Result (List ℕ) E) (output : List ℕ) (r : Result Unit E) → IsSent failed (λ b. b ≡ a) output r → Answers a → IsSent failed Answers output r
sent_on failed Answers a output r h1 h2 = grind (arith, inl, inr)

module _ (Answers : List ℕ → Result (List ℕ) CountFault → Type 0) (before after sent : Option (List ℕ)) where
  pub unread_sent : (k : Kind) (limit : ℕ) (why : InputFault) → ((x : List ℕ) → IsRefused k limit most_bytes x (of_input why) × IsNoFlaw (of_input why) → Answers x (Err (CountFault.Engine (of_input why)))) → Collects most_bytes before after (Err why) → Writes CountFault.Engine Answers before after sent sent (Err (CountFault.Engine (of_input why)))
  unread_sent k limit why f h = record {
    output = [];
    given = nothing_written sent;
    read = unread CountFault.Engine (λ x. IsSent (CountFault.Engine EngineFault.WriteFault) (Answers x) []) most_bytes before after k limit why (λ x r. inr (f x r, refl)) h;
  }

  pub read_sent : (sent_after : Option (List ℕ)) (bytes : Vec ℕ Global) (now : List ℕ) → Collects most_bytes before after (Ok bytes) → now ≡ bytes.items → (a : Result (List ℕ) CountFault) (r : Result Unit CountFault)
      → (output : List ℕ) × Appends sent sent_after output × IsSent (CountFault.Engine EngineFault.WriteFault) (λ b. b ≡ a) output r → (length now ≤ most_bytes → Answers now a) → Writes CountFault.Engine Answers before after sent sent_after r
  read_sent sent_after bytes now h e a r s f = record {
    output = s.0;
    given = s.1;
    read = read_whole CountFault.Engine (λ x. IsSent (CountFault.Engine EngineFault.WriteFault) (Answers x) s.0) most_bytes before after bytes now h e r (λ l. sent_on (CountFault.Engine EngineFault.WriteFault) (Answers now) a s.0 r s.2 (f l));
  }

-- ---- the counts of failures

pub quiet_counted : {A : Type 0} (loud : CountFault) (r : Result A CountFault) (n m : ℕ) → r ≢ Err loud → m ≡ n → CountsFault loud r n m
quiet_counted loud r n m q e = (λ p. absurd (q p), λ p. e)

-- faults of an input that is held are no failures
abbrev pub IsQuiet : EngineFault → Type 0
IsQuiet why = (why ≢ EngineFault.ReadFault) × (why ≢ EngineFault.WriteFault)

pub refused_quiet : (k : Kind) (limit most : ℕ) (x : List ℕ) (why : EngineFault) → IsRefusedWhole k limit most x why → IsQuiet why
refused_quiet k limit most x EngineFault.ReadFault h = absurd h
refused_quiet k limit most x EngineFault.WriteFault h = absurd h
refused_quiet k limit most x _ h = (λ e. cc, λ e. cc)

pub unshown_quiet : (k out : Kind) (limit most : ℕ) (x : List ℕ) (why : EngineFault) → IsUnshownWhole k out limit most x why → IsQuiet why
unshown_quiet k out limit most x why h1 = grind (arith, refused_quiet)

module _ {A : Type 0} (count : Count) (k : Kind) (limit : ℕ) (x : List ℕ) (Answers : Result A EngineFault → Type 0) (q : (why : EngineFault) → Answers (Err why) → IsQuiet why) where
  pub quiet : (r : Result A CountFault) → CountAnswer count k limit x Answers r → (r ≢ Err (CountFault.Engine EngineFault.ReadFault)) × (r ≢ Err (CountFault.Engine EngineFault.WriteFault))
  quiet (Err (CountFault.Engine w)) h = let s = q w h in (λ e. s.0 (same_engine w EngineFault.ReadFault e), λ e. s.1 (same_engine w EngineFault.WriteFault e))
  quiet _ h = (λ e. cc, λ e. cc)

-- what is sent fails no read
pub sent_quiet : (a : Result (CowSlice ℕ Global) CountFault) (output : List ℕ) (r : Result Unit CountFault) → a ≢ Err (CountFault.Engine EngineFault.ReadFault) → IsSent (CountFault.Engine EngineFault.WriteFault) (λ b. b ≡ bytes_of a) output r → r ≢ Err (CountFault.Engine EngineFault.ReadFault)
sent_quiet a output (Ok u) q s e = cc
sent_quiet a output (Err why) q (inl (f, s)) e = cc
sent_quiet (Ok b) output (Err why) q (inr (f, none)) e = cc
sent_quiet (Err w) output (Err why) q (inr (f, none)) e = let same : w ≡ CountFault.Engine EngineFault.ReadFault = cc in q (ap Err same)
