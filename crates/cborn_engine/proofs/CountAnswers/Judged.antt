-- What is answered for an input that was read, kept whole or judged.
use Rattle.std.specs.Prelude.{◌≡◌, ◌≤◌}
use Rattle.cborn_engine.proofs.Common.{arith, refl, subst, ℕ, List, [], length, Option, Result, Ok, Err, Vec, Global, Ordering, inl, inr, Appends, EngineFault, CountFault, Count, Kind, AreJudged, CountsFault, IsRefused, IsSent, Reads, Writes, SpellsCount, most_bytes, Input, Whole, Judged, InputAnswers, ReadsInput, EncodedItems}
use Rattle.cborn_engine.proofs.Answers.{nothing_written}
use Rattle.cborn_engine.proofs.CountAnswers.Streamed.{sent_on}

-- what was judged are bytes that may hold any number of items
pub record IsJudgedInput (order : List ℕ → List ℕ → Ordering) (count : Count) (k : Kind) (limit : ℕ) (x : List ℕ) (e : EncodedItems) : Type 0 where
  pub within : length x ≤ most_bytes
  pub judged : AreJudged order limit x e.bytes.items e.defect
  pub any : SpellsCount count k limit x
  pub wire : k ≡ Kind.Wire

pub judged_is : (order : List ℕ → List ℕ → Ordering) (count : Count) (k : Kind) (limit : ℕ) (x : List ℕ) (i : Input) (e : EncodedItems) → i ≡ Judged e → InputAnswers order count k limit x (Ok i) → IsJudgedInput order count k limit x e
judged_is order count k limit x i e is h = go count k (subst (λ j. InputAnswers order count k limit x (Ok j)) is h)
  where
    go : (count : Count) (k : Kind) → InputAnswers order count k limit x (Ok (Judged e)) → IsJudgedInput order count k limit x e
    go Count.Any Kind.Wire j = record { within = j.0; judged = j.1; any = λ one. absurd cc; wire = refl }
    go _ _ j = absurd j

pub whole_is : (order : List ℕ → List ℕ → Ordering) (count : Count) (k : Kind) (limit : ℕ) (x : List ℕ) (i : Input) (bytes : Vec ℕ Global) → i ≡ Whole bytes → InputAnswers order count k limit x (Ok i) → (bytes.items ≡ x) × (length x ≤ most_bytes)
whole_is order count k limit x i bytes is h = subst (λ j. InputAnswers order count k limit x (Ok j)) is h

module _ (order : List ℕ → List ℕ → Ordering) (count : Count) (k : Kind) (limit : ℕ) (a b : Option (List ℕ)) where
  -- what is answered for the input, is answered for what was taken from the reader
  pub answered : {A : Type 0} (Answers : List ℕ → Result A CountFault → Type 0) (i : Input) (r : Result A CountFault) → ReadsInput order count k limit a b (Ok i) → ((x : List ℕ) → InputAnswers order count k limit x (Ok i) → Answers x r) → Reads CountFault.Engine Answers a b r
  answered Answers i r h1 h2 = grind (arith, inl)

  -- no input was taken
  pub unanswered : {A : Type 0} (Answers : List ℕ → Result A CountFault → Type 0) (why : EngineFault) → ReadsInput order count k limit a b (Err why) → ((x : List ℕ) → IsRefused k limit most_bytes x why → Answers x (Err (CountFault.Engine why))) → Reads CountFault.Engine Answers a b (Err (CountFault.Engine why))
  unanswered Answers why h1 h2 = grind (arith, inl, inr, most_bytes)

  module _ (Answers : List ℕ → Result (List ℕ) CountFault → Type 0) (sent : Option (List ℕ)) where
    pub unanswered_sent : (why : EngineFault) → ReadsInput order count k limit a b (Err why) → ((x : List ℕ) → IsRefused k limit most_bytes x why → Answers x (Err (CountFault.Engine why))) → Writes CountFault.Engine Answers a b sent sent (Err (CountFault.Engine why))
    unanswered_sent why h f = record { output = []; given = nothing_written sent; read = unanswered (λ x. IsSent (CountFault.Engine EngineFault.WriteFault) (Answers x) []) why h (λ x r. inr (f x r, refl)) }

    pub answered_sent : (sent_after : Option (List ℕ)) (i : Input) (answer : Result (List ℕ) CountFault) (r : Result Unit CountFault) → ReadsInput order count k limit a b (Ok i)
        → (output : List ℕ) × Appends sent sent_after output × IsSent (CountFault.Engine EngineFault.WriteFault) (λ x. x ≡ answer) output r → ((x : List ℕ) → InputAnswers order count k limit x (Ok i) → Answers x answer) → Writes CountFault.Engine Answers a b sent sent_after r
    answered_sent sent_after i answer r h s f = record {
      output = s.0;
      given = s.1;
      read = answered (λ x. IsSent (CountFault.Engine EngineFault.WriteFault) (Answers x) s.0) i r h (λ x g. sent_on (CountFault.Engine EngineFault.WriteFault) (Answers x) answer s.0 r s.2 (f x g));
    }
