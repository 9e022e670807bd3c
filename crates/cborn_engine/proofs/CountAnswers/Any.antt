-- Where any number of items will do, the calls that may count answer what those answer that don't.
use Rattle.std.specs.Prelude.{◌≡◌, ◌≢◌}
use Rattle.cborn_engine.proofs.Common.{arith, OnOk, IfErr, refl, subst, inl, inr, ℕ, List, Option, Result, Ok, Err, CountFault, CompareCountFault, EngineFault, Kind, Compares, CountAnswer, ComparesCount, counted_of, compare_counted_of, CountsFault, most_bytes, IsRead, Reads, Writes, Count}
use Rattle.cborn_engine.specs.declared.faults.CompareFault.{CompareFault}
use Rattle.cborn_engine.specs.declared.faults.CompareFault.TheVariants as engine

pub any_counts : {A : Type 0} (why : EngineFault) (s : Result A CountFault) (r : Result A EngineFault) (n m : ℕ) → s ≡ counted_of r → CountsFault (CountFault.Engine why) s n m → CountsFault why r n m
any_counts why s (Ok a) n m e h = (λ p. absurd cc, λ p. h.1 (λ q. cc))
any_counts why s (Err w) n m e h = (λ p. h.0 cc, λ p. h.1 (λ q. p cc))

-- ---- of one input

read_any : {A : Type 0} (r : Result A EngineFault) (rest : Option (List ℕ)) → IsRead CountFault.Engine (counted_of r) rest → IsRead (λ why. why) r rest
read_any r rest h1 = grind (arith, inl, inr)

module _ (k : Kind) (limit : ℕ) (before after : Option (List ℕ)) where
  module _ {A : Type 0} (Answers : List ℕ → Result A EngineFault → Type 0) where
    abbrev pub Counting : List ℕ → Result A CountFault → Type 0
    Counting x = CountAnswer Count.Any k limit x (Answers x)

    pub any_of : (s : Result A CountFault) → Reads CountFault.Engine Counting before after s → (r : Result A EngineFault) × (s ≡ counted_of r)
    any_of (Ok a) h = (Ok a, refl)
    any_of (Err (CountFault.Engine why)) h = (Err why, refl)
    any_of (Err _) h = absurd (let e = h.answer.1.0 in cc)

    pub any_answered : (s : Result A CountFault) (r : Result A EngineFault) → s ≡ counted_of r → Reads CountFault.Engine Counting before after s → Reads (λ why. why) Answers before after r
    any_answered s r h1 h2 = grind (arith, counted_of, read_any)

  module _ (sent sent_after : Option (List ℕ)) (Answers : List ℕ → Result (List ℕ) EngineFault → Type 0) where
    abbrev pub Sending : Result Unit CountFault → Type 0
    Sending = Writes CountFault.Engine (λ x. CountAnswer Count.Any k limit x (Answers x)) before after sent sent_after

    pub any_sent : (s : Result Unit CountFault) → Sending s → (r : Result Unit EngineFault) × (s ≡ counted_of r)
    any_sent (Ok u) h = (Ok u, refl)
    any_sent (Err (CountFault.Engine why)) h = (Err why, refl)
    any_sent (Err (CountFault.NoItem p)) h = elim h.read.answer [ inl a ↦ absurd (let e = a.0 in cc) | inr a ↦ absurd (let e = a.0.1.0 in cc) ]
    any_sent (Err (CountFault.MoreItems p)) h = elim h.read.answer [ inl a ↦ absurd (let e = a.0 in cc) | inr a ↦ absurd (let e = a.0.1.0 in cc) ]

    pub any_written : (s : Result Unit CountFault) (r : Result Unit EngineFault) → s ≡ counted_of r → Sending s → Writes (λ why. why) Answers before after sent sent_after r
    any_written s r h1 h2 = grind (arith, counted_of, inl, inr, read_any)

-- what is promised where there is an answer, and where there is none
pub any_ok : {A : Type 0} (P : Type 0) (s : Result A CountFault) (r : Result A EngineFault) → s ≡ counted_of r → OnOk s P → OnOk r P
any_ok P s (Ok a) e h = subst (λ t. OnOk t P) e h
any_ok P s (Err why) e h = tt

pub any_kept : {A : Type 0} (P : Type 0) (loud : EngineFault) (s : Result A CountFault) (r : Result A EngineFault) → s ≡ counted_of r → IfErr s (λ why. why ≢ CountFault.Engine loud → P) → IfErr r (λ why. why ≢ loud → P)
any_kept P loud s (Ok a) e h = tt
any_kept P loud s (Err why) e h = λ n. (subst (λ t. IfErr t (λ why. why ≢ CountFault.Engine loud → P)) e h) (λ q. n cc)

-- ---- of two

module _ (k l : Kind) (limit : ℕ) (before after before2 after2 : Option (List ℕ)) where
  pub compared_any : (w : CompareCountFault) → ComparesCount Count.Any k l limit before after before2 after2 (Err w) → (why : CompareFault) × (w ≡ compare_counted_of why)
  compared_any (CompareCountFault.First (CountFault.Engine why)) h = (engine.First why, refl)
  compared_any (CompareCountFault.First _) h = absurd (let e = h.answer.0.2.0 in cc)
  compared_any (CompareCountFault.Second (CountFault.Engine why)) h = (engine.Second why, refl)
  compared_any (CompareCountFault.Second _) h = absurd (let e = h.answer.1.2.0 in cc)
  compared_any CompareCountFault.OutOfMemory h = (engine.OutOfMemory, refl)

  pub any_compared : (w : CompareCountFault) (why : CompareFault) → w ≡ compare_counted_of why → ComparesCount Count.Any k l limit before after before2 after2 (Err w) → Compares k l limit most_bytes before after before2 after2 (Err why)
  any_compared w why h1 h2 = grind (arith, compare_counted_of, most_bytes, read_any)
