-- What is answered where two inputs are read, each of which has to hold a given number of items.
use Rattle.std.specs.Prelude.{◌≡◌, ◌≤◌}
use Rattle.cborn_engine.proofs.Common.{refl, ℕ, List, [], Option, Ok, Err, Vec, Global, Ordering, arith, IsKeyOrder, CountFault, Count, Kind, IsTaken, CountAnswer, CompareCountAnswers, of_first_counted, of_second_counted, ComparesCount, AreReadForCount, AreCompared, EncodeAnswers, ReadsCount, most_bytes, IsRead, EngineFault}
use Rattle.cborn_engine.proofs.Answers.{nothing_read}
use Rattle.cborn_engine.proofs.Comparison.Compared.{bytes_compared}
use Rattle.cborn_engine.proofs.CountAnswers.Answered.{taken}

-- ---- two inputs

module _ (count : Count) (order : List ℕ → List ℕ → Ordering) (laws : IsKeyOrder order) (k l : Kind) (limit : ℕ) (before after before2 after2 : Option (List ℕ)) where
  pub first_not_read : (why : CountFault) → ReadsCount count order k limit before after (Err why) → ComparesCount count k l limit before after before2 before2 (Err (of_first_counted why))
  first_not_read why h = record { first = h.input; second = []; taken = h.taken; taken2 = nothing_read before2; answer = answer why h.answer; to_end = at_end why h.to_end }
    where
      answer : (why : CountFault) → CountAnswer count k limit h.input (EncodeAnswers order k limit most_bytes h.input) (Err why) → CompareCountAnswers count k l limit h.input [] (Err (of_first_counted why))
      answer (CountFault.Engine EngineFault.OutOfMemory) a = let n : 0 ≤ most_bytes = omega arith in (a, n)
      answer (CountFault.Engine _) a = ((a, λ p. absurd cc), refl)
      answer _ a = ((a.0.1.0, (a.0.1.1.items, a.0.1.1.held), a.1), refl)

      at_end : (why : CountFault) → IsRead {A = Vec ℕ Global} CountFault.Engine (Err why) after → AreReadForCount (Err (of_first_counted why)) after before2
      at_end (CountFault.Engine EngineFault.OutOfMemory) e = tt
      at_end _ e = e

  taken_first : (bytes : Vec ℕ Global) (h : ReadsCount count order k limit before after (Ok bytes)) → IsTaken count k limit h.input
  taken_first bytes h = taken count k limit h.input h.answer.0.1.items h.answer.0.0 h.answer.0.1.held h.answer.1

  pub second_not_read : (bytes : Vec ℕ Global) (why : CountFault) → ReadsCount count order k limit before after (Ok bytes) → ReadsCount count order l limit before2 after2 (Err why) → ComparesCount count k l limit before after before2 after2 (Err (of_second_counted why))
  second_not_read bytes why g h = record { first = g.input; second = h.input; taken = g.taken; taken2 = h.taken; answer = answer why h.answer; to_end = at_end why h.to_end }
    where
      answer : (why : CountFault) → CountAnswer count l limit h.input (EncodeAnswers order l limit most_bytes h.input) (Err why) → CompareCountAnswers count k l limit g.input h.input (Err (of_second_counted why))
      answer (CountFault.Engine EngineFault.OutOfMemory) a = (g.answer.0.0, a)
      answer (CountFault.Engine _) a = (taken_first bytes g, (a, λ p. absurd cc))
      answer _ a = (taken_first bytes g, (a.0.1.0, (a.0.1.1.items, a.0.1.1.held), a.1))

      at_end : (why : CountFault) → IsRead {A = Vec ℕ Global} CountFault.Engine (Err why) after2 → AreReadForCount (Err (of_second_counted why)) after after2
      at_end (CountFault.Engine EngineFault.OutOfMemory) e = tt
      at_end _ e = (g.to_end, e)

  pub both_read : (ours theirs : Vec ℕ Global) (v w : List ℕ) (answer : Option ℕ) → (g : ReadsCount count order k limit before after (Ok ours)) → (h : ReadsCount count order l limit before2 after2 (Ok theirs)) → v ≡ ours.items → w ≡ theirs.items → AreCompared Kind.Wire Kind.Wire limit v w answer → ComparesCount count k l limit before after before2 after2 (Ok answer)
  both_read ours theirs v w answer g h e f c =
      let both = bytes_compared order laws k l limit g.input h.input ours.items theirs.items v w answer g.answer.0.0 h.answer.0.0 g.answer.0.1 h.answer.0.1 e f c in
      let theirs_taken = taken count l limit h.input h.answer.0.1.items h.answer.0.0 h.answer.0.1.held h.answer.1 in
      record { first = g.input; second = h.input; taken = g.taken; taken2 = h.taken; answer = (taken_first ours g, theirs_taken, both); to_end = (g.to_end, h.to_end) }
