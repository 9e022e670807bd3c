-- The exit statuses of the program, and what keeps a task from being done.
use Rattle.std.specs.Borrow.{Bor}
use Rattle.std.specs.Prelude.{ℕ, List, ◌≡◌}
use Rattle.cborn_engine.specs.declared.EngineFault.TheVariants as fault
use Rattle.cborn_engine.specs.declared.CountFault.{CountFault}
use Rattle.cborn_engine.specs.declared.CountFault.TheVariants as counted
use Rattle.cborn_engine.specs.declared.CompareCountFault.TheVariants as compared
use Rattle.cborn.specs.declared.lines.Answer.{Answer}
use Rattle.cborn.specs.declared.lines.Answer.TheVariants as answer
use Rattle.cborn.specs.declared.lines.Trouble.{Trouble}
use Rattle.cborn.specs.declared.lines.Trouble.TheVariants as trouble

-- the status of an answer. 0: the inputs hold the same items, or the input is deterministic. 1: they don't, or it isn't.
abbrev pub status_of_answer : Answer → ℕ
status_of_answer answer.Same = 0
status_of_answer answer.Deterministic = 0
status_of_answer (answer.DifferentAt i) = 1
status_of_answer (answer.Defective d) = 1

-- the status of a fault. 4: a read or a write failed, or out of memory. 2: the input is refused, or holds another number of items than it has to.
abbrev pub status_of_fault : CountFault → ℕ
status_of_fault (counted.Engine fault.ReadFault) = 4
status_of_fault (counted.Engine fault.WriteFault) = 4
status_of_fault (counted.Engine fault.OutOfMemory) = 4
status_of_fault _ = 2

-- the status of what keeps a task from being done. 4 also where a file can't be opened.
abbrev pub status_of_trouble : Trouble → ℕ
status_of_trouble (trouble.Engine why) = status_of_fault why
status_of_trouble (trouble.Compare (compared.First why)) = status_of_fault why
status_of_trouble (trouble.Compare (compared.Second why)) = status_of_fault why
status_of_trouble (trouble.OfFile name why) = status_of_fault why
status_of_trouble _ = 4

-- an input is refused
abbrev pub IsRefusal : Trouble → Type 0
IsRefusal why = status_of_trouble why ≡ 2

-- The trouble with the file of this name, one of several: a fault of the engine is one of that file, but for a failed write.
abbrev pub of_file : Bor (List ℕ) → Trouble → Trouble
of_file name (trouble.Engine (counted.Engine fault.WriteFault)) = trouble.Engine (counted.Engine fault.WriteFault)
of_file name (trouble.Engine why) = trouble.OfFile name why
of_file name why = why
