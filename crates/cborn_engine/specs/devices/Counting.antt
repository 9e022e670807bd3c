-- Devices: the count of failures after an answer, as a number. No public contract cites them.
use Rattle.cborn_engine.specs.Common.{ℕ, Result, Ok, Err, EngineFault}
use Rattle.cborn_engine.specs.Failures.{one_more}

abbrev pub read_failures_at : EngineFault → ℕ → ℕ
read_failures_at EngineFault.ReadFault n = one_more n
read_failures_at _ n = n

-- the reader's count: one more exactly at `ReadFault`
abbrev pub read_failures : {A : Type 0} → Result A EngineFault → ℕ → ℕ
read_failures (Ok a) n = n
read_failures (Err why) n = read_failures_at why n
