-- What is counted of a reader or a writer.
use Rattle.cborn_engine.specs.Common.{ℕ}

pub record Counts (T : Type 0) : Type 0 where
  pub inner : T
  -- how many calls failed
  pub failed : ℕ
  -- how many reads were asked for
  pub asked : ℕ
  -- how many bytes were written since the last flush that didn't fail
  pub unflushed : ℕ
