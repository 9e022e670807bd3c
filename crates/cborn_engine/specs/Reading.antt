-- How long an input may be.
use Rattle.std.specs.Prelude.{◌^◌}
use Rattle.cborn_engine.specs.Common.{ℕ}

-- the length of the longest input
abbrev pub most_bytes : ℕ
most_bytes = 2 ^ 30
