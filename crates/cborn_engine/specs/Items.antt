-- The items of bytes, one after another.
use Rattle.std.specs.Prelude.{◌≡◌, ◌+◌}
use Rattle.cborn_engine.specs.Common.{ℕ, List, length, drop, Tree, spelled, IsFirstItem}

-- What contracts see: the nesting limit, the bytes, and the offset at which the next item starts.
pub record Cutting : Type 0 where
  pub limit : ℕ
  pub input : List ℕ
  pub at : ℕ

-- The next item of c is given as it is spelled, and d goes on after it.
abbrev pub GivesItem : Cutting → Cutting → List ℕ → Type 0
GivesItem c d item = (d ≡ record c { at = c.at + length item }) × (t : Tree) × (item ≡ spelled t) × IsFirstItem c.limit c.at t (drop c.at c.input) (drop d.at c.input)
