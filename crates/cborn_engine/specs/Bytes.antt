-- What bytes hold. Who reads and writes bytes alone needs no other definition of this crate.
use Rattle.std.specs.Prelude.{◌≡◌}
use Rattle.cborn_engine.specs.Common.{ℕ, List, Trees, FitsAll, spelled_all, Values, AllMean}

-- the bytes hold these items: they are the spelling of nodes that mean them, however deep
pub record BytesHold (bytes : List ℕ) (items : Values) : Type 0 where
  pub nodes : Trees
  pub fit : FitsAll nodes
  pub spelled : spelled_all nodes ≡ bytes
  pub meant : AllMean nodes items
