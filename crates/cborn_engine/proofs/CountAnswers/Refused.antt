-- A text that spells nodes is refused only where memory was.
use Rattle.std.specs.Prelude.{◌≡◌, ◌≤◌}
use Rattle.cborn_engine.proofs.Common.{ℕ, List, length, refl, Tree, EngineFault, Kind, Spells, IsNoFlaw, IsNoRefusal, IsRefusedWhole}
use Rattle.cborn_engine.proofs.Answers.{read_refused}
use Rattle.cborn_engine.proofs.Held.Known.{nodes_loaded}

pub refused_memory : (k : Kind) (limit most : ℕ) (x : List ℕ) (ns : List Tree) (why : EngineFault) → length x ≤ most → Spells k limit x ns → IsRefusedWhole k limit most x why → IsNoFlaw why → why ≡ EngineFault.OutOfMemory
refused_memory k limit most x ns why l h r f = memory why r (nodes_loaded k limit most x ns why l h (read_refused k limit most x why l r, f))
  where
    memory : (why : EngineFault) → IsRefusedWhole k limit most x why → IsNoRefusal why → why ≡ EngineFault.OutOfMemory
    memory EngineFault.OutOfMemory r n = refl
    memory EngineFault.ReadFault r n = absurd r
    memory _ r n = absurd n
