-- A device of the proofs: nodes as a visitor is handed them.
use Rattle.std.specs.Prelude.{◌∷◌}
use Rattle.cborn_model.specs.Common.{ℕ, List, [], Option, Some, None, Size, Fixed, Endless, StringKind}
use Rattle.cborn_model.specs.declared.nodes.Chunk.{Chunk}
use Rattle.cborn_model.specs.Tree.{Tree}
use Rattle.cborn_model.specs.Partial.{string_tree}

-- keys and values in turn
abbrev pub flat : List (Tree × Tree) → List Tree
flat [] = []
flat (e ∷ es) = e.0 ∷ e.1 ∷ flat es

-- a chunk as a string
abbrev pub string_of : StringKind → Chunk → Tree
string_of k c = string_tree c.place k c.width c.bytes

-- the count that a head of this size announces for this many items or pairs
abbrev pub count_of : Size → ℕ → Option ℕ
count_of (Fixed w) n = Some n
count_of Endless n = None
