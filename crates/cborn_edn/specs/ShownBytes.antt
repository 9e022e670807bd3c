-- The fixed notation of what bytes hold (RFC 8949 section 8), or why they have none.
use Rattle.std.specs.Prelude.{ℕ, List}
use Rattle.cborn_model.specs.Placed.{PlacedAll}
use Rattle.cborn_edn.specs.Common.{Wellformed, Tree, trees}
use Rattle.cborn_wire.specs.Faults.{Fault}
use Rattle.cborn_edn.specs.Shown.{Shown, LowestBadText}
use Rattle.cborn_edn.specs.declared.shown_bytes.Notated.{Notated}
use Rattle.cborn_edn.specs.declared.shown_bytes.Notated.TheVariants.{Text, Malformed, NotUtf8}

-- the input spells nodes, none deeper than the limit, each with its offset, and the text is their fixed notation
pub record IsShownText (limit : ℕ) (input text : List ℕ) : Type 0 where
  pub nodes : List Tree
  pub read : Wellformed limit (trees nodes) input
  pub placed : PlacedAll 0 (trees nodes)
  pub shown : Shown (trees nodes) text

-- the input spells such nodes, and p is the lowest place of a text among them that isn't UTF-8
pub record IsUnshown (limit : ℕ) (input : List ℕ) (p : ℕ) : Type 0 where
  pub nodes : List Tree
  pub read : Wellformed limit (trees nodes) input
  pub placed : PlacedAll 0 (trees nodes)
  pub lowest : LowestBadText (trees nodes) p

abbrev pub Notates : ℕ → List ℕ → Notated → Type 0
Notates limit input (Text text) = IsShownText limit input text.items
Notates limit input (Malformed p r) = Fault limit input p r
Notates limit input (NotUtf8 p) = IsUnshown limit input p
