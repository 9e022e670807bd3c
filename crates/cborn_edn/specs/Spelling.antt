-- What the reader gives: the bytes that the nodes of a text spell.
use Rattle.std.specs.Prelude.{◌≡◌, ℕ, List}
use Rattle.cborn_edn.specs.Common.{Trees, spelled_all, Profile}
use Rattle.cborn_edn.specs.Grammar.{Notates}

-- the text notates nodes, and the bytes are what they spell
pub record IsSpelling (profile : Profile) (limit : ℕ) (text bytes : List ℕ) : Type 0 where
  pub nodes : Trees
  pub notated : Notates profile limit text nodes
  pub spells : spelled_all nodes ≡ bytes
