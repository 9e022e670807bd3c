-- What an input holds, and the canonical form of what it holds.
use Rattle.std.specs.Prelude.{◌≡◌}
use Rattle.cborn_engine.specs.Common.{ℕ, List, IsUtf8, Ordering, AllZip, Tree, trees, Wellformed, FitsAll, spelled_all, PlacedAll, Value, Same, Means, DetSeq, Profile, Notates, IsPlain, Kind}

-- the input is a text that notates these nodes
abbrev pub IsNotation : Profile → ℕ → List ℕ → List Tree → Type 0
IsNotation p limit input nodes = IsUtf8 input × Notates p limit input (trees nodes)

-- the input is the spelling of these nodes, none deeper than the limit; or it notates them
abbrev pub Spells : Kind → ℕ → List ℕ → List Tree → Type 0
Spells Kind.Wire limit input nodes = Wellformed limit (trees nodes) input
Spells Kind.Notation limit input nodes = IsNotation Profile.One limit input nodes
Spells Kind.Notation2 limit input nodes = IsNotation Profile.Two limit input nodes

-- it spells them, and each says where it is: in bytes one after another from the start, in a text where it is notated
abbrev pub SpellsInPlace : Kind → ℕ → List ℕ → List Tree → Type 0
SpellsInPlace Kind.Wire limit input nodes = Wellformed limit (trees nodes) input × PlacedAll 0 (trees nodes)
SpellsInPlace k limit input nodes = Spells k limit input nodes

-- the input holds these items: it spells nodes that mean them
pub record Holds (k : Kind) (limit : ℕ) (input : List ℕ) (items : List Value) : Type 0 where
  pub nodes : List Tree
  pub spelled : Spells k limit input nodes
  pub meant : AllZip Means nodes items

-- two inputs, of any kinds, hold items that are the same, one by one
pub record HoldSameItems (k l : Kind) (limit : ℕ) (x y : List ℕ) : Type 0 where
  pub ours : List Value
  pub theirs : List Value
  pub held : Holds k limit x ours
  pub held2 : Holds l limit y theirs
  pub same : AllZip Same ours theirs

-- the text is the notation of these bytes, which are deterministic encodings: that of nodes that spell them
pub record IsPlainText (bytes text : List ℕ) : Type 0 where
  pub nodes : List Tree
  pub fit : FitsAll (trees nodes)
  pub spelled : spelled_all (trees nodes) ≡ bytes
  pub plain : IsPlain (trees nodes) text

-- the canonical form of items under an order of keys: their deterministic encodings, one after another (RFC 8949 section 4.2), or the notation of these
abbrev pub Canon : (List ℕ → List ℕ → Ordering) → Kind → List Value → List ℕ → Type 0
Canon order Kind.Wire items w = DetSeq order items w
Canon order _ items w = (x : List ℕ) × DetSeq order items x × IsPlainText x w
