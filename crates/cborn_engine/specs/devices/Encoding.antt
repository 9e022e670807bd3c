-- Devices: what reading an input, encoding what it holds and writing that out answers. No public contract cites them.
use Rattle.std.specs.Prelude.{◌≡◌, ◌≤◌}
use Rattle.cborn_engine.specs.Common.{ℕ, List, length, Option, Result, Ok, Err, Vec, AllZip, Global, Ordering, Means, PlacedAll, Value, Defect, DetSeq, SequenceDefect, FindsDefect, EngineFault, Profile, Kind, Shown, Tree, trees, FitsAll, spelled_all, Wellformed}
use Rattle.cborn_engine.specs.Holding.{Holds}
use Rattle.cborn_engine.specs.Refusing.{IsRefused}

-- the kind of input that is notation of this profile
abbrev pub kind_of : Profile → Kind
kind_of Profile.One = Kind.Notation
kind_of Profile.Two = Kind.Notation2

-- the text is the fixed notation of nodes that spell these bytes
pub record IsFixedText (bytes text : List ℕ) : Type 0 where
  pub nodes : List Tree
  pub fit : FitsAll (trees nodes)
  pub spelled : spelled_all (trees nodes) ≡ bytes
  pub shown : Shown (trees nodes) text

-- bytes as an output of a kind: themselves, or in the fixed notation
abbrev pub IsWrittenAs : Kind → List ℕ → List ℕ → Type 0
IsWrittenAs Kind.Wire bytes output = output ≡ bytes
IsWrittenAs _ bytes output = IsFixedText bytes output

-- the bytes are the deterministic encodings of the items that the input holds
pub record IsEncoded (order : List ℕ → List ℕ → Ordering) (k : Kind) (limit : ℕ) (input bytes : List ℕ) : Type 0 where
  pub items : List Value
  pub held : Holds k limit input items
  pub encoded : DetSeq order items bytes

abbrev pub EncodeAnswers : (List ℕ → List ℕ → Ordering) → Kind → ℕ → ℕ → List ℕ → Result (Vec ℕ Global) EngineFault → Type 0
EncodeAnswers order k limit most input (Ok bytes) = (length input ≤ most) × IsEncoded order k limit input bytes.items
EncodeAnswers order k limit most input (Err why) = IsRefused k limit most input why

-- the bytes are the deterministic encodings of the items that the input holds, and this is the first defect of its nodes, if they have one
pub record AreJudged (order : List ℕ → List ℕ → Ordering) (limit : ℕ) (input bytes : List ℕ) (defect : Option Defect) : Type 0 where
  pub nodes : List Tree
  pub items : List Value
  pub read : Wellformed limit (trees nodes) input
  pub placed : PlacedAll 0 (trees nodes)
  pub meant : AllZip Means nodes items
  pub encoded : DetSeq order items bytes
  pub found : FindsDefect (SequenceDefect order (trees nodes)) defect
