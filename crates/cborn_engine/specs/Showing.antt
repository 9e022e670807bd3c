-- What showing an input answers.
use Rattle.std.specs.Prelude.{◌≡◌, ◌≤◌}
use Rattle.cborn_engine.specs.Common.{ℕ, List, length, Option, Result, Ok, Err, Tree, trees, spelled_all, ShowFault, Shown, IsShowFault, EngineFault, Kind}
use Rattle.cborn_engine.specs.Holding.{Spells, SpellsInPlace}
use Rattle.cborn_engine.specs.Loading.{IsNoFlaw}
use Rattle.cborn_engine.specs.Refusing.{IsRefused}
use Rattle.cborn_engine.specs.Streams.{Writes}

-- the nodes as they are spelled, or their fixed notation
abbrev pub IsSpelledAs : Kind → List Tree → List ℕ → Type 0
IsSpelledAs Kind.Wire nodes output = output ≡ spelled_all (trees nodes)
IsSpelledAs Kind.Notation nodes output = Shown (trees nodes) output
IsSpelledAs Kind.Notation2 nodes output = Shown (trees nodes) output

-- why nodes aren't shown: a text string of theirs isn't UTF-8
abbrev pub HasNoNotation : List Tree → ShowFault → Type 0
HasNoNotation nodes (ShowFault.NotUtf8 p) = IsShowFault (trees nodes) (ShowFault.NotUtf8 p)
HasNoNotation nodes ShowFault.OutOfMemory = ⊥

abbrev pub IsUnshownAs : Kind → List Tree → ShowFault → Type 0
IsUnshownAs Kind.Wire nodes why = ⊥
IsUnshownAs Kind.Notation nodes why = HasNoNotation nodes why
IsUnshownAs Kind.Notation2 nodes why = HasNoNotation nodes why

-- the input spells nodes that aren't shown
pub record IsUnshowable (k out : Kind) (limit : ℕ) (input : List ℕ) (why : ShowFault) : Type 0 where
  pub nodes : List Tree
  pub spelled : SpellsInPlace k limit input nodes
  pub unshown : IsUnshownAs out nodes why

-- the output spells the nodes that the input spells
pub record IsShown (k out : Kind) (limit : ℕ) (input output : List ℕ) : Type 0 where
  pub nodes : List Tree
  pub spelled : Spells k limit input nodes
  pub shown : IsSpelledAs out nodes output

-- input and output spell the same bytes
pub record SpellSameBytes (k out : Kind) (limit : ℕ) (input output : List ℕ) : Type 0 where
  pub bytes : List ℕ
  pub read : IsShown k Kind.Wire limit input bytes
  pub written : IsShown out Kind.Wire limit output bytes

-- what writing this input in another form answers: the output, or why there is none
abbrev pub ShowAnswers : Kind → Kind → ℕ → ℕ → List ℕ → Result (List ℕ) EngineFault → Type 0
ShowAnswers k out limit most input (Ok output) = (length input ≤ most) × IsShown k out limit input output
ShowAnswers k out limit most input (Err (EngineFault.Show why)) = (length input ≤ most) × IsUnshowable k out limit input why
ShowAnswers k out limit most input (Err why) = IsRefused k limit most input why × IsNoFlaw why

-- some input was taken from the reader, and this went out
abbrev pub Shows : Kind → Kind → ℕ → ℕ → Option (List ℕ) → Option (List ℕ) → Option (List ℕ) → Option (List ℕ) → Result Unit EngineFault → Type 0
Shows k out limit most = Writes (λ why. why) (ShowAnswers k out limit most)
