-- A device of the proofs: a text that is read up to some place. No definition cites it.
use Rattle.cborn_edn.specs.declared.states.Level.TheVariants.{Outside}
use Rattle.cborn_edn.specs.Common.{Bor, IsUtf8, TokensBetween, Kind, Profile, One, Token, AreModest, trees, FitsAll, top, no_part, Level, Chunks, EdnReason, UnexpectedToken, TooDeep, Phase, Wants, WantsMore, Has, Builds, Here, Writer}
use Rattle.std.specs.Prelude.{◌≡◌, ◌⊎◌, ℕ, ◌^◌, ◌<◌, ◌≤◌, List, [], ◌∷◌, ◌++◌, length, Bool, true, false, not, is_some, Option, Some, None}
use Rattle.cborn_lex.specs.declared.classes.Kind.TheVariants as kinds
use Rattle.cborn_edn.specs.devices.Syntax.{Item, Pieces, string, RowBefore, row, Input, nothing, items}
use Rattle.cborn_edn.specs.devices.Machine.{first_error, in_row, at_top, as_item, State, has, builds, start, held, parse}
use Rattle.cborn_edn.specs.devices.Said.{nodes_of_input, faults_of_input}
use Rattle.cborn_edn.specs.declared.states.Source.{Source}
use Rattle.cborn_edn.specs.devices.TreesCode.{listed_trees}
use Rattle.cborn_edn.specs.devices.Events.{Holds}
use Rattle.cborn_edn.specs.devices.Handed.{Reads}

abbrev pub is_closing : Kind → Bool
is_closing kinds.ArrayClose = true
is_closing kinds.MapClose = true
is_closing (kinds.EmbedClose m) = true
is_closing _ = false

-- the token is a bracket that ends after a comma, which profile 1 doesn't allow
abbrev pub is_trailing_comma : Profile → Phase → Kind → Bool
is_trailing_comma One WantsMore k = is_closing k
is_trailing_comma _ _ k = false

-- the tokens of the text up to an offset lead to a state
pub record Reached (profile : Profile) (limit : ℕ) (text : List ℕ) (at : ℕ) (s : State) : Type 0 where
  pub tokens : List Token
  pub between : TokensBetween profile text 0 at tokens
  pub modest : AreModest tokens
  pub held : held s ≡ tokens
  pub runs : (t : Token) (stop : ℕ) → TokensBetween profile text at stop (t ∷ []) → (more : List Token) (end : ℕ) → parse profile limit end (tokens ++ (t ∷ more)) start ≡ parse profile limit end (t ∷ more) s
  pub stops : (end : ℕ) → parse profile limit end tokens start ≡ parse profile limit end [] s

-- the reader is at an offset of the text, and what it keeps shows the state there
pub record IsReadTo (h : Holds) (profile : Profile) (limit : ℕ) (text : List ℕ) (here : Here) (writer : Writer) : Type 0 where
  pub utf8 : IsUtf8 text
  pub small : length text < 2 ^ 63
  pub inside : here.at ≤ length text
  pub state : State
  pub reached : Reached profile limit text here.at state
  pub shows : Reads h here writer writer.pieces.items state

abbrev pub of_text : ℕ → Profile → Bor (List ℕ) → Source
of_text limit profile text = record { limit = limit; profile = profile; text = text }

abbrev pub IsReading : Holds → Source → Here → Writer → Type 0
IsReading h source here writer = IsReadTo h source.profile source.limit source.text.now here writer

-- and the text goes on
abbrev pub IsInside : Holds → Source → Here → Writer → Type 0
IsInside h source here writer = IsReading h source here writer × (here.at < length source.text.now)

-- and an item is wanted
abbrev pub IsWanting : Holds → Source → Here → Writer → Type 0
IsWanting h source here writer = IsReading h source here writer × (here.at < length source.text.now) × ((here.phase ≡ Wants) ⊎ (here.phase ≡ WantsMore))

-- the reader went on if ok is true; else it may have stayed where it was
abbrev pub Goes : Holds → Source → Here → Here → Writer → Bool → Type 0
Goes h source was here writer ok = IsReading h source here writer × (was.at ≤ here.at) × (ok ≡ true → was.at < here.at)

-- why no text goes on with a token, if none does
abbrev pub Judged : Bool → Bool → ℕ → ℕ → Option EdnReason → Type 0
Judged trailing taken reach limit None = (trailing ≡ false) × (taken ≡ true) × (reach ≤ limit)
Judged trailing taken reach limit (Some UnexpectedToken) = (trailing ≡ true) ⊎ (taken ≡ false)
Judged trailing taken reach limit (Some TooDeep) = (trailing ≡ false) × (taken ≡ true) × (limit < reach)
Judged trailing taken reach limit (Some _) = ⊥

-- a text may end in this phase
abbrev pub may_end : Phase → Level → Option Chunks → Bool
may_end Wants Outside cs = true
may_end Has Outside cs = true
may_end Builds Outside cs = not (is_some cs)
may_end _ _ cs = false

abbrev pub ends_string : Phase → Bool
ends_string Builds = true
ends_string _ = false

-- the states at which a text may end, each with its tree
pub data Last : State → Input → Type 0 where
  empty : Last start nothing
  item : (b : RowBefore) (i : Item) → Last (has (in_row at_top b) i) (items (row b i))
  pieces : (b : RowBefore) (ps : Pieces) → Last (builds (as_item (in_row at_top b)) ps) (items (row b (string ps)))

-- what is kept and held at the end of a text with this tree
pub record AtEnd (h : Holds) (t : Input) (writer : Writer) : Type 0 where
  pub error : writer.error ≡ first_error (faults_of_input t)
  pub held : faults_of_input t ≡ [] → h (top (listed_trees (nodes_of_input t))) no_part × FitsAll (trees (listed_trees (nodes_of_input t)))
