-- A device of the proofs: one token that the reader takes as the machine of tokens does. No definition cites it.
use Rattle.std.specs.Prelude.{◌≡◌, ℕ, ◌^◌, ◌<◌, List, Bool, true, false, Some, None}
use Rattle.cborn_edn.specs.Common.{Kind, Class, Colon, Comma, ArrayClose, MapClose, EmbedOpen, class_of, StandsFor, IsModest, Level, Phase, Has, WantsNumber, HasNumber, Here, Writer}
use Rattle.cborn_lex.specs.declared.classes.Kind.TheVariants as kinds
use Rattle.cborn_lex.specs.declared.classes.Class.TheVariants.{Text, Bytes}
use Rattle.cborn_edn.specs.devices.Syntax.{Span, Pieces}
use Rattle.cborn_edn.specs.devices.Machine.{Home, State, wants, has, builds, step_by}
use Rattle.cborn_edn.specs.declared.states.Level.TheVariants.{Outside, Array, Embedded, Key, Value, Tag}
use Rattle.cborn_edn.specs.devices.Shows.{Shows}
use Rattle.cborn_edn.specs.devices.Events.{Holds}
use Rattle.cborn_edn.specs.devices.Handed.{Reads}

-- the innermost bracket is of this kind
abbrev pub is_in : Level → Level → Bool
is_in Array Array = true
is_in Embedded Embedded = true
is_in Key Key = true
is_in Value Value = true
is_in Tag Tag = true
is_in _ _ = false

abbrev pub is_row : Level → Bool
is_row Array = true
is_row Embedded = true
is_row Outside = true
is_row _ = false

-- the innermost bracket is a map that may end in this phase
abbrev pub ends_map : Phase → Level → Bool
ends_map Has o = is_in Value o
ends_map _ o = is_in Key o

-- it is a map, or else an array, that may end in this phase
abbrev pub ends_sized : Bool → Phase → Level → Bool
ends_sized true p o = ends_map p o
ends_sized false p o = is_in Array o

abbrev pub sized_end : Bool → Class
sized_end true = MapClose
sized_end false = ArrayClose

abbrev pub separator_of : Bool → Class
separator_of true = Colon
separator_of false = Comma

-- an item is wanted, or was read last
abbrev pub MayEnd : State → Type 0
MayEnd (wants st) = Unit {0}
MayEnd (has st i) = Unit {0}
MayEnd _ = ⊥

-- a token of this kind was read, and its content appended to the pieces
pub record Ready (h : Holds) (kind : Kind) (number : ℕ) (here : Here) (writer : Writer) (s : State) (base : List ℕ) (c : Class) : Type 0 where
  pub stands : StandsFor kind number base writer.pieces.items c
  pub shows : Reads h here writer base s
  pub few : here.count < 2 ^ 63
  pub token : IsModest c

abbrev pub IsReady : Holds → Kind → ℕ → Here → Writer → State → Type 0
IsReady h kind number here writer s = (base : List ℕ) × ((c : Class) × Ready h kind number here writer s base c)

-- if ok is true, the machine goes on with the token; else it has no such token there
abbrev pub Turned : Bool → State → Class → Span → Here → Writer → Type 0
Turned true s c a here writer = (u : State) × (step_by s c a ≡ Some u) × Shows here writer writer.pieces.items u
Turned false s c a here writer = step_by s c a ≡ None

-- and the visitor was handed
abbrev pub Taken : Holds → Bool → State → Class → Span → Here → Writer → Type 0
Taken h true s c a here writer = (u : State) × (step_by s c a ≡ Some u) × Reads h here writer writer.pieces.items u
Taken h false s c a here writer = step_by s c a ≡ None

-- of a visitor that holds h before and k after
abbrev pub Takes : Holds → Holds → Kind → ℕ → ℕ → Here → Writer → Here → Writer → Bool → State → Type 0
Takes h k kind number place here writer next left ok s = (base : List ℕ) (c : Class) (a : Span) → place ≡ a.start → Ready h kind number here writer s base c → Taken k ok s c a next left

-- what taking a token that appends nothing does
abbrev pub Turns : Holds → Holds → Kind → ℕ → ℕ → Here → Writer → Here → Writer → Bool → State → Type 0
Turns h k kind number place here writer next left ok s = (c : Class) (x : List ℕ) (a : Span) → place ≡ a.start → c ≡ class_of kind number x → Reads h here writer writer.pieces.items s → Taken k ok s c a next left

-- the token begins no piece of a string
abbrev pub EndsPieces : Class → Type 0
EndsPieces (Text x m) = ⊥
EndsPieces (Bytes q x m) = ⊥
EndsPieces EmbedOpen = ⊥
EndsPieces _ = Unit {0}

abbrev pub EndsAt : Holds → Holds → Kind → ℕ → ℕ → Here → Writer → Here → Writer → Bool → Home → Pieces → Type 0
EndsAt h k kind number place here writer next left ok home ps = (c : Class) (x : List ℕ) (a : Span) → place ≡ a.start → c ≡ class_of kind number x → EndsPieces c → Reads h here writer writer.pieces.items (builds home ps) → Taken k ok (builds home ps) c a next left

-- the token is a piece of a string, or begins one
abbrev pub is_piece : Kind → Bool
is_piece (kinds.Text m) = true
is_piece (kinds.Bytes q m) = true
is_piece kinds.EmbedOpen = true
is_piece _ = false

-- no piece is allowed in this phase
abbrev pub takes_no_piece : Phase → Bool
takes_no_piece Has = true
takes_no_piece WantsNumber = true
takes_no_piece HasNumber = true
takes_no_piece _ = false
