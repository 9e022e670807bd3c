-- A device of the proofs: what was handed over at a state of the machine of tokens. The visitor is handed what is outside of `<<..>>`. No definition cites it.
use Rattle.std.specs.Prelude.{◌≡◌, ℕ, List, [], ◌∷◌, ◌++◌, map, ◌&&◌, Some, None, if◌then◌else◌}
use Rattle.cborn_edn.specs.Common.{Direct, Size, Fixed, Endless as EndlessSize, Tree, Simple, Entries, no_entry, entry, an_array, a_map, a_tag, in_chunks, Partial, top, inside, no_part, put, Speller, Mark, Absent, Wide, Event, String, FirstChunk, NoChunks, Joint, Chunks, Here, Writer}
use Rattle.cborn_model.specs.shared.Walks.{string_of}
use Rattle.cborn_wire.specs.shared.Spelling.{IsWritten}
use Rattle.cborn_lex.specs.declared.classes.Mark.TheVariants.{Endless}
use Rattle.cborn_edn.specs.Says.{width, is_endless}
use Rattle.cborn_edn.specs.devices.TreesCode.{listed_trees}
use Rattle.cborn_edn.specs.devices.Syntax.{StringsBefore, no_string, after_strings}
use Rattle.cborn_edn.specs.devices.Machine.{Stack, in_row, in_key, in_value, in_tag, Nest, at_top, in_array, in_embed, Home, as_item, as_chunk, State, wants, has, builds, wants_chunk, wants_number, has_number, at_home}
use Rattle.cborn_edn.specs.devices.Said.{node, kind_in, chunks, nodes_before, entries_before}
use Rattle.cborn_edn.specs.devices.Noted.{noted}
use Rattle.cborn_edn.specs.devices.Kept.{stack_in}
use Rattle.cborn_edn.specs.devices.Shows.{Shows}
use Rattle.cborn_edn.specs.devices.Events.{Holds, FitsSoFar, Comes, after, Follows}

-- keys and values in turn
abbrev pub listed_entries : Entries → List Tree
listed_entries no_entry = []
listed_entries (entry k v es) = k ∷ v ∷ listed_entries es

-- the size of an array or a map whose number of items or pairs isn't known yet
abbrev pub size_asked : Mark → Size
size_asked Absent = Fixed Direct
size_asked Endless = EndlessSize
size_asked (Wide w) = Fixed w

-- the states before each open `<<`, the innermost first
abbrev mutual
  pub states_around : Stack → List State
  states_around (in_row n b) = states_around_nest n
  states_around (in_key st s m b) = states_around st
  states_around (in_value st s m b k c) = states_around st
  states_around (in_tag st s n m) = states_around st

  pub states_around_nest : Nest → List State
  states_around_nest at_top = []
  states_around_nest (in_array st s m) = states_around st
  states_around_nest (in_embed h o s) = at_home h o ∷ states_around_home h

  pub states_around_home : Home → List State
  states_around_home (as_item st) = states_around st
  states_around_home (as_chunk st s b) = states_around st

-- The partial sequence at a state, since the innermost open `<<`.

abbrev pub chunks_front : Partial → ℕ → StringsBefore → Partial
chunks_front f p no_string = f
chunks_front f p (after_strings ss c) = inside f (in_chunks p (kind_in ss)) (map (string_of (kind_in ss)) (chunks ss))

abbrev mutual
  pub front_of : Stack → Partial
  front_of (in_row n b) = row_front n (listed_trees (nodes_before b))
  front_of (in_key st s m b) = inside (front_of st) (a_map s.start (size_asked m) None) (listed_entries (entries_before b))
  front_of (in_value st s m b k c) = inside (front_of st) (a_map s.start (size_asked m) None) (listed_entries (entries_before b) ++ node k ∷ [])
  front_of (in_tag st s n m) = inside (front_of st) (a_tag s.start (width m n) n) []

  pub row_front : Nest → List Tree → Partial
  row_front at_top ts = top ts
  row_front (in_array st s m) ts = inside (front_of st) (an_array s.start (size_asked m) None) ts
  row_front (in_embed h o s) ts = top ts

abbrev pub home_front : Home → Partial
home_front (as_item st) = front_of st
home_front (as_chunk st s b) = chunks_front (front_of st) s.start b

abbrev pub front : State → Partial
front (wants st) = front_of st
front (has st i) = put (front_of st) (node i)
front (builds h ps) = home_front h
front (wants_chunk st s b) = home_front (as_chunk st s b)
front (wants_number st s) = front_of st
front (has_number st s b n v m) = put (front_of st) (Simple s.start v)

-- if there is no meaning error since the innermost open `<<`, a visitor holds what is whole, and it fits
abbrev pub Handed : Holds → State → Type 0
Handed h s = noted s ≡ [] → h (front s) no_part × FitsSoFar (front s)

-- what was handed over at a state, and at the states around it: to the spellers of the open `<<`, and to the visitor outside of them
abbrev pub AllHanded : Holds → List Speller → List State → Type 0
AllHanded h [] (s ∷ []) = Handed h s
AllHanded h (p ∷ ps) (s ∷ ss) = Handed (IsWritten p) s × AllHanded h ps ss
AllHanded h _ _ = ⊥

-- what was handed over since the innermost open `<<`, to its speller
abbrev pub IsSpelled : List Speller → State → Type 0
IsSpelled [] s = ⊥
IsSpelled (p ∷ ps) s = Handed (IsWritten p) s

-- What the reader keeps shows the state s, and so does what was handed over.
pub record Reads (h : Holds) (here : Here) (writer : Writer) (written : List ℕ) (s : State) : Type 0 where
  pub shows : Shows here writer written s
  pub handed : AllHanded h writer.spellers (s ∷ states_around (stack_in s))

-- if there is no meaning error at u, there is none at s, and the event leads from what is whole there to what is whole at u
abbrev pub Hands : Event → ℕ → List ℕ → State → State → Type 0
Hands event p x s u = noted u ≡ [] → (noted s ≡ []) × Comes event (front s) × (after event p x (front s) ≡ front u)

-- the innermost speller takes an event, and those around it stay
abbrev pub InnermostFollows : Event → ℕ → List ℕ → List Speller → List Speller → Type 0
InnermostFollows event place x old new = (p : Speller) (ps : List Speller) → old ≡ p ∷ ps → (q : Speller) × (new ≡ q ∷ ps) × Follows event place x (IsWritten p) (IsWritten q)

-- the event of a whole string that is an item, with a content of n bytes
abbrev pub string_event : Joint → ℕ → Event
string_event j n = if j.lone && is_endless j.mark then NoChunks j.kind else String j.kind (width j.mark n)

-- the event of a chunk, which may be the first
abbrev pub chunk_event : Chunks → Joint → ℕ → Event
chunk_event c j n = elim c.kind [ None ↦ FirstChunk c.place j.kind (width j.mark n) | Some k ↦ String j.kind (width j.mark n) ]
