-- A device of the proofs: what the reader keeps at a state of the machine of tokens. No definition cites it.
use Rattle.std.specs.Prelude.{ℕ, List, [], ◌∷◌, ◌++◌, length, Option, Some, None, if◌then◌else◌}
use Rattle.cborn_edn.specs.Common.{count, count_entries, spelled_all, Mark, Absent, StringKind, Level, Phase, OpenBracket, Joint, Chunks}
use Rattle.cborn_edn.specs.devices.Machine.{first_error, Stack, in_row, in_key, in_value, in_tag, Nest, at_top, in_array, in_embed, Home, as_item, as_chunk, State, wants, has, builds, wants_chunk, wants_number, has_number}
use Rattle.cborn_edn.specs.Says.{Str, is_nil}
use Rattle.cborn_edn.specs.devices.Syntax.{Piece, text, bytes, embedded, Pieces, piece, also, StringsBefore, no_string, after_strings, after_row, after_pairs}
use Rattle.cborn_edn.specs.devices.Said.{str, kind_in, nodes_before, nodes_in, entries_before, faults_in}
use Rattle.cborn_edn.specs.declared.states.Level.TheVariants as levels
use Rattle.cborn_edn.specs.declared.states.Phase.TheVariants as phases
use Rattle.cborn_edn.specs.declared.states.Around.{Around}
use Rattle.cborn_edn.specs.devices.Noted.{noted_home, pieces_noted}

abbrev pub stack_of : Home → Stack
stack_of (as_item st) = st
stack_of (as_chunk st s b) = st

-- the kind of the innermost open bracket
abbrev pub level_of : Stack → Level
level_of (in_row at_top b) = levels.Outside
level_of (in_row (in_array st s m) b) = levels.Array
level_of (in_row (in_embed h o s) b) = levels.Embedded
level_of (in_key st s m b) = levels.Key
level_of (in_value st s m b k c) = levels.Value
level_of (in_tag st s n m) = levels.Tag

-- how many items or pairs in it have a comma after them
abbrev pub count_of : Stack → ℕ
count_of (in_row n b) = count (nodes_before b)
count_of (in_key st s m b) = count_entries (entries_before b)
count_of (in_value st s m b k c) = count_entries (entries_before b)
count_of (in_tag st s n m) = 0

abbrev pub wanting : Stack → Phase
wanting (in_row n (after_row r c)) = phases.WantsMore
wanting (in_key st s m (after_pairs ps c)) = phases.WantsMore
wanting _ = phases.Wants

abbrev pub bracket : Stack → ℕ → Mark → OpenBracket
bracket st place m = record { place = place; count = count_of st; level = level_of st; mark = m }

-- The bytes of pieces, but none of an embedded piece with a meaning error.

abbrev pub piece_bytes : Piece → List ℕ
piece_bytes (text at x m) = x
piece_bytes (bytes at q x m) = x
piece_bytes (embedded at c end m) = if is_nil (faults_in c) then spelled_all (nodes_in c) else []

abbrev pub pieces_bytes : Pieces → List ℕ
pieces_bytes (piece p) = piece_bytes p
pieces_bytes (also ps p) = pieces_bytes ps ++ piece_bytes p

abbrev pub bytes_before : Option Pieces → List ℕ
bytes_before None = []
bytes_before (Some ps) = pieces_bytes ps

-- the bytes of the pieces of all strings that are open around
abbrev mutual
  pub bytes_around : Stack → List ℕ
  bytes_around (in_row n b) = bytes_around_nest n
  bytes_around (in_key st s m b) = bytes_around st
  bytes_around (in_value st s m b k c) = bytes_around st
  bytes_around (in_tag st s n m) = bytes_around st

  pub bytes_around_nest : Nest → List ℕ
  bytes_around_nest at_top = []
  bytes_around_nest (in_array st s m) = bytes_around st
  bytes_around_nest (in_embed h o s) = bytes_around_home h ++ bytes_before o

  pub bytes_around_home : Home → List ℕ
  bytes_around_home (as_item st) = bytes_around st
  bytes_around_home (as_chunk st s b) = bytes_around st

-- the pieces of a string so far
abbrev pub joint : Str → Joint
joint s = record { kind = s.kind; place = s.place; mark = s.mark; mark_place = s.mark_place; lone = s.lone; known = s.known }

abbrev pub string_at : Option Pieces → Option Joint
string_at None = None
string_at (Some ps) = Some (joint (str ps))

abbrev pub kind_before : StringsBefore → Option StringKind
kind_before no_string = None
kind_before (after_strings ss c) = Some (kind_in ss)

-- the kind of the first chunk, or k if there is none before
abbrev pub kind_or : Option StringKind → StringKind → StringKind
kind_or None k = k
kind_or (Some k) l = k

abbrev pub chunks_of : Home → Option Chunks
chunks_of (as_item st) = None
chunks_of (as_chunk st s b) = Some (record { place = s.start; kind = kind_before b })

abbrev pub around : Home → Option Pieces → Around
around h o = record { start = length (bytes_around_home h); string = string_at o; chunks = chunks_of h; error = first_error (noted_home h ++ pieces_noted o) }

-- the open brackets, the innermost first, each with what was kept around it
abbrev mutual
  pub brackets_of : Stack → List OpenBracket
  brackets_of (in_row n b) = brackets_nest n
  brackets_of (in_key st s m b) = bracket st s.start m ∷ brackets_of st
  brackets_of (in_value st s m b i c) = bracket st s.start m ∷ brackets_of st
  brackets_of (in_tag st s n m) = bracket st 0 Absent ∷ brackets_of st

  pub brackets_nest : Nest → List OpenBracket
  brackets_nest at_top = []
  brackets_nest (in_array st s m) = bracket st s.start m ∷ brackets_of st
  brackets_nest (in_embed h o s) = bracket (stack_of h) s.start Absent ∷ brackets_home h

  pub brackets_home : Home → List OpenBracket
  brackets_home (as_item st) = brackets_of st
  brackets_home (as_chunk st s b) = brackets_of st

-- what is kept around each open `<<`, the innermost first
abbrev mutual
  pub arounds_of : Stack → List Around
  arounds_of (in_row n b) = arounds_nest n
  arounds_of (in_key st s m b) = arounds_of st
  arounds_of (in_value st s m b i c) = arounds_of st
  arounds_of (in_tag st s n m) = arounds_of st

  pub arounds_nest : Nest → List Around
  arounds_nest at_top = []
  arounds_nest (in_array st s m) = arounds_of st
  arounds_nest (in_embed h o s) = around h o ∷ arounds_home h

  pub arounds_home : Home → List Around
  arounds_home (as_item st) = arounds_of st
  arounds_home (as_chunk st s b) = arounds_of st

abbrev pub phase_of : State → Phase
phase_of (wants st) = wanting st
phase_of (has st i) = phases.Has
phase_of (builds h ps) = phases.Builds
phase_of (wants_chunk st s b) = phases.WantsChunk
phase_of (wants_number st s) = phases.WantsNumber
phase_of (has_number st s b n v m) = phases.HasNumber

-- what is open at a state
abbrev pub stack_in : State → Stack
stack_in (wants st) = st
stack_in (has st i) = st
stack_in (builds h ps) = stack_of h
stack_in (wants_chunk st s b) = st
stack_in (wants_number st s) = st
stack_in (has_number st s b n v m) = st

abbrev pub string_in : State → Option Joint
string_in (builds h ps) = string_at (Some ps)
string_in _ = None

abbrev pub chunks_in : State → Option Chunks
chunks_in (builds h ps) = chunks_of h
chunks_in (wants_chunk st s b) = chunks_of (as_chunk st s b)
chunks_in _ = None

-- the bytes of the pieces of all strings that are open
abbrev pub bytes_open : State → List ℕ
bytes_open (builds h ps) = bytes_around_home h ++ pieces_bytes ps
bytes_open s = bytes_around (stack_in s)
