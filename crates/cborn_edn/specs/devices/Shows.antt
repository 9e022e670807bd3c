-- A device of the proofs: what the reader keeps shows a state of the machine of tokens. No definition cites it.
use Rattle.std.specs.Prelude.{◌≡◌, ℕ, ◌+◌, List, length, Bool, true, false}
use Rattle.cborn_edn.specs.Common.{Mark, StringKind, OfBytes, OfText, Phase, Has, Here, Writer}
use Rattle.cborn_edn.specs.devices.Syntax.{Span, Piece, text, bytes, array, map, row, Content, loose, tight, pairs, Fields, loose_fields, tight_fields, no_item, no_pair}
use Rattle.cborn_edn.specs.devices.Machine.{first_error, Stack, in_row, in_key, in_value, Nest, in_array, State, wants, has, wants_number}
use Rattle.cborn_edn.specs.devices.Noted.{noted}
use Rattle.cborn_edn.specs.devices.Kept.{phase_of, stack_in, level_of, count_of, brackets_of, arounds_of, bytes_around, string_in, chunks_in, bytes_open}

-- the place of `simple(`
abbrev pub IsOpenAt : ℕ → State → Type 0
IsOpenAt place (wants_number st s) = place ≡ s.start
IsOpenAt place _ = Unit {0}

-- What the reader keeps shows the state s. The pieces are an argument of their own, since one is appended before it is taken.
pub record Shows (here : Here) (writer : Writer) (written : List ℕ) (s : State) : Type 0 where
  pub phase : here.phase ≡ phase_of s
  pub level : here.level ≡ level_of (stack_in s)
  pub count : here.count ≡ count_of (stack_in s)
  pub brackets : writer.brackets ≡ brackets_of (stack_in s)
  pub around : writer.around ≡ arounds_of (stack_in s)
  pub string : writer.string ≡ string_in s
  pub chunks : writer.chunks ≡ chunks_in s
  pub simple : IsOpenAt writer.simple s
  pub error : writer.error ≡ first_error (noted s)
  pub start : writer.start ≡ length (bytes_around (stack_in s))
  pub pieces : written ≡ bytes_open s

-- a text, or bytes, as a piece of a string
abbrev pub piece_of : StringKind → Span → Bool → List ℕ → Mark → Piece
piece_of OfText a q x m = text a x m
piece_of OfBytes a q x m = bytes a q x m

-- what is shown before the bracket that ends an array or a `<<` with this content
abbrev pub content_state : Nest → Content → State
content_state n (loose b) = wants (in_row n b)
content_state n (tight (row b i)) = has (in_row n b) i

-- what is shown before the bracket that ends a map with these pairs
abbrev pub fields_state : Stack → Span → Mark → Fields → State
fields_state st s m (loose_fields b) = wants (in_key st s m b)
fields_state st s m (tight_fields (pairs b k c v)) = has (in_value st s m b k c) v

-- what is open after the bracket that begins an array or a map
abbrev pub after_opening : Bool → Stack → Span → Mark → Stack
after_opening true st a m = in_key st a m no_pair
after_opening false st a m = in_row (in_array st a m) no_item

-- u has the array or the map that s has open, which ends with the bracket a
pub data Sized (a : Span) : State → State → Type 0 where
  of_array : (st : Stack) (s : Span) (m : Mark) (c : Content) → Sized a (content_state (in_array st s m) c) (has st (array s m c a))
  of_map : (st : Stack) (s : Span) (m : Mark) (f : Fields) → Sized a (fields_state st s m f) (has st (map s m f a))

-- how many items or pairs there are if n of them have a comma after them
abbrev pub entries_at : Phase → ℕ → ℕ
entries_at Has n = n + 1
entries_at _ n = n
