-- A device of the proofs: a machine that takes one token after another and builds a tree, and the parser that it is with tests of the profile and the limit. No definition cites it.
use Rattle.std.specs.Prelude.{ℕ, zero, suc, ◌+◌, nat_le, List, [], ◌∷◌, ◌++◌, Bool, true, false, cond, Option, Some, None}
use Rattle.cborn_edn.specs.Common.{Profile, One as ProfileOne, Two as ProfileTwo, EdnReason, UnexpectedToken, UnexpectedEnd, TooDeep, Mark, Class, ArrayOpen, MapOpen, EmbedClose, ArrayClose, MapClose, ParenClose, Comma, Colon, EmbedOpen, ChunkOpen, SimpleOpen, Number, TagOpen, Word, Token}
pub use Rattle.cborn_edn.specs.devices.MeaningErrors.{first_error, lexical}
use Rattle.cborn_lex.specs.declared.classes.Class.TheVariants.{Text, Bytes}
use Rattle.cborn_edn.specs.devices.Commas.{last_comma, last_pair_comma}
use Rattle.cborn_edn.specs.devices.Syntax.{depth_of_number, Span, span, token, Input, nothing, items, tokens_of, tokens_of_pieces, tokens_of_strings_before, tokens_of_row_before, tokens_of_pairs_before, Item, number, word, tag, simple, string, chunked, array, map, Piece, text, bytes, embedded, Pieces, piece, also, strings, StringsBefore, no_string, after_strings, row, RowBefore, no_item, after_row, Content, loose, tight, pairs, PairsBefore, no_pair, after_pairs, loose_fields, tight_fields}

mutual
  -- all that is open where an item is wanted: the innermost bracket, which has what is open around it
  pub data Stack : Type 0 where
    in_row : Nest → RowBefore → Stack
    in_key : Stack → Span → Mark → PairsBefore → Stack
    in_value : Stack → Span → Mark → PairsBefore → Item → Span → Stack
    in_tag : Stack → Span → ℕ → Mark → Stack

  -- what a row of items is in: the whole text, an array or a `<<`
  pub data Nest : Type 0 where
    at_top : Nest
    in_array : Stack → Span → Mark → Nest
    in_embed : Home → Option Pieces → Span → Nest

  -- what a string is: an item, or a chunk
  pub data Home : Type 0 where
    as_item : Stack → Home
    as_chunk : Stack → Span → StringsBefore → Home

pub data State : Type 0 where
  wants : Stack → State
  has : Stack → Item → State
  builds : Home → Pieces → State
  wants_chunk : Stack → Span → StringsBefore → State
  wants_number : Stack → Span → State
  has_number : Stack → Span → Span → Bool → ℕ → Mark → State

abbrev pub start : State
start = wants (in_row at_top no_item)

abbrev pub with_piece : Option Pieces → Piece → Pieces
with_piece None p = piece p
with_piece (Some ps) p = also ps p

abbrev pub ends : Nest → Content → Class → Span → Option State
ends (in_array st s m) c ArrayClose a = Some (has st (array s m c a))
ends (in_embed h b s) c (EmbedClose m) a = Some (builds h (with_piece b (embedded s c a m)))
ends _ _ _ _ = None

abbrev pub ends_loose : Stack → Class → Span → Option State
ends_loose (in_row n b) c a = ends n (loose b) c a
ends_loose (in_key st s m b) MapClose a = Some (has st (map s m (loose_fields b) a))
ends_loose _ _ _ = None

abbrev pub begin : Stack → Class → Span → Option State
begin st (ArrayOpen m) a = Some (wants (in_row (in_array st a m) no_item))
begin st (MapOpen m) a = Some (wants (in_key st a m no_pair))
begin st EmbedOpen a = Some (wants (in_row (in_embed (as_item st) None a) no_item))
begin st ChunkOpen a = Some (wants_chunk st a no_string)
begin st SimpleOpen a = Some (wants_number st a)
begin st (Number n v m) a = Some (has st (number a n v m))
begin st (TagOpen n m) a = Some (wants (in_tag st a n m))
begin st (Word n) a = Some (has st (word a n))
begin st (Text x m) a = Some (builds (as_item st) (piece (text a x m)))
begin st (Bytes q x m) a = Some (builds (as_item st) (piece (bytes a q x m)))
begin st ArrayClose a = ends_loose st ArrayClose a
begin st MapClose a = ends_loose st MapClose a
begin st (EmbedClose m) a = ends_loose st (EmbedClose m) a
begin st ParenClose a = None
begin st Comma a = None
begin st Colon a = None

abbrev pub after : Stack → Item → Class → Span → Option State
after (in_row n b) i Comma a = Some (wants (in_row n (after_row (row b i) a)))
after (in_row n b) i c a = ends n (tight (row b i)) c a
after (in_key st s m b) k Colon a = Some (wants (in_value st s m b k a))
after (in_value st s m b k c) v Comma a = Some (wants (in_key st s m (after_pairs (pairs b k c v) a)))
after (in_value st s m b k c) v MapClose a = Some (has st (map s m (tight_fields (pairs b k c v)) a))
after (in_tag st s n m) i ParenClose a = Some (has st (tag s n m i a))
after _ _ _ _ = None

abbrev pub after_string : Home → Pieces → Class → Span → Option State
after_string (as_item st) ps c a = after st (string ps) c a
after_string (as_chunk st s b) ps Comma a = Some (wants_chunk st s (after_strings (strings b ps) a))
after_string (as_chunk st s b) ps ParenClose a = Some (has st (chunked s (strings b ps) a))
after_string _ _ _ _ = None

abbrev pub more_string : Home → Pieces → Class → Span → Option State
more_string h ps (Text x m) a = Some (builds h (also ps (text a x m)))
more_string h ps (Bytes q x m) a = Some (builds h (also ps (bytes a q x m)))
more_string h ps EmbedOpen a = Some (wants (in_row (in_embed h (Some ps) a) no_item))
more_string h ps c a = after_string h ps c a

abbrev pub begin_chunk : Stack → Span → StringsBefore → Class → Span → Option State
begin_chunk st s b (Text x m) a = Some (builds (as_chunk st s b) (piece (text a x m)))
begin_chunk st s b (Bytes q x m) a = Some (builds (as_chunk st s b) (piece (bytes a q x m)))
begin_chunk st s b EmbedOpen a = Some (wants (in_row (in_embed (as_chunk st s b) None a) no_item))
begin_chunk st s b _ a = None

abbrev pub begin_number : Stack → Span → Class → Span → Option State
begin_number st s (Number n v m) a = Some (has_number st s a n v m)
begin_number st s _ a = None

abbrev pub after_number : Stack → Span → Span → Bool → ℕ → Mark → Class → Span → Option State
after_number st s b n v m ParenClose a = Some (has st (simple s b n v m a))
after_number st s b n v m _ a = None

abbrev pub step_by : State → Class → Span → Option State
step_by (wants st) = begin st
step_by (has st i) = after st i
step_by (builds h ps) = more_string h ps
step_by (wants_chunk st s b) = begin_chunk st s b
step_by (wants_number st s) = begin_number st s
step_by (has_number st s b n v m) = after_number st s b n v m

abbrev pub step : State → Token → Option State
step s t = step_by s t.class (span t)

abbrev pub on : Option State → Token → Option State
on None t = None
on (Some s) t = step s t

abbrev pub run : List Token → Option State → Option State
run [] o = o
run (t ∷ ts) o = run ts (on o t)

abbrev pub at_home : Home → Option Pieces → State
at_home (as_item st) None = wants st
at_home (as_chunk st s b) None = wants_chunk st s b
at_home (as_item st) (Some ps) = builds (as_item st) ps
at_home (as_chunk st s b) (Some ps) = builds (as_chunk st s b) ps

-- the tree, if the text ends at this state
abbrev pub finish : State → Option Input
finish (wants (in_row at_top no_item)) = Some nothing
finish (has (in_row at_top b) i) = Some (items (row b i))
finish (builds (as_item (in_row at_top b)) ps) = Some (items (row b (string ps)))
finish _ = None

-- The tokens that the machine has taken.

abbrev pub tokens_before : Option Pieces → List Token
tokens_before None = []
tokens_before (Some ps) = tokens_of_pieces ps

abbrev mutual
  pub held_stack : Stack → List Token
  held_stack (in_row n b) = held_nest n ++ tokens_of_row_before b
  held_stack (in_key st s m b) = held_stack st ++ (token s (MapOpen m) ∷ tokens_of_pairs_before b)
  held_stack (in_value st s m b k c) = held_stack st ++ (token s (MapOpen m) ∷ (tokens_of_pairs_before b ++ (tokens_of k ++ (token c Colon ∷ []))))
  held_stack (in_tag st s n m) = held_stack st ++ (token s (TagOpen n m) ∷ [])

  pub held_nest : Nest → List Token
  held_nest at_top = []
  held_nest (in_array st s m) = held_stack st ++ (token s (ArrayOpen m) ∷ [])
  held_nest (in_embed h b s) = held_home h ++ (tokens_before b ++ (token s EmbedOpen ∷ []))

  pub held_home : Home → List Token
  held_home (as_item st) = held_stack st
  held_home (as_chunk st s b) = held_stack st ++ (token s ChunkOpen ∷ tokens_of_strings_before b)

abbrev pub held : State → List Token
held (wants st) = held_stack st
held (has st i) = held_stack st ++ tokens_of i
held (builds h ps) = held_home h ++ tokens_of_pieces ps
held (wants_chunk st s b) = held_stack st ++ (token s ChunkOpen ∷ tokens_of_strings_before b)
held (wants_number st s) = held_stack st ++ (token s SimpleOpen ∷ [])
held (has_number st s b n v m) = held_stack st ++ (token s SimpleOpen ∷ token b (Number n v m) ∷ [])

-- the nesting depth that a token needs inside k open brackets
abbrev pub reach : ℕ → Class → ℕ
reach k (ArrayOpen m) = suc k
reach k (MapOpen m) = suc k
reach k EmbedOpen = suc k
reach k (TagOpen n m) = suc k
reach k (Number n v m) = k + depth_of_number n v
reach k _ = 0

-- how many arrays, maps, tags and `<<` are open
abbrev mutual
  pub levels : Stack → ℕ
  levels (in_row n b) = levels_nest n
  levels (in_key st s m b) = suc (levels st)
  levels (in_value st s m b k c) = suc (levels st)
  levels (in_tag st s n m) = suc (levels st)

  pub levels_nest : Nest → ℕ
  levels_nest at_top = 0
  levels_nest (in_array st s m) = suc (levels st)
  levels_nest (in_embed h b s) = suc (levels_home h)

  pub levels_home : Home → ℕ
  levels_home (as_item st) = levels st
  levels_home (as_chunk st s b) = levels st

abbrev pub open_levels : State → ℕ
open_levels (wants st) = levels st
open_levels (has st i) = levels st
open_levels (builds h ps) = levels_home h
open_levels (wants_chunk st s b) = levels st
open_levels (wants_number st s) = levels st
open_levels (has_number st s b n v m) = levels st

-- 1 if a comma is the last of a row, or of pairs, else 0
abbrev pub row_comma : Stack → ℕ
row_comma (in_row n b) = last_comma b
row_comma _ = 0

abbrev pub pair_comma : Stack → ℕ
pair_comma (in_key st s m b) = last_pair_comma b
pair_comma _ = 0

-- 1 if the token is a closing bracket after a comma, else 0
abbrev pub comma_in : Stack → Class → ℕ
comma_in st ArrayClose = row_comma st
comma_in st (EmbedClose m) = row_comma st
comma_in st MapClose = pair_comma st
comma_in st _ = 0

abbrev pub comma_at : State → Class → ℕ
comma_at (wants st) c = comma_in st c
comma_at _ c = 0

-- The parser. Its tests look at the next token and at what is open alone.

pub data Answer : Type 0 where
  Whole : Input → Answer
  HasSyntaxError : ℕ → EdnReason → Answer

abbrev pub forbids : Profile → ℕ → Bool
forbids ProfileOne zero = false
forbids ProfileOne (suc n) = true
forbids ProfileTwo n = false

abbrev pub at_end : ℕ → Option Input → Answer
at_end end None = HasSyntaxError end UnexpectedEnd
at_end end (Some t) = Whole t

-- a step of the machine, if the profile allows it
abbrev pub checked : Profile → ℕ → State → Token → Option State → Option State
checked p limit s t None = None
checked p limit s t (Some u) = cond (forbids p (comma_at s t.class)) None (Some u)

abbrev pub parse : Profile → ℕ → ℕ → List Token → State → Answer
parse p limit end [] s = at_end end (finish s)
parse p limit end (t ∷ ts) s = elim (checked p limit s t (step s t)) [ None ↦ HasSyntaxError t.start UnexpectedToken | Some u ↦ cond (nat_le (reach (open_levels s) t.class) limit) (parse p limit end ts u) (HasSyntaxError t.start TooDeep) ]
