-- What a step of the machine adds to what it holds: its token, the depth that this needs, and the comma that may be before a bracket.
use Rattle.std.specs.Prelude.{◌+◌, ◌∷◌, ◌++◌}
use Rattle.cborn_edn.proofs.Common.{ℕ, [], Bool, append_assoc, append-nil, arith, max, Mark, Class, ChunkOpen, SimpleOpen, Number, Span, token, Item, Pieces, StringsBefore, tokens_of, tokens_of_pieces, tokens_of_strings_before, depth_of_number, depth, depth_of_pieces, depth_of_strings_before, commas, commas_of_pieces, commas_of_strings_before, reach, Stack, Home, State, wants, has, builds, wants_chunk, wants_number, has_number, ends_loose, begin, after_string, more_string, begin_chunk, begin_number, after_number, step_by, held_stack, held_home, held, levels, levels_home, open_levels, comma_in, comma_at}
use Rattle.cborn_edn.proofs.Grammar.Held.{after, deep_stack, deep_home, deep, commas_stack, commas_home, commas_held, levels-deep, After, Grows, after-is, ends_grow}

-- a token after a whole item
after_grows : (st : Stack) (i : Item) (e : Class) (a : Span) → After (after st i e a) (Grows (held_stack st ++ tokens_of i) (max (max (deep_stack st) (levels st + depth i)) (reach (levels st) e)) (commas_stack st + commas i + 0) (token a e))
after_grows st i e a = grind (arith, after-is, append_assoc, ends_grow)

after_string_grows : (h : Home) (ps : Pieces) (e : Class) (a : Span) → After (after_string h ps e a) (Grows (held_home h ++ tokens_of_pieces ps) (max (max (deep_home h) (levels_home h + depth_of_pieces ps)) (reach (levels_home h) e)) (commas_home h + commas_of_pieces ps + 0) (token a e))
after_string_grows h ps e a = grind (arith, after_grows, append_assoc)

-- a bracket after a comma, or after nothing
ends_loose_grow : (st : Stack) (e : Class) (a : Span) → After (ends_loose st e a) (Grows (held_stack st) (max (deep_stack st) (reach (levels st) e)) (commas_stack st + comma_in st e) (token a e))
ends_loose_grow st e a = grind (arith, after-is, append_assoc, ends_grow)

begin_grows : (st : Stack) (e : Class) (a : Span) → After (begin st e a) (Grows (held_stack st) (max (deep_stack st) (reach (levels st) e)) (commas_stack st + comma_in st e) (token a e))
begin_grows st e a = grind (arith, append-nil, ends_loose_grow, levels-deep)

builds_grows : (h : Home) (ps : Pieces) (e : Class) (a : Span) → After (more_string h ps e a) (Grows (held_home h ++ tokens_of_pieces ps) (max (max (deep_home h) (levels_home h + depth_of_pieces ps)) (reach (levels_home h) e)) (commas_home h + commas_of_pieces ps + 0) (token a e))
builds_grows h ps e a = grind (arith, after_string_grows, append-nil, append_assoc)

begin_chunk_grows : (st : Stack) (s : Span) (b : StringsBefore) (e : Class) (a : Span) → After (begin_chunk st s b e a) (Grows (held_stack st ++ (token s ChunkOpen ∷ tokens_of_strings_before b)) (max (max (deep_stack st) (levels st + depth_of_strings_before b)) (reach (levels st) e)) (commas_stack st + commas_of_strings_before b + 0) (token a e))
begin_chunk_grows st s b e a = grind (arith, append-nil, levels-deep)

begin_number_grows : (st : Stack) (s : Span) (e : Class) (a : Span) → After (begin_number st s e a) (Grows (held_stack st ++ (token s SimpleOpen ∷ [])) (max (deep_stack st) (reach (levels st) e)) (commas_stack st + 0) (token a e))
begin_number_grows st s e a = grind (arith, append_assoc)

after_number_grows : (st : Stack) (s b : Span) (n : Bool) (v : ℕ) (m : Mark) (e : Class) (a : Span) → After (after_number st s b n v m e a) (Grows (held_stack st ++ (token s SimpleOpen ∷ token b (Number n v m) ∷ [])) (max (max (deep_stack st) (levels st + depth_of_number n v)) (reach (levels st) e)) (commas_stack st + 0) (token a e))
after_number_grows st s b n v m e a = grind (arith, append_assoc)

-- What one step adds.
pub grows : (s : State) (e : Class) (a : Span) → After (step_by s e a) (Grows (held s) (max (deep s) (reach (open_levels s) e)) (commas_held s + comma_at s e) (token a e))
grows (wants st) e a = begin_grows st e a
grows (has st i) e a = after_grows st i e a
grows (builds h ps) e a = builds_grows h ps e a
grows (wants_chunk st s b) e a = begin_chunk_grows st s b e a
grows (wants_number st s) e a = begin_number_grows st s e a
grows (has_number st s b n v m) e a = after_number_grows st s b n v m e a
