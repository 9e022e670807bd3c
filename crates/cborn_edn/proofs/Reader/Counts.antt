-- How many items or pairs a bracket has, and how many brackets are open.
use Rattle.std.specs.Prelude.{◌≡◌, ◌≤◌, ◌++◌, ◌∷◌}
use Rattle.cborn_edn.proofs.Common.{refl, ap, ℕ, suc, List, [], length, arith, length-append, count, count_entries, Comma, Colon, Profile, token, row, RowBefore, no_item, after_row, pairs, PairsBefore, no_pair, after_pairs, tokens_of, tokens_of_row, tokens_of_row_before, tokens_of_pairs, tokens_of_pairs_before, node, nodes_before, entries_before, Here, Writer, stack_of, stack_in, count_of, brackets_of, brackets_nest, brackets_home, Shows, Reached, Stack, in_row, in_key, in_value, in_tag, Nest, at_top, in_array, in_embed, Home, as_item, as_chunk, State, held_stack, held_home, held, levels, levels_nest, levels_home, open_levels, few}
use Rattle.cborn_edn.proofs.Reader.Rows.{count-snoc, count-snoc_entry}

few_before : (b : RowBefore) → count (nodes_before b) ≤ length (tokens_of_row_before b)
few_before no_item = omega arith
few_before (after_row (row b i) c) = omega (arith, few_before b, count-snoc (nodes_before b) (node i), length-append (tokens_of_row (row b i)) (token c Comma ∷ []), length-append (tokens_of_row_before b) (tokens_of i))

few_pairs : (b : PairsBefore) → count_entries (entries_before b) ≤ length (tokens_of_pairs_before b)
few_pairs no_pair = omega arith
few_pairs (after_pairs (pairs b k d v) c) = omega (arith, few_pairs b, count-snoc_entry (entries_before b) (node k) (node v), length-append (tokens_of_pairs (pairs b k d v)) (token c Comma ∷ []), length-append (tokens_of_pairs_before b) (tokens_of k ++ (token d Colon ∷ tokens_of v)))

few_in : (st : Stack) → count_of st ≤ length (held_stack st)
few_in st = grind (arith, few_before, few_pairs, length-append)

few_home : (h : Home) → count_of (stack_of h) ≤ length (held_home h)
few_home h = grind (arith, few_in, length-append)

few_held : (s : State) → count_of (stack_in s) ≤ length (held s)
few_held s = grind (arith, few_home, few_in, length-append)

-- no more items or pairs than bytes were read
pub shown_few : (profile : Profile) (limit : ℕ) (text : List ℕ) (here : Here) (w : Writer) (pieces : List ℕ) (s : State) → Reached profile limit text here.at s → Shows here w pieces s → here.count ≤ here.at
shown_few profile limit text here w pieces s r e = omega (arith, e.count, few_held s, ap length r.held, few profile text 0 here.at r.tokens r.between)

mutual
  stack_levels : (st : Stack) → length (brackets_of st) ≡ levels st
  stack_levels (in_row n b) = nest_levels n
  stack_levels (in_key st s m b) = ap suc (stack_levels st)
  stack_levels (in_value st s m b i c) = ap suc (stack_levels st)
  stack_levels (in_tag st s n m) = ap suc (stack_levels st)

  nest_levels : (n : Nest) → length (brackets_nest n) ≡ levels_nest n
  nest_levels at_top = refl
  nest_levels (in_array st s m) = ap suc (stack_levels st)
  nest_levels (in_embed h o s) = ap suc (home_levels h)

  home_levels : (h : Home) → length (brackets_home h) ≡ levels_home h
  home_levels (as_item st) = stack_levels st
  home_levels (as_chunk st s b) = stack_levels st

home_brackets : (h : Home) → length (brackets_of (stack_of h)) ≡ levels_home h
home_brackets h = grind (arith, stack_levels)

-- there are as many open brackets as levels
pub brackets_levels : (s : State) → length (brackets_of (stack_in s)) ≡ open_levels s
brackets_levels s = grind (arith, home_brackets, stack_levels)
