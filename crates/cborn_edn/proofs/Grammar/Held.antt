-- What the machine holds: the tokens that it took, how deep they went, and the commas before brackets.
use Rattle.std.specs.Prelude.{◌≡◌, ◌+◌, ◌≤◌, ◌∷◌, ◌++◌}
use Rattle.cborn_edn.proofs.Common.{refl, ℕ, suc, List, [], Option, Some, None, append_assoc, arith, max, Class, Token, Span, token, Piece, Pieces, Content, tokens_of_piece, tokens_of_pieces, tokens_of_content, depth_of_number, depth, depth_of_piece, depth_of_pieces, depth_of_strings_before, depth_of_row_before, depth_of_content, depth_of_pairs_before, commas, commas_of_piece, commas_of_pieces, commas_of_strings_before, commas_of_row_before, commas_of_content, commas_of_pairs_before, Stack, in_row, in_key, in_value, in_tag, Nest, at_top, in_array, in_embed, Home, as_item, as_chunk, State, wants, has, builds, wants_chunk, wants_number, has_number, with_piece, ends, reach}
pub use Rattle.cborn_edn.specs.devices.Machine.{tokens_before, held_stack, held_nest, held_home, held, levels, levels_nest, levels_home, open_levels, row_comma, pair_comma, comma_in, comma_at, Stack, Nest, Home, State, start, with_piece, ends, ends_loose, begin, after, after_string, more_string, begin_chunk, begin_number, after_number, step_by, step, on, run, in_row, in_key, in_value, in_tag, at_top, in_array, in_embed, as_item, as_chunk, wants, has, builds, wants_chunk, wants_number, has_number}

pub run-append : (x y : List Token) (o : Option State) → run (x ++ y) o ≡ run y (run x o)
run-append [] y o = refl
run-append (t ∷ x) y o = run-append x y (on o t)

pub run-none : (x : List Token) → run x None ≡ None
run-none [] = refl
run-none (t ∷ x) = run-none x

abbrev pub depth_before : Option Pieces → ℕ
depth_before None = 0
depth_before (Some ps) = depth_of_pieces ps

abbrev pub commas_before : Option Pieces → ℕ
commas_before None = 0
commas_before (Some ps) = commas_of_pieces ps

abbrev mutual
  pub deep_stack : Stack → ℕ
  deep_stack (in_row n b) = max (deep_nest n) (levels_nest n + depth_of_row_before b)
  deep_stack (in_key st s m b) = max (deep_stack st) (suc (levels st) + depth_of_pairs_before b)
  deep_stack (in_value st s m b k c) = max (deep_stack st) (suc (levels st) + max (depth_of_pairs_before b) (depth k))
  deep_stack (in_tag st s n m) = max (deep_stack st) (suc (levels st))

  pub deep_nest : Nest → ℕ
  deep_nest at_top = 0
  deep_nest (in_array st s m) = max (deep_stack st) (suc (levels st))
  deep_nest (in_embed h b s) = max (deep_home h) (max (levels_home h + depth_before b) (suc (levels_home h)))

  pub deep_home : Home → ℕ
  deep_home (as_item st) = deep_stack st
  deep_home (as_chunk st s b) = max (deep_stack st) (levels st + depth_of_strings_before b)

abbrev pub deep : State → ℕ
deep (wants st) = deep_stack st
deep (has st i) = max (deep_stack st) (levels st + depth i)
deep (builds h ps) = max (deep_home h) (levels_home h + depth_of_pieces ps)
deep (wants_chunk st s b) = max (deep_stack st) (levels st + depth_of_strings_before b)
deep (wants_number st s) = deep_stack st
deep (has_number st s b n v m) = max (deep_stack st) (levels st + depth_of_number n v)

abbrev mutual
  pub commas_stack : Stack → ℕ
  commas_stack (in_row n b) = commas_nest n + commas_of_row_before b
  commas_stack (in_key st s m b) = commas_stack st + commas_of_pairs_before b
  commas_stack (in_value st s m b k c) = commas_stack st + (commas_of_pairs_before b + commas k)
  commas_stack (in_tag st s n m) = commas_stack st

  pub commas_nest : Nest → ℕ
  commas_nest at_top = 0
  commas_nest (in_array st s m) = commas_stack st
  commas_nest (in_embed h b s) = commas_home h + commas_before b

  pub commas_home : Home → ℕ
  commas_home (as_item st) = commas_stack st
  commas_home (as_chunk st s b) = commas_stack st + commas_of_strings_before b

abbrev pub commas_held : State → ℕ
commas_held (wants st) = commas_stack st
commas_held (has st i) = commas_stack st + commas i
commas_held (builds h ps) = commas_home h + commas_of_pieces ps
commas_held (wants_chunk st s b) = commas_stack st + commas_of_strings_before b
commas_held (wants_number st s) = commas_stack st
commas_held (has_number st s b n v m) = commas_stack st

abbrev pub After : Option State → (State → Type 0) → Type 0
After None P = Unit {0}
After (Some s) P = P s

-- s is the state after x and the token
abbrev pub Grows : List Token → ℕ → ℕ → Token → State → Type 0
Grows x d n t s = (held s ≡ x ++ (t ∷ [])) × (deep s ≡ d) × (commas_held s ≡ n)

pub after-is : (o : Option State) (x y : List Token) (d e m n : ℕ) (t : Token) → x ≡ y → d ≡ e → m ≡ n → After o (Grows x d m t) → After o (Grows y e n t)
after-is o x y d e m n t h1 h2 h3 h4 = grind arith

pub with_piece-tokens : (b : Option Pieces) (p : Piece) → tokens_of_pieces (with_piece b p) ≡ tokens_before b ++ tokens_of_piece p
with_piece-tokens b p = grind arith

pub with_piece-depth : (b : Option Pieces) (p : Piece) → depth_of_pieces (with_piece b p) ≡ max (depth_before b) (depth_of_piece p)
with_piece-depth b p = grind arith

pub with_piece-commas : (b : Option Pieces) (p : Piece) → commas_of_pieces (with_piece b p) ≡ commas_before b + commas_of_piece p
with_piece-commas b p = grind arith

pub ends_grow : (n : Nest) (c : Content) (e : Class) (a : Span) → After (ends n c e a) (Grows (held_nest n ++ tokens_of_content c) (max (max (deep_nest n) (levels_nest n + depth_of_content c)) (reach (levels_nest n) e)) (commas_nest n + commas_of_content c) (token a e))
ends_grow n c e a = grind (arith, append_assoc, with_piece-commas, with_piece-depth, with_piece-tokens)

mutual
  pub levels-deep : (st : Stack) → levels st ≤ deep_stack st
  levels-deep (in_row n b) = omega (arith, levels_nest-deep n)
  levels-deep (in_key st s m b) = omega arith
  levels-deep (in_value st s m b k c) = omega arith
  levels-deep (in_tag st s n m) = omega arith

  pub levels_nest-deep : (n : Nest) → levels_nest n ≤ deep_nest n
  levels_nest-deep at_top = omega arith
  levels_nest-deep (in_array st s m) = omega arith
  levels_nest-deep (in_embed h b s) = omega arith
