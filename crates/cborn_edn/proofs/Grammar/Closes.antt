-- All that the machine has open can be closed, and that takes no more depth and no more commas before brackets.
use Rattle.std.specs.Prelude.{◌≡◌, ◌+◌, ◌≤◌, ◌∷◌, ◌++◌}
use Rattle.cborn_edn.proofs.Common.{refl, ap, ◌∙◌, sym, ℕ, List, [], false, append_assoc, append-nil, arith, max, EmbedClose, ArrayClose, MapClose, ParenClose, Colon, Number, Text, Token, Absent, token, Item, tag, simple, string, chunked, array, text, embedded, Pieces, piece, strings, Row, row, tight, pairs, tight_fields, Input, items, tokens_of, tokens_of_pieces, tokens_of_row, tokens_of_input, depth, depth_of_pieces, depth_of_row, depth_of_input, commas, commas_of_pieces, commas_of_row, commas_of_input, Stack, in_row, in_key, in_value, in_tag, Nest, at_top, in_array, in_embed, Home, as_item, as_chunk, State, wants, has, builds, wants_chunk, wants_number, has_number, with_piece, held_stack, held_nest, held_home, held, levels, levels_nest, levels_home, nowhere, map_item as map}
use Rattle.cborn_edn.proofs.Grammar.Held.{deep_stack, deep_nest, deep_home, deep, commas_stack, commas_nest, commas_home, commas_held, levels-deep, with_piece-tokens, with_piece-depth, with_piece-commas}

-- The state can be closed, with no more depth and no more commas before brackets.
abbrev pub Closed : List Token → ℕ → ℕ → Type 0
Closed x d n = (more : List Token) × (tree : Input) × (tokens_of_input tree ≡ x ++ more) × (depth_of_input tree ≤ d) × (commas_of_input tree ≤ n)

extend : (x y z : List Token) (d e m n : ℕ) → z ≡ x ++ y → e ≤ d → m ≤ n → Closed z e m → Closed x d n
extend x y z d e m n p q r c = (y ++ c.0, c.1, c.2 ∙ ap (λ l. l ++ c.0) p ∙ append_assoc x y c.0, omega (arith, c.3), omega (arith, c.4))

abbrev empty : Pieces
empty = piece (text nowhere [] Absent)

mutual
  pub closes_item : (st : Stack) (i : Item) → Closed (held_stack st ++ tokens_of i) (max (deep_stack st) (levels st + depth i)) (commas_stack st + commas i)
  closes_item (in_row n b) i = extend _ [] _ _ _ _ _ (simp (append-nil, append_assoc)) (omega arith) (omega arith) (closes_row n (row b i))
  closes_item (in_key st s m b) k =
      let v = map s m (tight_fields (pairs b k nowhere (string empty))) nowhere in
      extend _ (token nowhere Colon ∷ token nowhere (Text [] Absent) ∷ token nowhere MapClose ∷ []) _ _ _ _ _ (simp append_assoc) (omega arith) (omega arith) (closes_item st v)
  closes_item (in_value st s m b k c) i =
      extend _ (token nowhere MapClose ∷ []) _ _ _ _ _ (simp append_assoc) (omega arith) (omega arith) (closes_item st (map s m (tight_fields (pairs b k c i)) nowhere))
  closes_item (in_tag st s n m) i = extend _ (token nowhere ParenClose ∷ []) _ _ _ _ _ (simp append_assoc) (omega arith) (omega arith) (closes_item st (tag s n m i nowhere))

  pub closes_row : (n : Nest) (r : Row) → Closed (held_nest n ++ tokens_of_row r) (max (deep_nest n) (levels_nest n + depth_of_row r)) (commas_nest n + commas_of_row r)
  closes_row at_top r = ([], items r, sym (append-nil _), omega arith, omega arith)
  closes_row (in_array st s m) r = extend _ (token nowhere ArrayClose ∷ []) _ _ _ _ _ (simp append_assoc) (omega arith) (omega arith) (closes_item st (array s m (tight r) nowhere))
  closes_row (in_embed h b s) r =
      let p = embedded s (tight r) nowhere Absent in
      extend _ (token nowhere (EmbedClose Absent) ∷ []) _ _ _ _ _ (ap (λ l. held_home h ++ l) (with_piece-tokens b p) ∙ simp append_assoc) (omega (arith, with_piece-depth b p)) (omega (arith, with_piece-commas b p)) (closes_string h (with_piece b p))

  pub closes_string : (h : Home) (ps : Pieces) → Closed (held_home h ++ tokens_of_pieces ps) (max (deep_home h) (levels_home h + depth_of_pieces ps)) (commas_home h + commas_of_pieces ps)
  closes_string (as_item st) ps = closes_item st (string ps)
  closes_string (as_chunk st s b) ps = extend _ (token nowhere ParenClose ∷ []) _ _ _ _ _ (simp append_assoc) (omega arith) (omega arith) (closes_item st (chunked s (strings b ps) nowhere))

pub closes : (s : State) → Closed (held s) (deep s) (commas_held s)
closes (wants st) = extend _ (token nowhere (Text [] Absent) ∷ []) _ _ _ _ _ refl (omega (arith, levels-deep st)) (omega arith) (closes_item st (string empty))
closes (has st i) = closes_item st i
closes (builds h ps) = closes_string h ps
closes (wants_chunk st s b) = extend _ (token nowhere (Text [] Absent) ∷ []) _ _ _ _ _ refl (omega (arith, levels-deep st)) (omega arith) (closes_string (as_chunk st s b) empty)
closes (wants_number st s) = extend _ (token nowhere (Number false 0 Absent) ∷ token nowhere ParenClose ∷ []) _ _ _ _ _ (simp append_assoc) (omega (arith, levels-deep st)) (omega arith) (closes_item st (simple s nowhere false 0 Absent nowhere))
closes (has_number st s b n v m) = extend _ (token nowhere ParenClose ∷ []) _ _ _ _ _ (simp append_assoc) (omega arith) (omega arith) (closes_item st (simple s b n v m nowhere))
