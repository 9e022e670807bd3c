-- The machine takes the tokens of a tree, and then holds that tree.
use Rattle.std.specs.Prelude.{◌≡◌, ◌∷◌, ◌++◌}
use Rattle.cborn_edn.proofs.Common.{arith, refl, ap, ◌∙◌, ℕ, List, Bool, Option, Some, None, append_assoc, Mark, Class, ArrayOpen, MapOpen, EmbedClose, ArrayClose, MapClose, ParenClose, Comma, Colon, EmbedOpen, ChunkOpen, TagOpen, Text, Bytes, Token, Span, token, Item, number, word, tag, simple, string, chunked, array, Piece, text, bytes, embedded, Pieces, piece, also, Strings, strings, StringsBefore, no_string, after_strings, Row, row, RowBefore, no_item, after_row, Content, loose, tight, pairs, PairsBefore, no_pair, after_pairs, Fields, loose_fields, tight_fields, Input, items, tokens_of, tokens_of_piece, tokens_of_pieces, tokens_of_strings, tokens_of_strings_before, tokens_of_row, tokens_of_row_before, tokens_of_content, tokens_of_pairs, tokens_of_pairs_before, tokens_of_fields, tokens_of_input, Stack, in_row, in_key, in_value, in_tag, Nest, at_top, in_array, in_embed, Home, as_item, as_chunk, State, wants, has, builds, wants_chunk, start, with_piece, ends, step_by, run, EndsPieces, map_item as map}
use Rattle.cborn_edn.specs.devices.Syntax.{Pairs, nothing}
use Rattle.cborn_edn.proofs.Grammar.Held.{after}
pub use Rattle.cborn_edn.specs.devices.Machine.{at_home, finish}

-- the state after a whole item
abbrev pub landed : Stack → Item → State
landed st (string ps) = builds (as_item st) ps
landed st (number a n v m) = has st (number a n v m)
landed st (word a n) = has st (word a n)
landed st (tag a n m i e) = has st (tag a n m i e)
landed st (simple a b n v m e) = has st (simple a b n v m e)
landed st (chunked a ss e) = has st (chunked a ss e)
landed st (array a m c e) = has st (array a m c e)
landed st (map a m f e) = has st (map a m f e)

abbrev pub landed_row : Nest → Row → State
landed_row n (row b i) = landed (in_row n b) i

abbrev pub landed_pairs : Stack → Span → Mark → Pairs → State
landed_pairs st s m (pairs b k c v) = landed (in_value st s m b k c) v

abbrev pub landed_strings : Stack → Span → Strings → State
landed_strings st s (strings b ps) = builds (as_chunk st s b) ps

-- pieces that are whole are an item
pub ended_same : (st : Stack) (ps : Pieces) (k : Class) (a : Span) → EndsPieces k → step_by (builds (as_item st) ps) k a ≡ step_by (has st (string ps)) k a
ended_same st ps k a h1 = grind arith

ended : (st : Stack) (i : Item) (k : Class) (a : Span) → EndsPieces k → step_by (landed st i) k a ≡ after st i k a
ended st i k a h1 = grind arith

-- the brackets that end a row
pub data Close : Type 0 where
  close_array : Close
  close_embed : Mark → Close

abbrev pub class_at : Close → Class
class_at close_array = ArrayClose
class_at (close_embed m) = EmbedClose m

abbrev pub then : List Token → State → Option State
then ts s = run ts (Some s)

pub text_piece : (h : Home) (b : Option Pieces) (a : Span) (x : List ℕ) (m : Mark) (y : List Token) → then (token a (Text x m) ∷ y) (at_home h b) ≡ then y (builds h (with_piece b (text a x m)))
text_piece h b a x m y = grind arith

pub bytes_piece : (h : Home) (b : Option Pieces) (a : Span) (q : Bool) (x : List ℕ) (m : Mark) (y : List Token) → then (token a (Bytes q x m) ∷ y) (at_home h b) ≡ then y (builds h (with_piece b (bytes a q x m)))
bytes_piece h b a q x m y = grind arith

pub embed_opens : (h : Home) (b : Option Pieces) (a : Span) (y : List Token) → then (token a EmbedOpen ∷ y) (at_home h b) ≡ then y (wants (in_row (in_embed h b a) no_item))
embed_opens h b a y = grind arith

loose_closes : (n : Nest) (b : RowBefore) (e : Close) (a : Span) → step_by (wants (in_row n b)) (class_at e) a ≡ ends n (loose b) (class_at e) a
loose_closes n b e a = grind arith

tight_closes : (n : Nest) (r : Row) (e : Close) (a : Span) → step_by (landed_row n r) (class_at e) a ≡ ends n (tight r) (class_at e) a
tight_closes n r e a = grind arith

row_comma : (n : Nest) (r : Row) (c : Span) (y : List Token) → then (token c Comma ∷ y) (landed_row n r) ≡ then y (wants (in_row n (after_row r c)))
row_comma n (row b i) c y = ap (run y) (ended (in_row n b) i Comma c tt)

pairs_comma : (st : Stack) (s : Span) (m : Mark) (ps : Pairs) (c : Span) (y : List Token) → then (token c Comma ∷ y) (landed_pairs st s m ps) ≡ then y (wants (in_key st s m (after_pairs ps c)))
pairs_comma st s m (pairs b k d v) c y = ap (run y) (ended (in_value st s m b k d) v Comma c tt)

pairs_close : (st : Stack) (s : Span) (m : Mark) (ps : Pairs) (c : Span) (y : List Token) → then (token c MapClose ∷ y) (landed_pairs st s m ps) ≡ then y (has st (map s m (tight_fields ps) c))
pairs_close st s m (pairs b k d v) c y = ap (run y) (ended (in_value st s m b k d) v MapClose c tt)

strings_comma : (st : Stack) (s : Span) (ss : Strings) (c : Span) (y : List Token) → then (token c Comma ∷ y) (landed_strings st s ss) ≡ then y (wants_chunk st s (after_strings ss c))
strings_comma st s (strings b ps) c y = refl

strings_close : (st : Stack) (s : Span) (ss : Strings) (c : Span) (y : List Token) → then (token c ParenClose ∷ y) (landed_strings st s ss) ≡ then y (has st (chunked s ss c))
strings_close st s (strings b ps) c y = refl

built : (h : Home) (ps : Pieces) → Some (builds h ps) ≡ Some (at_home h (Some ps))
built h ps = grind arith

mutual
  pub takes : (i : Item) (st : Stack) (y : List Token) → then (tokens_of i ++ y) (wants st) ≡ then y (landed st i)
  takes (number a n v m) st y = refl
  takes (word a n) st y = refl
  takes (tag a n m i e) st y =
      ap (λ l. then (token a (TagOpen n m) ∷ l) (wants st)) (append_assoc (tokens_of i) _ y)
      ∙ takes i (in_tag st a n m) (token e ParenClose ∷ y) ∙ ap (run y) (ended (in_tag st a n m) i ParenClose e tt)
  takes (simple a b n v m e) st y = refl
  takes (string ps) st y = takes_pieces ps (as_item st) y
  takes (chunked a ss e) st y =
      ap (λ l. then (token a ChunkOpen ∷ l) (wants st)) (append_assoc (tokens_of_strings ss) _ y)
      ∙ takes_strings ss st a (token e ParenClose ∷ y) ∙ strings_close st a ss e y
  takes (array a m c e) st y =
      ap (λ l. then (token a (ArrayOpen m) ∷ l) (wants st)) (append_assoc (tokens_of_content c) _ y)
      ∙ takes_content c (in_array st a m) close_array e y
  takes (map a m f e) st y =
      ap (λ l. then (token a (MapOpen m) ∷ l) (wants st)) (append_assoc (tokens_of_fields f) _ y)
      ∙ takes_fields f st a m e y

  pub takes_piece : (p : Piece) (h : Home) (b : Option Pieces) (y : List Token) → then (tokens_of_piece p ++ y) (at_home h b) ≡ then y (builds h (with_piece b p))
  takes_piece (text a x m) h b y = text_piece h b a x m y
  takes_piece (bytes a q x m) h b y = bytes_piece h b a q x m y
  takes_piece (embedded a c e m) h b y =
      ap (λ l. then (token a EmbedOpen ∷ l) (at_home h b)) (append_assoc (tokens_of_content c) _ y)
      ∙ embed_opens h b a (tokens_of_content c ++ token e (EmbedClose m) ∷ y)
      ∙ takes_content c (in_embed h b a) (close_embed m) e y

  pub takes_pieces : (ps : Pieces) (h : Home) (y : List Token) → then (tokens_of_pieces ps ++ y) (at_home h None) ≡ then y (builds h ps)
  takes_pieces (piece p) h y = takes_piece p h None y
  takes_pieces (also ps p) h y =
      ap (λ l. then l (at_home h None)) (append_assoc (tokens_of_pieces ps) _ y)
      ∙ takes_pieces ps h (tokens_of_piece p ++ y) ∙ ap (run (tokens_of_piece p ++ y)) (built h ps) ∙ takes_piece p h (Some ps) y

  pub takes_strings : (ss : Strings) (st : Stack) (s : Span) (y : List Token) → then (tokens_of_strings ss ++ y) (wants_chunk st s no_string) ≡ then y (landed_strings st s ss)
  takes_strings (strings b ps) st s y =
      ap (λ l. then l (wants_chunk st s no_string)) (append_assoc (tokens_of_strings_before b) _ y)
      ∙ takes_strings_before b st s (tokens_of_pieces ps ++ y) ∙ takes_pieces ps (as_chunk st s b) y

  pub takes_strings_before : (b : StringsBefore) (st : Stack) (s : Span) (y : List Token) → then (tokens_of_strings_before b ++ y) (wants_chunk st s no_string) ≡ then y (wants_chunk st s b)
  takes_strings_before no_string st s y = refl
  takes_strings_before (after_strings ss c) st s y =
      ap (λ l. then l (wants_chunk st s no_string)) (append_assoc (tokens_of_strings ss) _ y)
      ∙ takes_strings ss st s (token c Comma ∷ y) ∙ strings_comma st s ss c y

  pub takes_row : (r : Row) (n : Nest) (y : List Token) → then (tokens_of_row r ++ y) (wants (in_row n no_item)) ≡ then y (landed_row n r)
  takes_row (row b i) n y =
      ap (λ l. then l (wants (in_row n no_item))) (append_assoc (tokens_of_row_before b) _ y)
      ∙ takes_row_before b n (tokens_of i ++ y) ∙ takes i (in_row n b) y

  pub takes_row_before : (b : RowBefore) (n : Nest) (y : List Token) → then (tokens_of_row_before b ++ y) (wants (in_row n no_item)) ≡ then y (wants (in_row n b))
  takes_row_before no_item n y = refl
  takes_row_before (after_row r c) n y =
      ap (λ l. then l (wants (in_row n no_item))) (append_assoc (tokens_of_row r) _ y)
      ∙ takes_row r n (token c Comma ∷ y) ∙ row_comma n r c y

  pub takes_content : (c : Content) (n : Nest) (e : Close) (a : Span) (y : List Token) → then (tokens_of_content c ++ token a (class_at e) ∷ y) (wants (in_row n no_item)) ≡ run y (ends n c (class_at e) a)
  takes_content (loose b) n e a y = takes_row_before b n (token a (class_at e) ∷ y) ∙ ap (run y) (loose_closes n b e a)
  takes_content (tight r) n e a y = takes_row r n (token a (class_at e) ∷ y) ∙ ap (run y) (tight_closes n r e a)

  pub takes_pairs : (ps : Pairs) (st : Stack) (s : Span) (m : Mark) (y : List Token) → then (tokens_of_pairs ps ++ y) (wants (in_key st s m no_pair)) ≡ then y (landed_pairs st s m ps)
  takes_pairs (pairs b k c v) st s m y =
      ap (λ l. then l (wants (in_key st s m no_pair))) (append_assoc (tokens_of_pairs_before b) _ y ∙ ap (λ l. tokens_of_pairs_before b ++ l) (append_assoc (tokens_of k) _ y))
      ∙ takes_pairs_before b st s m (tokens_of k ++ (token c Colon ∷ (tokens_of v ++ y)))
      ∙ takes k (in_key st s m b) (token c Colon ∷ (tokens_of v ++ y))
      ∙ ap (run (tokens_of v ++ y)) (ended (in_key st s m b) k Colon c tt)
      ∙ takes v (in_value st s m b k c) y

  pub takes_pairs_before : (b : PairsBefore) (st : Stack) (s : Span) (m : Mark) (y : List Token) → then (tokens_of_pairs_before b ++ y) (wants (in_key st s m no_pair)) ≡ then y (wants (in_key st s m b))
  takes_pairs_before no_pair st s m y = refl
  takes_pairs_before (after_pairs ps c) st s m y =
      ap (λ l. then l (wants (in_key st s m no_pair))) (append_assoc (tokens_of_pairs ps) _ y)
      ∙ takes_pairs ps st s m (token c Comma ∷ y) ∙ pairs_comma st s m ps c y

  pub takes_fields : (f : Fields) (st : Stack) (s : Span) (m : Mark) (a : Span) (y : List Token) → then (tokens_of_fields f ++ token a MapClose ∷ y) (wants (in_key st s m no_pair)) ≡ then y (has st (map s m f a))
  takes_fields (loose_fields b) st s m a y = takes_pairs_before b st s m (token a MapClose ∷ y)
  takes_fields (tight_fields ps) st s m a y = takes_pairs ps st s m (token a MapClose ∷ y) ∙ pairs_close st s m ps a y

-- what the machine holds at the end
abbrev pub whole : Input → State
whole nothing = start
whole (items r) = landed_row at_top r

pub takes_input : (t : Input) (y : List Token) → then (tokens_of_input t ++ y) start ≡ then y (whole t)
takes_input t y = grind (arith, takes_row)

pub finish-whole : (t : Input) → finish (whole t) ≡ Some t
finish-whole t = grind arith
