-- A device of the proofs: the trees of the grammar of the notation, with the place of each token. No public contract cites it, but for laws that say what the trees are to tokens and nodes.
use Rattle.std.specs.Prelude.{ℕ, suc, List, [], ◌∷◌, ◌++◌, Bool, max}
use Rattle.cborn_edn.specs.Common.{Mark, ArrayOpen, MapOpen, ArrayClose, MapClose, ParenClose, Comma, Colon, EmbedOpen, EmbedClose, ChunkOpen, Number, TagOpen, Word, SimpleOpen, Token}
use Rattle.cborn_lex.specs.declared.classes.Class.TheVariants.{Text, Bytes}
pub use Rattle.cborn_edn.specs.Says.{is_below, argument_of, is_small, depth_of_number}
pub use Rattle.cborn_edn.specs.Grammar.{Span, token}

abbrev pub span : Token → Span
span t = record { start = t.start; stop = t.stop }

-- The trees:
--   item     = Number | Word | TagOpen item ")" | "simple(" Number ")" | pieces | "(_" strings ")"
--            | "[" content "]" | "{" fields "}"
--   piece    = Text | Bytes | "<<" content ">>"
--   pieces   = piece | pieces piece
--   strings  = [ strings "," ] pieces
--   row      = [ row "," ] item
--   content  = nothing | row "," | row                a comma at the end is one of profile 2
--   pairs    = [ pairs "," ] item ":" item
--   fields   = nothing | pairs "," | pairs            here too
mutual
  pub data Item : Type 0 where
    number : Span → Bool → ℕ → Mark → Item
    word : Span → ℕ → Item
    tag : Span → ℕ → Mark → Item → Span → Item
    simple : Span → Span → Bool → ℕ → Mark → Span → Item
    string : Pieces → Item
    chunked : Span → Strings → Span → Item
    array : Span → Mark → Content → Span → Item
    map : Span → Mark → Fields → Span → Item

  pub data Piece : Type 0 where
    text : Span → List ℕ → Mark → Piece
    bytes : Span → Bool → List ℕ → Mark → Piece
    embedded : Span → Content → Span → Mark → Piece

  pub data Pieces : Type 0 where
    piece : Piece → Pieces
    also : Pieces → Piece → Pieces

  pub data Strings : Type 0 where
    strings : StringsBefore → Pieces → Strings

  pub data StringsBefore : Type 0 where
    no_string : StringsBefore
    after_strings : Strings → Span → StringsBefore

  pub data Row : Type 0 where
    row : RowBefore → Item → Row

  -- what is before an item: nothing, or items and a comma
  pub data RowBefore : Type 0 where
    no_item : RowBefore
    after_row : Row → Span → RowBefore

  pub data Content : Type 0 where
    loose : RowBefore → Content  -- nothing, or a comma at the end
    tight : Row → Content

  pub data Pairs : Type 0 where
    pairs : PairsBefore → Item → Span → Item → Pairs

  pub data PairsBefore : Type 0 where
    no_pair : PairsBefore
    after_pairs : Pairs → Span → PairsBefore

  pub data Fields : Type 0 where
    loose_fields : PairsBefore → Fields
    tight_fields : Pairs → Fields

-- a whole text
pub data Input : Type 0 where
  nothing : Input
  items : Row → Input

-- The tokens of a tree.
abbrev mutual
  pub tokens_of : Item → List Token
  tokens_of (number at n v m) = token at (Number n v m) ∷ []
  tokens_of (word at n) = token at (Word n) ∷ []
  tokens_of (tag at n m i end) = token at (TagOpen n m) ∷ tokens_of i ++ token end ParenClose ∷ []
  tokens_of (simple at b n v m end) = token at SimpleOpen ∷ token b (Number n v m) ∷ token end ParenClose ∷ []
  tokens_of (string ps) = tokens_of_pieces ps
  tokens_of (chunked at ss end) = token at ChunkOpen ∷ tokens_of_strings ss ++ token end ParenClose ∷ []
  tokens_of (array at m c end) = token at (ArrayOpen m) ∷ tokens_of_content c ++ token end ArrayClose ∷ []
  tokens_of (map at m f end) = token at (MapOpen m) ∷ tokens_of_fields f ++ token end MapClose ∷ []

  pub tokens_of_piece : Piece → List Token
  tokens_of_piece (text at x m) = token at (Text x m) ∷ []
  tokens_of_piece (bytes at q x m) = token at (Bytes q x m) ∷ []
  tokens_of_piece (embedded at c end m) = token at EmbedOpen ∷ tokens_of_content c ++ token end (EmbedClose m) ∷ []

  pub tokens_of_pieces : Pieces → List Token
  tokens_of_pieces (piece p) = tokens_of_piece p
  tokens_of_pieces (also ps p) = tokens_of_pieces ps ++ tokens_of_piece p

  pub tokens_of_strings : Strings → List Token
  tokens_of_strings (strings b ps) = tokens_of_strings_before b ++ tokens_of_pieces ps

  pub tokens_of_strings_before : StringsBefore → List Token
  tokens_of_strings_before no_string = []
  tokens_of_strings_before (after_strings ss c) = tokens_of_strings ss ++ token c Comma ∷ []

  pub tokens_of_row : Row → List Token
  tokens_of_row (row b i) = tokens_of_row_before b ++ tokens_of i

  pub tokens_of_row_before : RowBefore → List Token
  tokens_of_row_before no_item = []
  tokens_of_row_before (after_row r c) = tokens_of_row r ++ token c Comma ∷ []

  pub tokens_of_content : Content → List Token
  tokens_of_content (loose b) = tokens_of_row_before b
  tokens_of_content (tight r) = tokens_of_row r

  pub tokens_of_pairs : Pairs → List Token
  tokens_of_pairs (pairs b k c v) = tokens_of_pairs_before b ++ (tokens_of k ++ (token c Colon ∷ tokens_of v))

  pub tokens_of_pairs_before : PairsBefore → List Token
  tokens_of_pairs_before no_pair = []
  tokens_of_pairs_before (after_pairs ps c) = tokens_of_pairs ps ++ token c Comma ∷ []

  pub tokens_of_fields : Fields → List Token
  tokens_of_fields (loose_fields b) = tokens_of_pairs_before b
  tokens_of_fields (tight_fields ps) = tokens_of_pairs ps

abbrev pub tokens_of_input : Input → List Token
tokens_of_input nothing = []
tokens_of_input (items r) = tokens_of_row r

-- The nesting depth of a tree: of arrays, maps, tags, `<<..>>` and integers outside 64 bits.
abbrev mutual
  pub depth : Item → ℕ
  depth (number at n v m) = depth_of_number n v
  depth (word at n) = 0
  depth (tag at n m i end) = suc (depth i)
  depth (simple at b n v m end) = depth_of_number n v
  depth (string ps) = depth_of_pieces ps
  depth (chunked at ss end) = depth_of_strings ss
  depth (array at m c end) = suc (depth_of_content c)
  depth (map at m f end) = suc (depth_of_fields f)

  pub depth_of_piece : Piece → ℕ
  depth_of_piece (embedded at c end m) = suc (depth_of_content c)
  depth_of_piece _ = 0

  pub depth_of_pieces : Pieces → ℕ
  depth_of_pieces (piece p) = depth_of_piece p
  depth_of_pieces (also ps p) = max (depth_of_pieces ps) (depth_of_piece p)

  pub depth_of_strings : Strings → ℕ
  depth_of_strings (strings b ps) = max (depth_of_strings_before b) (depth_of_pieces ps)

  pub depth_of_strings_before : StringsBefore → ℕ
  depth_of_strings_before no_string = 0
  depth_of_strings_before (after_strings ss c) = depth_of_strings ss

  pub depth_of_row : Row → ℕ
  depth_of_row (row b i) = max (depth_of_row_before b) (depth i)

  pub depth_of_row_before : RowBefore → ℕ
  depth_of_row_before no_item = 0
  depth_of_row_before (after_row r c) = depth_of_row r

  pub depth_of_content : Content → ℕ
  depth_of_content (loose b) = depth_of_row_before b
  depth_of_content (tight r) = depth_of_row r

  pub depth_of_pairs : Pairs → ℕ
  depth_of_pairs (pairs b k c v) = max (depth_of_pairs_before b) (max (depth k) (depth v))

  pub depth_of_pairs_before : PairsBefore → ℕ
  depth_of_pairs_before no_pair = 0
  depth_of_pairs_before (after_pairs ps c) = depth_of_pairs ps

  pub depth_of_fields : Fields → ℕ
  depth_of_fields (loose_fields b) = depth_of_pairs_before b
  depth_of_fields (tight_fields ps) = depth_of_pairs ps

abbrev pub depth_of_input : Input → ℕ
depth_of_input nothing = 0
depth_of_input (items r) = depth_of_row r
