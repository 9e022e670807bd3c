-- A device of the proofs: how many commas of a tree are directly before a closing bracket, how many a profile allows, and which tokens are those of a tree. No definition cites it but those of other devices.
use Rattle.std.specs.Prelude.{◌≡◌, ℕ, ◌+◌, List}
use Rattle.cborn_edn.specs.Common.{Profile, One as ProfileOne, Two as ProfileTwo, Token}
use Rattle.cborn_edn.specs.devices.Syntax.{Item, number, word, tag, simple, string, chunked, array, map, Piece, text, bytes, embedded, Pieces, piece, also, Strings, strings, StringsBefore, no_string, after_strings, Row, row, RowBefore, no_item, after_row, Content, loose, tight, Pairs, pairs, PairsBefore, no_pair, after_pairs, Fields, loose_fields, tight_fields, Input, nothing, items, tokens_of_input}

abbrev pub last_comma : RowBefore → ℕ
last_comma no_item = 0
last_comma (after_row r c) = 1

abbrev pub last_pair_comma : PairsBefore → ℕ
last_pair_comma no_pair = 0
last_pair_comma (after_pairs ps c) = 1

-- How many commas are directly before a closing bracket.
abbrev mutual
  pub commas : Item → ℕ
  commas (number at n v m) = 0
  commas (word at n) = 0
  commas (tag at n m i end) = commas i
  commas (simple at b n v m end) = 0
  commas (string ps) = commas_of_pieces ps
  commas (chunked at ss end) = commas_of_strings ss
  commas (array at m c end) = commas_of_content c
  commas (map at m f end) = commas_of_fields f

  pub commas_of_piece : Piece → ℕ
  commas_of_piece (text at x m) = 0
  commas_of_piece (bytes at q x m) = 0
  commas_of_piece (embedded at c end m) = commas_of_content c

  pub commas_of_pieces : Pieces → ℕ
  commas_of_pieces (piece p) = commas_of_piece p
  commas_of_pieces (also ps p) = commas_of_pieces ps + commas_of_piece p

  pub commas_of_strings : Strings → ℕ
  commas_of_strings (strings b ps) = commas_of_strings_before b + commas_of_pieces ps

  pub commas_of_strings_before : StringsBefore → ℕ
  commas_of_strings_before no_string = 0
  commas_of_strings_before (after_strings ss c) = commas_of_strings ss

  pub commas_of_row : Row → ℕ
  commas_of_row (row b i) = commas_of_row_before b + commas i

  pub commas_of_row_before : RowBefore → ℕ
  commas_of_row_before no_item = 0
  commas_of_row_before (after_row r c) = commas_of_row r

  pub commas_of_content : Content → ℕ
  commas_of_content (loose b) = commas_of_row_before b + last_comma b
  commas_of_content (tight r) = commas_of_row r

  pub commas_of_pairs : Pairs → ℕ
  commas_of_pairs (pairs b k c v) = commas_of_pairs_before b + commas k + commas v

  pub commas_of_pairs_before : PairsBefore → ℕ
  commas_of_pairs_before no_pair = 0
  commas_of_pairs_before (after_pairs ps c) = commas_of_pairs ps

  pub commas_of_fields : Fields → ℕ
  commas_of_fields (loose_fields b) = commas_of_pairs_before b + last_pair_comma b
  commas_of_fields (tight_fields ps) = commas_of_pairs ps

abbrev pub commas_of_input : Input → ℕ
commas_of_input nothing = 0
commas_of_input (items r) = commas_of_row r

abbrev pub AllowsCount : Profile → ℕ → Type 0
AllowsCount ProfileOne n = n ≡ 0
AllowsCount ProfileTwo n = Unit {0}

-- the tokens are those of the tree, and the profile allows the commas in it
pub record Parse (profile : Profile) (tokens : List Token) (tree : Input) : Type 0 where
  pub is : tokens_of_input tree ≡ tokens
  pub allowed : AllowsCount profile (commas_of_input tree)
