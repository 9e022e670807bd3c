-- A device of the proofs: the node that a tree says, also if it has a meaning error, and its meaning errors in the order of the relation. No definition cites it, but a law says that it agrees with the relation.
use Rattle.std.specs.Prelude.{◌≡◌, ℕ, ◌≤◌, List, [], ◌∷◌, ◌++◌, true, false}
use Rattle.cborn_edn.specs.Common.{Chunk, Tree, Items, Pairs as PairNode, Tagged, Simple, Trees, no_item as no_node, more, Entries, no_entry, entry, count, count_entries, spelled_all, Profile, Token, StringKind, OfBytes, OfText, MeaningError}
use Rattle.cborn_edn.specs.devices.Syntax.{Item, number, word, tag, simple, string, chunked, array, map, Piece, text, bytes, embedded, Pieces, piece, also, Strings, strings, StringsBefore, no_string, after_strings, Row, row, RowBefore, no_item, after_row, Content, loose, tight, Pairs, pairs, PairsBefore, no_pair, after_pairs, Fields, loose_fields, tight_fields, Input, nothing, items, depth_of_input}
use Rattle.cborn_edn.specs.devices.Commas.{Parse}
use Rattle.cborn_edn.specs.Says.{chunked_node, number_errors, tag_errors, size_errors, width, size, number_node, simple_errors, Str, is_nil, quoted, joined, said_string, chunk, piece_errors, string_errors, chunk_errors}

-- nodes, and one more at the end
abbrev pub snoc : Trees → Tree → Trees
snoc no_node t = more t no_node
snoc (more u ts) t = more u (snoc ts t)

abbrev pub snoc_entry : Entries → Tree → Tree → Entries
snoc_entry no_entry k v = entry k v no_entry
snoc_entry (entry l w es) k v = entry l w (snoc_entry es k v)

abbrev mutual
  pub node : Item → Tree
  node (number at n v m) = number_node at.start n v m
  node (word at n) = Simple at.start n
  node (tag at n m i end) = Tagged at.start (width m n) n (node i)
  node (simple at b n v m end) = Simple at.start v
  node (string ps) = said_string (str ps)
  node (chunked at ss end) = chunked_node (kind_in ss) at.start (chunks ss)
  node (array at m c end) = Items at.start (size m (count (nodes_in c))) (nodes_in c)
  node (map at m f end) = PairNode at.start (size m (count_entries (entries_in f))) (entries_in f)

  pub str_of : Piece → Str
  str_of (text at x m) = quoted OfText at.start true x m
  str_of (bytes at q x m) = quoted OfBytes at.start q x m
  str_of (embedded at c end m) = record { kind = OfBytes; place = at.start; lone = false; known = is_nil (faults_in c); bytes = spelled_all (nodes_in c); mark = m; mark_place = end.start }

  pub str : Pieces → Str
  str (piece p) = str_of p
  str (also ps p) = joined (str ps) (str_of p)

  pub kind_in : Strings → StringKind
  kind_in (strings b ps) = kind_after b (str ps)

  pub kind_after : StringsBefore → Str → StringKind
  kind_after no_string s = s.kind
  kind_after (after_strings ss c) s = kind_in ss

  pub chunks : Strings → List Chunk
  chunks (strings b ps) = chunks_before b ++ chunk (str ps) ∷ []

  pub chunks_before : StringsBefore → List Chunk
  chunks_before no_string = []
  chunks_before (after_strings ss c) = chunks ss

  pub nodes : Row → Trees
  nodes (row b i) = snoc (nodes_before b) (node i)

  pub nodes_before : RowBefore → Trees
  nodes_before no_item = no_node
  nodes_before (after_row r c) = nodes r

  pub nodes_in : Content → Trees
  nodes_in (loose b) = nodes_before b
  nodes_in (tight r) = nodes r

  pub entries : Pairs → Entries
  entries (pairs b k c v) = snoc_entry (entries_before b) (node k) (node v)

  pub entries_before : PairsBefore → Entries
  entries_before no_pair = no_entry
  entries_before (after_pairs ps c) = entries ps

  pub entries_in : Fields → Entries
  entries_in (loose_fields b) = entries_before b
  entries_in (tight_fields ps) = entries ps

  pub faults : Item → List MeaningError
  faults (number at n v m) = number_errors at.start n v m
  faults (word at n) = []
  faults (tag at n m i end) = tag_errors at.start m n ++ faults i
  faults (simple at b n v m end) = simple_errors at.start b.start n v m
  faults (string ps) = faults_of_pieces ps ++ string_errors (str ps).lone (str ps)
  faults (chunked at ss end) = faults_of_strings ss
  faults (array at m c end) = faults_in c ++ size_errors at.start m (count (nodes_in c))
  faults (map at m f end) = faults_of_fields f ++ size_errors at.start m (count_entries (entries_in f))

  pub faults_of_piece : Piece → List MeaningError
  faults_of_piece (text at x m) = []
  faults_of_piece (bytes at q x m) = []
  faults_of_piece (embedded at c end m) = faults_in c

  pub faults_of_pieces : Pieces → List MeaningError
  faults_of_pieces (piece p) = faults_of_piece p
  faults_of_pieces (also ps p) = faults_of_pieces ps ++ (faults_of_piece p ++ piece_errors (str ps) (str_of p))

  pub faults_of_strings : Strings → List MeaningError
  faults_of_strings (strings b ps) = faults_after b (faults_of_pieces ps) (str ps)

  pub faults_after : StringsBefore → List MeaningError → Str → List MeaningError
  faults_after no_string l s = l ++ string_errors false s
  faults_after (after_strings ss c) l s = faults_of_strings ss ++ (l ++ chunk_errors (kind_in ss) s)

  pub faults_of_row : Row → List MeaningError
  faults_of_row (row b i) = faults_before b ++ faults i

  pub faults_before : RowBefore → List MeaningError
  faults_before no_item = []
  faults_before (after_row r c) = faults_of_row r

  pub faults_in : Content → List MeaningError
  faults_in (loose b) = faults_before b
  faults_in (tight r) = faults_of_row r

  pub faults_of_pairs : Pairs → List MeaningError
  faults_of_pairs (pairs b k c v) = faults_before_pairs b ++ (faults k ++ faults v)

  pub faults_before_pairs : PairsBefore → List MeaningError
  faults_before_pairs no_pair = []
  faults_before_pairs (after_pairs ps c) = faults_of_pairs ps

  pub faults_of_fields : Fields → List MeaningError
  faults_of_fields (loose_fields b) = faults_before_pairs b
  faults_of_fields (tight_fields ps) = faults_of_pairs ps

abbrev pub nodes_of_input : Input → Trees
nodes_of_input nothing = no_node
nodes_of_input (items r) = nodes r

abbrev pub faults_of_input : Input → List MeaningError
faults_of_input nothing = []
faults_of_input (items r) = faults_of_row r

-- the tokens are those of a tree within the limit, and it says these nodes and has these meaning errors
pub record Parsed (p : Profile) (limit : ℕ) (x : List Token) (ts : Trees) (l : List MeaningError) : Type 0 where
  pub tree : Input
  pub parse : Parse p x tree
  pub shallow : depth_of_input tree ≤ limit
  pub says : nodes_of_input tree ≡ ts
  pub errors : faults_of_input tree ≡ l
