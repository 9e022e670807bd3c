-- What the laws of reading back speak of: the tree of the fixed notation, and nodes and tokens without places.
use Rattle.std.specs.Prelude.{ℕ, suc, List, [], ◌∷◌, length, true, false, nat_lt, if◌then◌else◌}
use Rattle.cborn_edn.specs.Common.{Chunk, Tree, Uint, Nint, Bytes as ByteNode, Text as TextNode, ByteChunks, TextChunks, Items, Pairs as PairNode, Tagged, Simple, Trees, no_item as no_node, more, Entries, no_entry, entry, count, count_entries, Mark, Absent, Token, StringKind, OfBytes, OfText}
use Rattle.cborn_lex.specs.declared.classes.Mark.TheVariants.{Endless}
use Rattle.cborn_edn.specs.devices.Syntax.{Span, Item, number, word, tag, simple, string, chunked, array, map as map_item, text, bytes, Pieces, piece, Strings, strings, StringsBefore, no_string, after_strings, Row, row, RowBefore, no_item, after_row, Content, loose, tight, Pairs, pairs, PairsBefore, no_pair, after_pairs, Fields, loose_fields, tight_fields, Input, nothing, items, token}
use Rattle.cborn_edn.specs.Shown.{mark_for, mark_for_size}

abbrev pub nowhere : Span
nowhere = record { start = 0; stop = 0 }

abbrev pub one_piece : StringKind → List ℕ → Mark → Pieces
one_piece OfBytes x m = piece (bytes nowhere false x m)
one_piece OfText x m = piece (text nowhere x m)

abbrev pub empty_quote : StringKind → Pieces
empty_quote OfBytes = piece (bytes nowhere true [] Endless)
empty_quote OfText = piece (text nowhere [] Endless)

abbrev pub chunk_pieces : StringKind → Chunk → Pieces
chunk_pieces k c = one_piece k c.bytes (mark_for c.width (length c.bytes))

abbrev pub chunk_row : StringKind → List Chunk → StringsBefore → Chunk → Strings
chunk_row k [] b c = strings b (chunk_pieces k c)
chunk_row k (d ∷ cs) b c = chunk_row k cs (after_strings (strings b (chunk_pieces k c)) nowhere) d

abbrev pub chunk_item : StringKind → List Chunk → Item
chunk_item k [] = string (empty_quote k)
chunk_item k (c ∷ cs) = chunked nowhere (chunk_row k cs no_string c) nowhere

-- the simple values 20 to 23 have names
abbrev pub simple_item : ℕ → Item
simple_item n = if nat_lt n 20 then simple nowhere nowhere false n Absent nowhere else if nat_lt n 24 then word nowhere n else simple nowhere nowhere false n Absent nowhere

abbrev mutual
  pub notated : Tree → Item
  notated (Uint p w n) = number nowhere false n (mark_for w n)
  notated (Nint p w n) = number nowhere true (suc n) (mark_for w n)
  notated (ByteNode p w x) = string (one_piece OfBytes x (mark_for w (length x)))
  notated (TextNode p w x) = string (one_piece OfText x (mark_for w (length x)))
  notated (ByteChunks p cs) = chunk_item OfBytes cs
  notated (TextChunks p cs) = chunk_item OfText cs
  notated (Items p s ts) = array nowhere (mark_for_size s (count ts)) (notated_content ts) nowhere
  notated (PairNode p s es) = map_item nowhere (mark_for_size s (count_entries es)) (notated_fields es) nowhere
  notated (Tagged p w n t) = tag nowhere n (mark_for w n) (notated t) nowhere
  notated (Simple p n) = simple_item n

  pub notated_content : Trees → Content
  notated_content no_node = loose no_item
  notated_content (more t ts) = tight (notated_row ts no_item (notated t))

  -- the item after b, and those after it
  pub notated_row : Trees → RowBefore → Item → Row
  notated_row no_node b i = row b i
  notated_row (more t ts) b i = notated_row ts (after_row (row b i) nowhere) (notated t)

  pub notated_fields : Entries → Fields
  notated_fields no_entry = loose_fields no_pair
  notated_fields (entry k v es) = tight_fields (notated_pairs es no_pair (notated k) (notated v))

  pub notated_pairs : Entries → PairsBefore → Item → Item → Pairs
  notated_pairs no_entry b i j = pairs b i nowhere j
  notated_pairs (entry k v es) b i j = notated_pairs es (after_pairs (pairs b i nowhere j) nowhere) (notated k) (notated v)

abbrev pub notated_input : Trees → Input
notated_input no_node = nothing
notated_input (more t ts) = items (notated_row ts no_item (notated t))

-- nodes without places: each is 0
abbrev pub unplaced_chunks : List Chunk → List Chunk
unplaced_chunks [] = []
unplaced_chunks (c ∷ cs) = record c { place = 0 } ∷ unplaced_chunks cs

abbrev mutual
  pub unplaced : Tree → Tree
  unplaced (Uint p w n) = Uint 0 w n
  unplaced (Nint p w n) = Nint 0 w n
  unplaced (ByteNode p w x) = ByteNode 0 w x
  unplaced (TextNode p w x) = TextNode 0 w x
  unplaced (ByteChunks p cs) = ByteChunks 0 (unplaced_chunks cs)
  unplaced (TextChunks p cs) = TextChunks 0 (unplaced_chunks cs)
  unplaced (Items p s ts) = Items 0 s (unplaced_all ts)
  unplaced (PairNode p s es) = PairNode 0 s (unplaced_entries es)
  unplaced (Tagged p w n t) = Tagged 0 w n (unplaced t)
  unplaced (Simple p n) = Simple 0 n

  pub unplaced_all : Trees → Trees
  unplaced_all no_node = no_node
  unplaced_all (more t ts) = more (unplaced t) (unplaced_all ts)

  pub unplaced_entries : Entries → Entries
  unplaced_entries no_entry = no_entry
  unplaced_entries (entry k v es) = entry (unplaced k) (unplaced v) (unplaced_entries es)

-- a token without its place, which is 0
abbrev pub unplaced_token : Token → Token
unplaced_token t = token nowhere t.class
