-- Nodes of the fixed notation, as pieces.
use Rattle.std.specs.Prelude.{◌≡◌, ◌∷◌, ◌++◌}
use Rattle.cborn_edn.proofs.Common.{refl, sym, ap, ◌∙◌, subst, ℕ, List, [], map, length, false, eqb, decimal, append_assoc, arith, codes, AreBytes, Width, Chunk, Tree, Uint, Nint, ByteChunks, TextChunks, Items, Tagged, Simple, Trees, more, Entries, no_entry, entry, count, count_entries, WidthFits, ChunksFit, Fits, FitsAll, FitsEntries, Mark, ArrayOpen, ArrayClose, MapOpen, MapClose, ParenClose, Comma, Colon, ChunkOpen, TagOpen, Token, begins, no_string, no_item, no_pair, token, tokens_of, tokens_of_pieces, tokens_of_strings, tokens_of_content, tokens_of_fields, tokens_of_input, StringKind, OfBytes, OfText, nowhere, chunk_pieces, chunk_row, chunk_item, notated, notated_content, notated_fields, notated_input, others, mark_for, mark_for_size, indicator, opened, shown_string, shown_chunk, joined_by, shown_chunks, shown, item_texts, pair_texts, shown_lines, ByteNode, TextNode, Pairs as PairNode, no_node, Endless, simple_below, Profile, HasTokens, unplaced_token, Shown, map as list_map, append-nil, Item, StringsBefore, strings, after_strings, RowBefore, row, after_row, PairsBefore, pairs, after_pairs, tokens_of_strings_before, tokens_of_row, tokens_of_row_before, tokens_of_pairs, tokens_of_pairs_before, notated_row, notated_pairs}
use Rattle.cborn_edn.proofs.RoundTrip.Back.{below}
use Rattle.cborn_edn.proofs.Lexed.Chained.{Chained, no_text, both, retell, one_token, HasBare, whole_text}
use Rattle.cborn_edn.proofs.Lexed.MarkTexts.{Closes, closes, is_mark, is_size_mark, comma_space, paren_close, line, chunks_open, array_open, map_open, comma, colon, space}
use Rattle.cborn_edn.proofs.Lexed.DecimalTexts.{number_text, negative_text, tag_text, decimal_begins}
use Rattle.cborn_edn.proofs.Lexed.HexTexts.{bytes_text}
use Rattle.cborn_edn.proofs.Lexed.QuotedTexts.{text_text, no_byte_chunks}
use Rattle.cborn_edn.proofs.Lexed.WordTexts.{simple_text, simple_begins}

-- The tokens of the rows of the fixed notation, from the first item on.

-- the tokens after those of the first item

abbrev pub more_tokens : Trees → List Token
more_tokens no_node = []
more_tokens (more t ts) = token nowhere Comma ∷ (tokens_of (notated t) ++ more_tokens ts)

abbrev pub more_pair_tokens : Entries → List Token
more_pair_tokens no_entry = []
more_pair_tokens (entry k v es) = token nowhere Comma ∷ (tokens_of (notated k) ++ (token nowhere Colon ∷ (tokens_of (notated v) ++ more_pair_tokens es)))

abbrev pub more_chunk_tokens : StringKind → List Chunk → List Token
more_chunk_tokens k [] = []
more_chunk_tokens k (c ∷ cs) = token nowhere Comma ∷ (tokens_of_pieces (chunk_pieces k c) ++ more_chunk_tokens k cs)

regroup : (b i w : List Token) (c : Token) → ((b ++ i) ++ c ∷ []) ++ w ≡ b ++ (i ++ c ∷ w)
regroup b i w c = simp append_assoc

pub row_tokens : (ts : Trees) (b : RowBefore) (i : Item) → tokens_of_row (notated_row ts b i) ≡ tokens_of_row_before b ++ (tokens_of i ++ more_tokens ts)
row_tokens no_node b i = ap (λ x. tokens_of_row_before b ++ x) (sym (append-nil (tokens_of i)))
row_tokens (more t ts) b i = row_tokens ts (after_row (row b i) nowhere) (notated t) ∙ regroup (tokens_of_row_before b) (tokens_of i) (tokens_of (notated t) ++ more_tokens ts) (token nowhere Comma)

pub chunk_tokens : (k : StringKind) (cs : List Chunk) (b : StringsBefore) (c : Chunk) → tokens_of_strings (chunk_row k cs b c) ≡ tokens_of_strings_before b ++ (tokens_of_pieces (chunk_pieces k c) ++ more_chunk_tokens k cs)
chunk_tokens k [] b c = ap (λ x. tokens_of_strings_before b ++ x) (sym (append-nil (tokens_of_pieces (chunk_pieces k c))))
chunk_tokens k (d ∷ cs) b c = chunk_tokens k cs (after_strings (strings b (chunk_pieces k c)) nowhere) d ∙ regroup (tokens_of_strings_before b) (tokens_of_pieces (chunk_pieces k c)) (tokens_of_pieces (chunk_pieces k d) ++ more_chunk_tokens k cs) (token nowhere Comma)

pub pair_tokens : (es : Entries) (b : PairsBefore) (i j : Item) → tokens_of_pairs (notated_pairs es b i j) ≡ tokens_of_pairs_before b ++ (tokens_of i ++ (token nowhere Colon ∷ (tokens_of j ++ more_pair_tokens es)))
pair_tokens no_entry b i j = ap (λ x. tokens_of_pairs_before b ++ (tokens_of i ++ (token nowhere Colon ∷ x))) (sym (append-nil (tokens_of j)))
pair_tokens (entry k v es) b i j =
    pair_tokens es (after_pairs (pairs b i nowhere j) nowhere) (notated k) (notated v)
    ∙ (simp append_assoc)

-- Strings.

string_text : (k : StringKind) (w : Width) (x : List ℕ) (p : ℕ) (z : List ℕ) → WidthFits w (length x) → AreBytes x → Closes z → Chained (shown_string k w x) z (tokens_of_pieces (chunk_pieces k (record { place = p; width = w; bytes = x })))
string_text k w x p z h1 h2 h3 = grind (arith, bytes_text, is_mark, text_text)

chunk_text : (k : StringKind) (c : Chunk) (z : List ℕ) → WidthFits c.width (length c.bytes) → AreBytes c.bytes → Closes z → Chained (shown_chunk k c) z (tokens_of_pieces (chunk_pieces k c))
chunk_text k c z h b close = string_text k c.width c.bytes c.place z h b close

-- what follows the first of several texts
abbrev further : List (List ℕ) → List ℕ
further = others (codes ", ")

further_close : (xs : List (List ℕ)) (z : List ℕ) → Closes z → Closes (further xs ++ z)
further_close [] z h = h
further_close (x ∷ xs) z h = closes 44 _ refl

abbrev further_chunks : StringKind → List Chunk → List ℕ
further_chunks k cs = further (map (shown_chunk k) cs)

more_chunks : (k : StringKind) (cs : List Chunk) (z : List ℕ) → ChunksFit cs → Closes z → Chained (further_chunks k cs) z (more_chunk_tokens k cs)
more_chunks k [] z h close = no_text z
more_chunks k (c ∷ cs) z h close =
    both (codes ", ") (shown_chunk k c ++ further_chunks k cs) z (token nowhere Comma ∷ []) (tokens_of_pieces (chunk_pieces k c) ++ more_chunk_tokens k cs) (comma_space _)
    (both (shown_chunk k c) (further_chunks k cs) z (tokens_of_pieces (chunk_pieces k c)) (more_chunk_tokens k cs) (chunk_text k c _ h.0.0 h.0.1 (further_close _ z close)) (more_chunks k cs z h.1 close))

-- one chunk or more
chunks_text : (k : StringKind) (c : Chunk) (cs : List Chunk) (z : List ℕ) → ChunksFit (c ∷ cs) → Chained (codes "(_ " ++ (joined_by (codes ", ") (map (shown_chunk k) (c ∷ cs)) ++ codes ")")) z (tokens_of (chunk_item k (c ∷ cs)))
chunks_text k c cs z h =
    let row = both (shown_chunk k c) (further_chunks k cs) (41 ∷ z) (tokens_of_pieces (chunk_pieces k c)) (more_chunk_tokens k cs) (chunk_text k c _ h.0.0 h.0.1 (further_close _ (41 ∷ z) (closes 41 z refl))) (more_chunks k cs (41 ∷ z) h.1 (closes 41 z refl)) in
    let inside = tokens_of_strings (chunk_row k cs no_string c) in
    both (codes "(_ ") _ z (token nowhere ChunkOpen ∷ []) (inside ++ token nowhere ParenClose ∷ []) (chunks_open _)
    (both _ (codes ")") z inside (token nowhere ParenClose ∷ []) (retell _ (41 ∷ z) _ _ (sym (chunk_tokens k cs no_string c)) row) (paren_close z))

chunked_bytes : (cs : List Chunk) (z : List ℕ) → ChunksFit cs → Closes z → Chained (shown_chunks OfBytes cs) z (tokens_of (chunk_item OfBytes cs))
chunked_bytes [] z h close = no_byte_chunks z close
chunked_bytes (c ∷ cs) z h close = chunks_text OfBytes c cs z h

chunked_text : (cs : List Chunk) (z : List ℕ) → ChunksFit cs → Closes z → Chained (shown_chunks OfText cs) z (tokens_of (chunk_item OfText cs))
chunked_text [] z h close = text_text [] Endless z tt tt close
chunked_text (c ∷ cs) z h close = chunks_text OfText c cs z h

-- No node begins as an indicator does.

abbrev Unmarked : List ℕ → Type 0
Unmarked z = begins (λ c. eqb c 95) z ≡ false

chunks_begin : (k : StringKind) (cs : List Chunk) (z : List ℕ) → Unmarked (shown_chunks k cs ++ z)
chunks_begin k cs z = grind arith

node_begins : (t : Tree) (z : List ℕ) → Fits t → Unmarked (shown t ++ z)
node_begins (Uint p w n) z h = let l = below w n h in rw append_assoc (decimal_begins n (indicator (mark_for w n) ++ z) (omega arith))
node_begins (Nint p w n) z h = refl
node_begins (ByteChunks p cs) z h = chunks_begin OfBytes cs z
node_begins (TextChunks p cs) z h = chunks_begin OfText cs z
node_begins (Tagged p w n t) z h = let l = below w n h.0 in rw append_assoc (decimal_begins n _ (omega arith))
node_begins (Simple p n) z h = simple_begins n z
node_begins _ z h = refl

all_begin : (ts : Trees) (z : List ℕ) → FitsAll ts → Unmarked z → Unmarked (joined_by (codes ", ") (item_texts ts) ++ z)
all_begin no_node z h e = e
all_begin (more t ts) z h e = rw append_assoc (node_begins t _ h.0)

entries_begin : (es : Entries) (z : List ℕ) → FitsEntries es → Unmarked z → Unmarked (joined_by (codes ", ") (pair_texts es) ++ z)
entries_begin no_entry z h e = e
entries_begin (entry k v es) z h e =
    let value : List ℕ = codes ": " ++ shown v in
    let rest : List ℕ = further (pair_texts es) in
    subst Unmarked (sym (append_assoc (shown k ++ value) rest z ∙ append_assoc (shown k) value (rest ++ z))) (node_begins k (value ++ (rest ++ z)) h.0)

-- Nodes.

-- the text of a tag over an item's text
tag_whole : (n : ℕ) (m : Mark) (x z : List ℕ) (ts : List Token) → Chained ((decimal n ++ (indicator m ++ codes "(")) ++ (x ++ codes ")")) z ts → Chained (decimal n ++ (indicator m ++ (codes "(" ++ (x ++ codes ")")))) z ts
tag_whole n m x z ts h = subst (λ (y : List ℕ). Chained y z ts) (append_assoc (decimal n) (indicator m ++ codes "(") (x ++ codes ")") ∙ ap (λ y. decimal n ++ y) (append_assoc (indicator m) (codes "(") (x ++ codes ")"))) h

-- a pair and those after it, from the readings of both
pair_text : (k v : Tree) (x z : List ℕ) (ts : List Token) → Chained (shown k) (codes ": " ++ ((shown v ++ x) ++ z)) (tokens_of (notated k)) → Chained (shown v) (x ++ z) (tokens_of (notated v)) → Chained x z ts
    → Chained ((shown k ++ (codes ": " ++ shown v)) ++ x) z (tokens_of (notated k) ++ (token nowhere Colon ∷ (tokens_of (notated v) ++ ts)))
pair_text k v x z ts key value rest =
    subst (λ (y : List ℕ). Chained y z (tokens_of (notated k) ++ (token nowhere Colon ∷ (tokens_of (notated v) ++ ts)))) (sym (append_assoc (shown k) (codes ": " ++ shown v) x))
    (both (shown k) (codes ": " ++ (shown v ++ x)) z (tokens_of (notated k)) (token nowhere Colon ∷ (tokens_of (notated v) ++ ts)) key
    (both (codes ": ") (shown v ++ x) z (token nowhere Colon ∷ []) (tokens_of (notated v) ++ ts) (both (codes ":") (codes " ") _ (token nowhere Colon ∷ []) [] (colon (32 ∷ _)) (space _))
    (both (shown v) x z (tokens_of (notated v)) ts value rest)))

mutual
  pub node_text : (t : Tree) (z : List ℕ) → Fits t → Closes z → Chained (shown t) z (tokens_of (notated t))
  node_text (Uint p w n) z h close = let l = below w n h in number_text n (mark_for w n) z (omega arith) (is_mark w n h) close
  node_text (Nint p w n) z h close = let l = below w n h in negative_text n (mark_for w n) z (omega arith) (is_mark w n h) close
  node_text (ByteNode p w x) z h close = string_text OfBytes w x p z h.0 h.1 close
  node_text (TextNode p w x) z h close = string_text OfText w x p z h.0 h.1 close
  node_text (ByteChunks p cs) z h close = chunked_bytes cs z h close
  node_text (TextChunks p cs) z h close = chunked_text cs z h close
  node_text (Items p s ts) z h close =
      let m = mark_for_size s (count ts) in
      both (codes "[" ++ opened m) (joined_by (codes ", ") (item_texts ts) ++ codes "]") z (token nowhere (ArrayOpen m) ∷ []) (tokens_of_content (notated_content ts) ++ token nowhere ArrayClose ∷ [])
      (array_open m _ (is_size_mark s (count ts) h.0) (rw append_assoc (all_begin ts (93 ∷ z) h.1 refl)))
      (both (joined_by (codes ", ") (item_texts ts)) (codes "]") z (tokens_of_content (notated_content ts)) (token nowhere ArrayClose ∷ []) (all_text ts (93 ∷ z) h.1 (closes 93 z refl)) (one_token ArrayClose (codes "]") z (refl, refl)))
  node_text (PairNode p s es) z h close =
      let m = mark_for_size s (count_entries es) in
      both (codes "{" ++ opened m) (joined_by (codes ", ") (pair_texts es) ++ codes "}") z (token nowhere (MapOpen m) ∷ []) (tokens_of_fields (notated_fields es) ++ token nowhere MapClose ∷ [])
      (map_open m _ (is_size_mark s (count_entries es) h.0) (rw append_assoc (entries_begin es (125 ∷ z) h.1 refl)))
      (both (joined_by (codes ", ") (pair_texts es)) (codes "}") z (tokens_of_fields (notated_fields es)) (token nowhere MapClose ∷ []) (entries_text es (125 ∷ z) h.1 (closes 125 z refl)) (one_token MapClose (codes "}") z (refl, refl)))
  node_text (Tagged p w n t) z h close =
      let l = below w n h.0 in
      let m = mark_for w n in
      tag_whole n m (shown t) z _
      (both (decimal n ++ (indicator m ++ codes "(")) (shown t ++ codes ")") z (token nowhere (TagOpen n m) ∷ []) (tokens_of (notated t) ++ token nowhere ParenClose ∷ [])
      (tag_text n m _ (omega arith) (is_mark w n h.0))
      (both (shown t) (codes ")") z (tokens_of (notated t)) (token nowhere ParenClose ∷ []) (node_text t (41 ∷ z) h.1 (closes 41 z refl)) (paren_close z)))
  node_text (Simple p n) z h close = simple_text n z (simple_below n h) close

  all_text : (ts : Trees) (z : List ℕ) → FitsAll ts → Closes z → Chained (joined_by (codes ", ") (item_texts ts)) z (tokens_of_content (notated_content ts))
  all_text no_node z h close = no_text z
  all_text (more t ts) z h close =
      retell _ z _ _ (sym (row_tokens ts no_item (notated t)))
      (both (shown t) (further (item_texts ts)) z (tokens_of (notated t)) (more_tokens ts) (node_text t _ h.0 (further_close _ z close)) (more_text ts z h.1 close))

  more_text : (ts : Trees) (z : List ℕ) → FitsAll ts → Closes z → Chained (further (item_texts ts)) z (more_tokens ts)
  more_text no_node z h close = no_text z
  more_text (more t ts) z h close =
      both (codes ", ") (shown t ++ further (item_texts ts)) z (token nowhere Comma ∷ []) (tokens_of (notated t) ++ more_tokens ts) (comma_space _)
      (both (shown t) (further (item_texts ts)) z (tokens_of (notated t)) (more_tokens ts) (node_text t _ h.0 (further_close _ z close)) (more_text ts z h.1 close))

  entries_text : (es : Entries) (z : List ℕ) → FitsEntries es → Closes z → Chained (joined_by (codes ", ") (pair_texts es)) z (tokens_of_fields (notated_fields es))
  entries_text no_entry z h close = no_text z
  entries_text (entry k v es) z h close =
      retell _ z _ _ (sym (pair_tokens es no_pair (notated k) (notated v))) (pair_text k v _ z (more_pair_tokens es) (node_text k _ h.0 (closes 58 _ refl)) (node_text v _ h.1 (further_close _ z close)) (more_entries es z h.2 close))

  more_entries : (es : Entries) (z : List ℕ) → FitsEntries es → Closes z → Chained (further (pair_texts es)) z (more_pair_tokens es)
  more_entries no_entry z h close = no_text z
  more_entries (entry k v es) z h close =
      both (codes ", ") _ z (token nowhere Comma ∷ []) (tokens_of (notated k) ++ (token nowhere Colon ∷ (tokens_of (notated v) ++ more_pair_tokens es))) (comma_space _) (pair_text k v _ z (more_pair_tokens es) (node_text k _ h.0 (closes 58 _ refl)) (node_text v _ h.1 (further_close _ z close)) (more_entries es z h.2 close))

-- A sequence.

abbrev further_lines : Trees → List ℕ
further_lines ts = others (codes ",\n") (item_texts ts)

lines_close : (ts : Trees) (z : List ℕ) → Closes ((further_lines ts ++ codes "\n") ++ z)
lines_close no_node z = closes 10 _ refl
lines_close (more t ts) z = closes 44 _ refl

line_text : (t : Tree) (ts : Trees) (z : List ℕ) → Fits t → Chained (further_lines ts ++ codes "\n") z (more_tokens ts) → Chained ((shown t ++ further_lines ts) ++ codes "\n") z (tokens_of (notated t) ++ more_tokens ts)
line_text t ts z h1 h2 = grind (arith, append_assoc, both, lines_close, node_text)

more_lines : (ts : Trees) (z : List ℕ) → FitsAll ts → Chained (further_lines ts ++ codes "\n") z (more_tokens ts)
more_lines no_node z h = line z
more_lines (more t ts) z h =
    both (codes ",\n") ((shown t ++ further_lines ts) ++ codes "\n") z (token nowhere Comma ∷ []) (tokens_of (notated t) ++ more_tokens ts) (both (codes ",") (codes "\n") _ (token nowhere Comma ∷ []) [] (comma (10 ∷ _)) (line _)) (line_text t ts z h.0 (more_lines ts z h.1))

pub lines_text : (ts : Trees) (z : List ℕ) → FitsAll ts → Chained (shown_lines ts) z (tokens_of_input (notated_input ts))
lines_text no_node z h = no_text z
lines_text (more t ts) z h = retell _ z _ _ (sym (row_tokens ts no_item (notated t))) (line_text t ts z h.0 (more_lines ts z h.1))

-- What was shown has the tokens of the fixed notation.

pub shown_tokens : (profile : Profile) (nodes : Trees) (text : List ℕ) → FitsAll nodes → Shown nodes text → (tokens : List Token) × HasTokens profile text tokens × (list_map unplaced_token tokens ≡ tokens_of_input (notated_input nodes))
shown_tokens profile nodes text fits shown = subst (λ (x : List ℕ). HasBare profile x (tokens_of_input (notated_input nodes))) (sym shown.1) (whole_text profile (shown_lines nodes) (tokens_of_input (notated_input nodes)) (lines_text nodes [] fits))
