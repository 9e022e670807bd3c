-- Tokens that the relation takes are those of a tree within the limit, which says the same nodes and has the same meaning errors.
use Rattle.std.specs.Prelude.{◌≡◌, ◌+◌, ◌≤◌, ◌∷◌, ◌++◌}
use Rattle.cborn_edn.proofs.Common.{refl, sym, ap, ap₂, ◌∙◌, subst, ℕ, List, [], append_assoc, arith, false, Chunk, Tree, Items, Tagged, Trees, more, Entries, no_entry, entry, count, count_entries, spelled_all, Comma, Colon, ArrayOpen, ArrayClose, MapOpen, MapClose, EmbedOpen, EmbedClose, ChunkOpen, ParenClose, TagOpen, Mark, Token, Profile, MeaningError, StringKind, OfBytes, Span, token, Strings, RowBefore, PairsBefore, tokens_of, tokens_of_piece, tokens_of_pieces, tokens_of_strings, tokens_of_row, tokens_of_row_before, tokens_of_content, tokens_of_pairs, tokens_of_pairs_before, tokens_of_fields, tokens_of_input, depth, depth_of_piece, depth_of_pieces, depth_of_strings, depth_of_row, depth_of_row_before, depth_of_content, depth_of_pairs, depth_of_pairs_before, depth_of_fields, depth_of_input, AllowsCount, commas, commas_of_piece, commas_of_pieces, commas_of_strings, commas_of_row, commas_of_row_before, commas_of_content, commas_of_pairs, commas_of_pairs_before, commas_of_fields, commas_of_input, snoc, snoc_entry, node, str_of, str, kind_in, chunks, nodes, nodes_before, nodes_in, entries_before, entries_in, faults, faults_of_piece, faults_of_pieces, faults_of_strings, faults_of_row, faults_before, faults_in, faults_of_pairs, faults_before_pairs, faults_of_fields, nodes_of_input, faults_of_input, chunked_node, tag_errors, size_errors, width, size, Str, is_nil, joined, said_string, chunk, piece_errors, string_errors, chunk_errors, IsItem, IsPiece, text_piece, byte_piece, ArePieces, AreChunks, first, next, AreItems, last, before, IsContent, empty, ArePairs, last_pair, pair_before, IsFields, no_fields, IsText, nothing, Pairs as PairNode, no_node, ProfileTwo, HasTree, Input, Parse, Parsed}
use Rattle.cborn_edn.specs.devices.Syntax as tree
use Rattle.cborn_edn.specs.devices.Syntax.{Pairs}
use Rattle.cborn_edn.specs.devices.Said.{entries}
use Rattle.cborn_edn.specs.Grammar.{number, word, simple, tag, array, map, string, chunked, embedded, piece, also, tight, loose, tight_fields, loose_fields, items}
use Rattle.cborn_edn.proofs.Short.Derived.{both_allowed, derived_input}

-- a tree that has these tokens, says this and has these meaning errors
pub record Found {T S : Type 0} (tokens_in : T → List Token) (depth_in commas_in : T → ℕ) (said : T → S) (faults_of : T → List MeaningError) (p : Profile) (d : ℕ) (x : List Token) (s : S) (l : List MeaningError) : Type 0 where
  pub found : T
  pub tokens : tokens_in found ≡ x
  pub shallow : depth_in found ≤ d
  pub allowed : AllowsCount p (commas_in found)
  pub says : said found ≡ s
  pub errors : faults_of found ≡ l

abbrev pub FoundItem : Profile → ℕ → List Token → Tree → List MeaningError → Type 0
FoundItem = Found tokens_of depth commas node faults

abbrev FoundPiece : Profile → ℕ → List Token → Str → List MeaningError → Type 0
FoundPiece = Found tokens_of_piece depth_of_piece commas_of_piece str_of faults_of_piece

abbrev FoundPieces : Profile → ℕ → List Token → Str → List MeaningError → Type 0
FoundPieces = Found tokens_of_pieces depth_of_pieces commas_of_pieces str faults_of_pieces

abbrev chunks_said : Strings → StringKind × List Chunk
chunks_said ss = (kind_in ss, chunks ss)

abbrev FoundChunks : Profile → ℕ → List Token → StringKind × List Chunk → List MeaningError → Type 0
FoundChunks = Found tokens_of_strings depth_of_strings commas_of_strings chunks_said faults_of_strings

abbrev FoundRow : Profile → ℕ → List Token → Trees → List MeaningError → Type 0
FoundRow = Found tokens_of_row depth_of_row commas_of_row nodes faults_of_row

abbrev FoundContent : Profile → ℕ → List Token → Trees → List MeaningError → Type 0
FoundContent = Found tokens_of_content depth_of_content commas_of_content nodes_in faults_in

abbrev FoundPairs : Profile → ℕ → List Token → Entries → List MeaningError → Type 0
FoundPairs = Found tokens_of_pairs depth_of_pairs commas_of_pairs entries faults_of_pairs

abbrev FoundFields : Profile → ℕ → List Token → Entries → List MeaningError → Type 0
FoundFields = Found tokens_of_fields depth_of_fields commas_of_fields entries_in faults_of_fields

abbrev pub FoundInput : Profile → ℕ → List Token → Trees → List MeaningError → Type 0
FoundInput = Found tokens_of_input depth_of_input commas_of_input nodes_of_input faults_of_input

none_allowed : (p : Profile) → AllowsCount p 0
none_allowed p = grind arith

any_allowed : (p : Profile) (n : ℕ) → p ≡ ProfileTwo → AllowsCount p n
any_allowed p n e = subst (λ q. AllowsCount q n) (sym e) tt

pub both_parts : {A : Type 0} {a a' b b' : List A} → a ≡ a' → b ≡ b' → (a ++ b) ≡ (a' ++ b')
both_parts e g = ap₂ (λ x y. x ++ y) e g

abbrev append_nodes : Trees → Trees → Trees
append_nodes no_node us = us
append_nodes (more t ts) us = more t (append_nodes ts us)

abbrev append_entries : Entries → Entries → Entries
append_entries no_entry us = us
append_entries (entry k v es) us = entry k v (append_entries es us)

snoc-append : (ts us : Trees) (t : Tree) → append_nodes (snoc ts t) us ≡ append_nodes ts (more t us)
snoc-append no_node us t = refl
snoc-append (more u ts) us t = ap (λ vs. more u vs) (snoc-append ts us t)

snoc-is : (ts : Trees) (t : Tree) → snoc ts t ≡ append_nodes ts (more t no_node)
snoc-is no_node t = refl
snoc-is (more u ts) t = ap (λ vs. more u vs) (snoc-is ts t)

snoc_entry-append : (es us : Entries) (k v : Tree) → append_entries (snoc_entry es k v) us ≡ append_entries es (entry k v us)
snoc_entry-append no_entry us k v = refl
snoc_entry-append (entry l w es) us k v = ap (λ vs. entry l w vs) (snoc_entry-append es us k v)

snoc_entry-is : (es : Entries) (k v : Tree) → snoc_entry es k v ≡ append_entries es (entry k v no_entry)
snoc_entry-is no_entry k v = refl
snoc_entry-is (entry l w es) k v = ap (λ vs. entry l w vs) (snoc_entry-is es k v)

abbrev embedded_str : Span → Span → Mark → List MeaningError → Trees → Str
embedded_str a e m l ts = record { kind = OfBytes; place = a.start; lone = false; known = is_nil l; bytes = spelled_all ts; mark = m; mark_place = e.start }

module _ (p : Profile) where
  mutual
    pub rebuilt : {d : ℕ} {x : List Token} {t : Tree} {l : List MeaningError} → IsItem p d x t l → FoundItem p d x t l
    rebuilt (number {v = v} {n = n} {m = m} a h) = record { found = tree.number a n v m; tokens = refl; shallow = h; allowed = none_allowed p; says = refl; errors = refl }
    rebuilt (word {n = n} a) = record { found = tree.word a n; tokens = refl; shallow = omega arith; allowed = none_allowed p; says = refl; errors = refl }
    rebuilt (simple {v = v} {n = n} {m = m} a b e h) = record { found = tree.simple a b n v m e; tokens = refl; shallow = h; allowed = none_allowed p; says = refl; errors = refl }
    rebuilt (tag {n = n} {m = m} a e i) =
        let r = rebuilt i in
        record {
          found = tree.tag a n m r.found e;
          tokens = ap (λ y. token a (TagOpen n m) ∷ y ++ token e ParenClose ∷ []) r.tokens;
          shallow = omega (arith, r.shallow);
          allowed = r.allowed;
          says = ap (λ u. Tagged a.start (width m n) n u) r.says;
          errors = ap (λ k. tag_errors a.start m n ++ k) r.errors;
        }
    rebuilt (array {m = m} a e c) =
        let r = rebuilt_content c in
        record {
          found = tree.array a m r.found e;
          tokens = ap (λ y. token a (ArrayOpen m) ∷ y ++ token e ArrayClose ∷ []) r.tokens;
          shallow = omega (arith, r.shallow);
          allowed = r.allowed;
          says = ap (λ us. Items a.start (size m (count us)) us) r.says;
          errors = both_parts r.errors (ap (λ us. size_errors a.start m (count us)) r.says);
        }
    rebuilt (map {m = m} a e f) =
        let r = rebuilt_fields f in
        record {
          found = tree.map a m r.found e;
          tokens = ap (λ y. token a (MapOpen m) ∷ y ++ token e MapClose ∷ []) r.tokens;
          shallow = omega (arith, r.shallow);
          allowed = r.allowed;
          says = ap (λ us. PairNode a.start (size m (count_entries us)) us) r.says;
          errors = both_parts r.errors (ap (λ us. size_errors a.start m (count_entries us)) r.says);
        }
    rebuilt (string ps) =
        let r = rebuilt_pieces ps in
        record { found = tree.string r.found; tokens = r.tokens; shallow = r.shallow; allowed = r.allowed; says = ap said_string r.says; errors = both_parts r.errors (ap (λ (s : Str). string_errors s.lone s) r.says) }
    rebuilt (chunked a e cs) =
        let r = rebuilt_chunks cs in
        record {
          found = tree.chunked a r.found e;
          tokens = ap (λ y. token a ChunkOpen ∷ y ++ token e ParenClose ∷ []) r.tokens;
          shallow = r.shallow;
          allowed = r.allowed;
          says = ap (λ (q : StringKind × List Chunk). chunked_node q.0 a.start q.1) r.says;
          errors = r.errors;
        }

    rebuilt_piece : {d : ℕ} {x : List Token} {s : Str} {l : List MeaningError} → IsPiece p d x s l → FoundPiece p d x s l
    rebuilt_piece (text_piece {b = b} {m = m} a) = record { found = tree.text a b m; tokens = refl; shallow = omega arith; allowed = none_allowed p; says = refl; errors = refl }
    rebuilt_piece (byte_piece {q = q} {b = b} {m = m} a) = record { found = tree.bytes a q b m; tokens = refl; shallow = omega arith; allowed = none_allowed p; says = refl; errors = refl }
    rebuilt_piece (embedded a e m c) =
        let r = rebuilt_content c in
        record {
          found = tree.embedded a r.found e m;
          tokens = ap (λ y. token a EmbedOpen ∷ y ++ token e (EmbedClose m) ∷ []) r.tokens;
          shallow = omega (arith, r.shallow);
          allowed = r.allowed;
          says = ap₂ (embedded_str a e m) r.errors r.says;
          errors = r.errors;
        }

    rebuilt_pieces : {d : ℕ} {x : List Token} {s : Str} {l : List MeaningError} → ArePieces p d x s l → FoundPieces p d x s l
    rebuilt_pieces (piece q) =
        let r = rebuilt_piece q in
        record { found = tree.piece r.found; tokens = r.tokens; shallow = r.shallow; allowed = r.allowed; says = r.says; errors = r.errors }
    rebuilt_pieces (also ps q) =
        let r = rebuilt_pieces ps in
        let f = rebuilt_piece q in
        record {
          found = tree.also r.found f.found;
          tokens = both_parts r.tokens f.tokens;
          shallow = omega (arith, r.shallow, f.shallow);
          allowed = both_allowed p (commas_of_pieces r.found) (commas_of_piece f.found) r.allowed f.allowed;
          says = ap₂ joined r.says f.says;
          errors = both_parts r.errors (both_parts f.errors (ap₂ piece_errors r.says f.says));
        }

    rebuilt_chunks : {d : ℕ} {x : List Token} {k : StringKind} {cs : List Chunk} {l : List MeaningError} → AreChunks p d x k cs l → FoundChunks p d x (k, cs) l
    rebuilt_chunks (first ps) =
        let r = rebuilt_pieces ps in
        record {
          found = tree.strings tree.no_string r.found;
          tokens = r.tokens;
          shallow = omega (arith, r.shallow);
          allowed = both_allowed p 0 (commas_of_pieces r.found) (none_allowed p) r.allowed;
          says = ap (λ (s : Str). (s.kind, chunk s ∷ [])) r.says;
          errors = both_parts r.errors (ap (string_errors false) r.says);
        }
    rebuilt_chunks (next {x = x} {y = y} a cs ps) =
        let c = rebuilt_chunks cs in
        let r = rebuilt_pieces ps in
        record {
          found = tree.strings (tree.after_strings c.found a) r.found;
          tokens = append_assoc (tokens_of_strings c.found) (token a Comma ∷ []) (tokens_of_pieces r.found) ∙ both_parts c.tokens (ap (λ z. token a Comma ∷ z) r.tokens);
          shallow = omega (arith, c.shallow, r.shallow);
          allowed = both_allowed p (commas_of_strings c.found) (commas_of_pieces r.found) c.allowed r.allowed;
          says = ap₂ (λ (q : StringKind × List Chunk) (s : Str). (q.0, q.1 ++ chunk s ∷ [])) c.says r.says;
          errors = both_parts c.errors (both_parts r.errors (ap₂ (λ (q : StringKind × List Chunk) (s : Str). chunk_errors q.0 s) c.says r.says));
        }

    -- an item after those before it
    rebuilt_items : {d : ℕ} {x : List Token} {ts : Trees} {l : List MeaningError} → AreItems p d x ts l → (b : RowBefore) → depth_of_row_before b ≤ d → AllowsCount p (commas_of_row_before b)
        → FoundRow p d (tokens_of_row_before b ++ x) (append_nodes (nodes_before b) ts) (faults_before b ++ l)
    rebuilt_items (last i) b h w =
        let r = rebuilt i in
        record {
          found = tree.row b r.found;
          tokens = ap (λ z. tokens_of_row_before b ++ z) r.tokens;
          shallow = omega (arith, h, r.shallow);
          allowed = both_allowed p (commas_of_row_before b) (commas r.found) w r.allowed;
          says = ap (snoc (nodes_before b)) r.says ∙ snoc-is (nodes_before b) _;
          errors = ap (λ z. faults_before b ++ z) r.errors;
        }
    rebuilt_items (before {y = y} {ts = ts} {r = s} a i is) b h w =
        let f = rebuilt i in
        let r = rebuilt_items is (tree.after_row (tree.row b f.found) a) (omega (arith, h, f.shallow)) (both_allowed p (commas_of_row_before b) (commas f.found) w f.allowed) in
        record {
          found = r.found;
          tokens = r.tokens ∙ append_assoc (tokens_of_row_before b ++ tokens_of f.found) (token a Comma ∷ []) y ∙ append_assoc (tokens_of_row_before b) (tokens_of f.found) (token a Comma ∷ y) ∙ ap (λ z. tokens_of_row_before b ++ (z ++ token a Comma ∷ y)) f.tokens;
          shallow = r.shallow;
          allowed = r.allowed;
          says = r.says ∙ snoc-append (nodes_before b) ts (node f.found) ∙ ap (λ t. append_nodes (nodes_before b) (more t ts)) f.says;
          errors = r.errors ∙ append_assoc (faults_before b) (faults f.found) s ∙ ap (λ z. faults_before b ++ (z ++ s)) f.errors;
        }

    rebuilt_content : {d : ℕ} {x : List Token} {ts : Trees} {l : List MeaningError} → IsContent p d x ts l → FoundContent p d x ts l
    rebuilt_content empty = record { found = tree.loose tree.no_item; tokens = refl; shallow = omega arith; allowed = both_allowed p 0 0 (none_allowed p) (none_allowed p); says = refl; errors = refl }
    rebuilt_content (tight is) =
        let r = rebuilt_items is tree.no_item (omega arith) (none_allowed p) in
        record { found = tree.tight r.found; tokens = r.tokens; shallow = r.shallow; allowed = r.allowed; says = r.says; errors = r.errors }
    rebuilt_content (loose a e is) =
        let r = rebuilt_items is tree.no_item (omega arith) (none_allowed p) in
        record { found = tree.loose (tree.after_row r.found a); tokens = ap (λ z. z ++ token a Comma ∷ []) r.tokens; shallow = r.shallow; allowed = any_allowed p (commas_of_row r.found + 1) e; says = r.says; errors = r.errors }

    rebuilt_pairs : {d : ℕ} {x : List Token} {es : Entries} {l : List MeaningError} → ArePairs p d x es l → (b : PairsBefore) → depth_of_pairs_before b ≤ d → AllowsCount p (commas_of_pairs_before b)
        → FoundPairs p d (tokens_of_pairs_before b ++ x) (append_entries (entries_before b) es) (faults_before_pairs b ++ l)
    rebuilt_pairs (last_pair a k v) b h w =
        let f = rebuilt k in
        let g = rebuilt v in
        record {
          found = tree.pairs b f.found a g.found;
          tokens = ap (λ z. tokens_of_pairs_before b ++ z) (both_parts f.tokens (ap (λ z. token a Colon ∷ z) g.tokens));
          shallow = omega (arith, h, f.shallow, g.shallow);
          allowed = both_allowed p (commas_of_pairs_before b + commas f.found) (commas g.found) (both_allowed p (commas_of_pairs_before b) (commas f.found) w f.allowed) g.allowed;
          says = ap₂ (snoc_entry (entries_before b)) f.says g.says ∙ snoc_entry-is (entries_before b) _ _;
          errors = ap (λ z. faults_before_pairs b ++ z) (both_parts f.errors g.errors);
        }
    rebuilt_pairs (pair_before {z = z} {es = es} {s = s} a c k v is) b h w =
        let f = rebuilt k in
        let g = rebuilt v in
        let r = rebuilt_pairs is (tree.after_pairs (tree.pairs b f.found a g.found) c) (omega (arith, h, f.shallow, g.shallow)) (both_allowed p (commas_of_pairs_before b + commas f.found) (commas g.found) (both_allowed p (commas_of_pairs_before b) (commas f.found) w f.allowed) g.allowed) in
        let tb = tokens_of_pairs_before b in
        let tk = tokens_of f.found in
        let tv = tokens_of g.found in
        record {
          found = r.found;
          tokens = r.tokens ∙ append_assoc (tb ++ (tk ++ (token a Colon ∷ tv))) (token c Comma ∷ []) z ∙ append_assoc tb (tk ++ (token a Colon ∷ tv)) (token c Comma ∷ z)
              ∙ ap (λ y. tb ++ y) (append_assoc tk (token a Colon ∷ tv) (token c Comma ∷ z) ∙ both_parts f.tokens (ap (λ y. token a Colon ∷ (y ++ token c Comma ∷ z)) g.tokens));
          shallow = r.shallow;
          allowed = r.allowed;
          says = r.says ∙ snoc_entry-append (entries_before b) es (node f.found) (node g.found) ∙ ap₂ (λ (t u : Tree). append_entries (entries_before b) (entry t u es)) f.says g.says;
          errors = r.errors ∙ append_assoc (faults_before_pairs b) (faults f.found ++ faults g.found) s
              ∙ ap (λ y. faults_before_pairs b ++ y) (append_assoc (faults f.found) (faults g.found) s ∙ both_parts f.errors (ap (λ y. y ++ s) g.errors));
        }

    rebuilt_fields : {d : ℕ} {x : List Token} {es : Entries} {l : List MeaningError} → IsFields p d x es l → FoundFields p d x es l
    rebuilt_fields no_fields = record { found = tree.loose_fields tree.no_pair; tokens = refl; shallow = omega arith; allowed = both_allowed p 0 0 (none_allowed p) (none_allowed p); says = refl; errors = refl }
    rebuilt_fields (tight_fields is) =
        let r = rebuilt_pairs is tree.no_pair (omega arith) (none_allowed p) in
        record { found = tree.tight_fields r.found; tokens = r.tokens; shallow = r.shallow; allowed = r.allowed; says = r.says; errors = r.errors }
    rebuilt_fields (loose_fields a e is) =
        let r = rebuilt_pairs is tree.no_pair (omega arith) (none_allowed p) in
        record { found = tree.loose_fields (tree.after_pairs r.found a); tokens = ap (λ z. z ++ token a Comma ∷ []) r.tokens; shallow = r.shallow; allowed = any_allowed p (commas_of_pairs r.found + 1) e; says = r.says; errors = r.errors }

  pub rebuilt_input : {d : ℕ} {x : List Token} {ts : Trees} {l : List MeaningError} → IsText p d x ts l → FoundInput p d x ts l
  rebuilt_input nothing = record { found = tree.nothing; tokens = refl; shallow = omega arith; allowed = none_allowed p; says = refl; errors = refl }
  rebuilt_input (items is) =
      let r = rebuilt_items is tree.no_item (omega arith) (none_allowed p) in
      record { found = tree.items r.found; tokens = r.tokens; shallow = r.shallow; allowed = r.allowed; says = r.says; errors = r.errors }

-- Tokens are a text of the relation exactly if they are those of a tree, with what it says.

-- a tree's tokens are a text of the relation
pub text_of : (p : Profile) (limit : ℕ) (x : List Token) (t : Input) → Parse p x t → depth_of_input t ≤ limit → IsText p limit x (nodes_of_input t) (faults_of_input t)
text_of p limit x t h k = subst (λ y. IsText p limit y (nodes_of_input t) (faults_of_input t)) h.is (derived_input p t limit k h.allowed)

-- a text of the relation has a tree
pub parsed : (p : Profile) (limit : ℕ) (x : List Token) (ts : Trees) (l : List MeaningError) → IsText p limit x ts l → Parsed p limit x ts l
parsed p limit x ts l h1 = grind (arith, rebuilt_input)

pub said_by : (p : Profile) (limit : ℕ) (x : List Token) (ts : Trees) (l : List MeaningError) → Parsed p limit x ts l → IsText p limit x ts l
said_by p limit x ts l h = subst (λ us. IsText p limit x us l) h.says (subst (IsText p limit x (nodes_of_input h.tree)) h.errors (text_of p limit x h.tree h.parse h.shallow))

pub has_tree : (p : Profile) (limit : ℕ) (x : List Token) (t : Input) → Parse p x t → depth_of_input t ≤ limit → HasTree p limit x
has_tree p limit x t h k = (nodes_of_input t, faults_of_input t, text_of p limit x t h k)
