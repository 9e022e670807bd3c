-- Tokens of the fixed notation of nodes, wherever they stand, say these nodes, places aside.
use Rattle.std.specs.Prelude.{◌≡◌, ◌^◌, ◌≤◌, ◌∷◌, ◌++◌, ◌==◌}
use Rattle.cborn_edn.proofs.Common.{refl, sym, ap, ap₂, ◌∙◌, subst, ℕ, zero, suc, List, [], length, Bool, true, false, ltb, cond, append_assoc, append-nil, arith, IsTrue, is_utf8-from_IsUtf8, lt-ltb, Width, Size, Fixed, Chunk, Tree, Uint, Nint, ByteChunks, TextChunks, Items, Tagged, Simple, Trees, more, Entries, no_entry, entry, count, count_entries, depth_all, depth_entries, following, is_simple_value, WidthFits, SizeFits, ChunksFit, Fits, FitsAll, FitsEntries, Mark, Absent, Endless, Class, ArrayOpen, ArrayClose, MapOpen, MapClose, ParenClose, Comma, Colon, ChunkOpen, Number, TagOpen, Word, SimpleOpen, Text, Bytes, Token, Profile, IndicatorNotAllowed, MixedChunks, BadSimple, TagTooLarge, TextNotUtf8, MeaningError, StringKind, OfBytes, OfText, span, tokens_of, tokens_of_pieces, tokens_of_strings, tokens_of_content, tokens_of_fields, tokens_of_input, is_endless, width, size, unless, width_errors, size_errors, argument_of, is_small, integer, bignum, is_good, is_absent, string_node, chunked_node, Str, quoted, said_string, chunk, string_errors, IsItem, IsPiece, text_piece, byte_piece, AreChunks, first, next, AreItems, last, before, IsContent, empty, ArePairs, last_pair, pair_before, IsFields, no_fields, IsText, nothing, unplaced_token, nowhere, one_piece, chunk_pieces, chunk_row, chunk_item, simple_item, notated, notated_content, notated_fields, notated_input, unplaced_chunks, unplaced, unplaced_all, unplaced_entries, mark_for, mark_for_size, IsShowable, EachShowable, ArePairsShowable, ByteNode, TextNode, Pairs as PairNode, no_node, Span, token, map as list_map, simple_below}
use Rattle.cborn_model.specs.Tree.{depth}
use Rattle.cborn_edn.specs.devices.Syntax as tree
use Rattle.cborn_edn.specs.Grammar.{number, word, simple, tag, array, map, string, chunked, piece, tight, tight_fields, items}
use Rattle.cborn_edn.proofs.Lexed.NodeTexts.{more_tokens, more_pair_tokens, more_chunk_tokens, row_tokens, chunk_tokens, pair_tokens}
use Rattle.cborn_edn.proofs.RoundTrip.Back.{below, count-unplaced, count-unplaced_entries}
use Rattle.cborn_edn.proofs.Short.Rebuilt.{both_parts}
use Rattle.cborn_edn.proofs.Shown.Characters.{AreGood, bytes_good, texts_good}
use Rattle.cborn_edn.proofs.Reader.Built.{same_same}

-- Tokens whose classes are known.

no_tokens : (x : List Token) → list_map unplaced_token x ≡ [] → x ≡ []
no_tokens [] e = refl
no_tokens (t ∷ x) e = absurd (let bad : unplaced_token t ∷ list_map unplaced_token x ≡ [] = e in cc)

-- in two parts
parted : (x y z : List Token) → list_map unplaced_token x ≡ y ++ z → (front : List Token) × (back : List Token) × (x ≡ front ++ back) × (list_map unplaced_token front ≡ y) × (list_map unplaced_token back ≡ z)
parted x [] z e = ([], x, refl, refl, e)
parted [] (t ∷ y) z e = absurd (let bad : [] ≡ t ∷ (y ++ z) = e in cc)
parted (s ∷ x) (t ∷ y) z e =
    let h : unplaced_token s ≡ t = cc in
    let r = parted x y z cc in
    (s ∷ r.0, r.1, ap (λ w. s ∷ w) r.2, ap₂ (λ (a : Token) (w : List Token). a ∷ w) h r.3, r.4)

-- a token of this class, and others
first_token : (x : List Token) (k : Class) (y : List Token) → list_map unplaced_token x ≡ token nowhere k ∷ y → (at : Span) × (rest : List Token) × (x ≡ token at k ∷ rest) × (list_map unplaced_token rest ≡ y)
first_token [] k y e = absurd (let bad : [] ≡ token nowhere k ∷ y = e in cc)
first_token (t ∷ x) k y e =
    let h : unplaced_token t ≡ token nowhere k = cc in
    (span t, x, ap (λ (u : Token). token (span t) u.class ∷ x) h, cc)

-- a token of this class alone
alone : (x : List Token) (k : Class) → list_map unplaced_token x ≡ token nowhere k ∷ [] → (a : Span) × (token a k ∷ [] ≡ x)
alone x k e = let b = first_token x k [] e in (b.0, sym (b.2 ∙ ap (λ w. token b.0 k ∷ w) (no_tokens b.1 b.3)))

-- tokens between two of these classes
enclosed : (x : List Token) (k end : Class) (y : List Token) → list_map unplaced_token x ≡ token nowhere k ∷ y ++ token nowhere end ∷ [] → (at : Span) × (stop : Span) × (inner : List Token) × (token at k ∷ inner ++ token stop end ∷ [] ≡ x) × (list_map unplaced_token inner ≡ y)
enclosed x k end y e =
    let b = first_token x k (y ++ token nowhere end ∷ []) e in
    let q = parted b.1 y (token nowhere end ∷ []) b.3 in
    let c = alone q.1 end q.4 in
    (b.0, c.0, q.0, sym (b.2 ∙ ap (λ w. token b.0 k ∷ w) (q.2 ∙ ap (λ w. q.0 ++ w) (sym c.1))), q.3)

-- a key, a value and what follows them
paired : (x y z w : List Token) → list_map unplaced_token x ≡ y ++ token nowhere Colon ∷ (z ++ w) → (key : List Token) × (colon : Span) × (value : List Token) × (rest : List Token) × (x ≡ key ++ token colon Colon ∷ (value ++ rest)) × (list_map unplaced_token key ≡ y) × (list_map unplaced_token value ≡ z) × (list_map unplaced_token rest ≡ w)
paired x y z w e =
    let q = parted x y (token nowhere Colon ∷ (z ++ w)) e in
    let c = first_token q.1 Colon (z ++ w) q.4 in
    let r = parted c.1 z w c.3 in
    (q.0, c.0, r.0, r.1, q.2 ∙ ap (λ u. q.0 ++ u) (c.2 ∙ ap (λ u. token c.0 Colon ∷ u) r.2), q.3, r.3, r.4)

-- The indicator of a width.

abbrev as_long : Width → Width → ℕ → Bool
as_long w v n = length (following w n) == length (following v n)

-- it asks for this width, and for no indefinite length
abbrev Marks : Width → ℕ → Mark → Type 0
Marks w n m = (width m n ≡ w) × (size m n ≡ Fixed w) × (is_endless m ≡ false) × ((p : ℕ) → WidthFits w n → width_errors p m n ≡ []) × ((p : ℕ) → WidthFits w n → size_errors p m n ≡ [])

marks : (w : Width) (n : ℕ) → Marks w n (mark_for w n)
marks w n = grind arith

size_back : (s : Size) (n : ℕ) → size (mark_for_size s n) n ≡ s
size_back s n = grind arith

no_size_errors : (p : ℕ) (s : Size) (n : ℕ) → SizeFits s n → size_errors p (mark_for_size s n) n ≡ []
no_size_errors p s n h1 = grind arith

-- What tokens say, without a meaning error, is this but for places.
record Said {S : Type 0} (Is : List Token → S → List MeaningError → Type 0) (aside : S → S) (x : List Token) (s : S) : Type 0 where
  says : S
  errors : List MeaningError
  said : Is x says errors
  none : errors ≡ []
  same : aside says ≡ s

-- what they say and its meaning errors are those of the relation
stated : {S : Type 0} {Is : List Token → S → List MeaningError → Type 0} {aside : S → S} {x : List Token} {s : S} (says : S) (errors : List MeaningError) → Is x says errors → errors ≡ [] → aside says ≡ s → Said Is aside x s
stated says errors said none same = record { says = says; errors = errors; said = said; none = none; same = same }

said_at : {S : Type 0} {Is : List Token → S → List MeaningError → Type 0} {aside : S → S} {x y : List Token} {s : S} → x ≡ y → Said Is aside x s → Said Is aside y s
said_at {S} {Is} {aside} {x} {y} {s} e h = subst (λ z. Said Is aside z s) e h

-- Strings of one piece.

abbrev class_of : StringKind → List ℕ → Mark → Class
class_of OfBytes b m = Bytes false b m
class_of OfText b m = Text b m

abbrev is_text : StringKind → Bool
is_text OfBytes = false
is_text OfText = true

abbrev str_of : StringKind → Span → List ℕ → Mark → Str
str_of k a b m = quoted k a.start (is_text k) b m

one_token : (k : StringKind) (b : List ℕ) (m : Mark) → tokens_of_pieces (one_piece k b m) ≡ token nowhere (class_of k b m) ∷ []
one_token k b m = grind arith

piece_at : {p : Profile} {d : ℕ} (k : StringKind) (a : Span) (b : List ℕ) (m : Mark) → IsPiece p d (token a (class_of k b m) ∷ []) (str_of k a b m) []
piece_at k a b m = grind (arith, byte_piece, text_piece)

no_string_errors : (e : Bool) (k : StringKind) (a : Span) (w : Width) (b : List ℕ) → WidthFits w (length b) → is_good k b ≡ true → string_errors e (str_of k a b (mark_for w (length b))) ≡ []
no_string_errors e k a w b h1 h2 = grind arith

unplaced_string : (k : StringKind) (p : ℕ) (w : Width) (b : List ℕ) → unplaced (string_node k p w b) ≡ string_node k 0 w b
unplaced_string k p w b = grind arith

unplaced_chunked : (k : StringKind) (p : ℕ) (cs : List Chunk) → unplaced (chunked_node k p cs) ≡ chunked_node k 0 (unplaced_chunks cs)
unplaced_chunked k p cs = grind arith

string_is : (k : StringKind) (a : Span) (w : Width) (b : List ℕ) → said_string (str_of k a b (mark_for w (length b))) ≡ string_node k a.start w b
string_is k a w b = grind arith

-- Chunks.

chunks-append : (cs ds : List Chunk) → unplaced_chunks (cs ++ ds) ≡ unplaced_chunks cs ++ unplaced_chunks ds
chunks-append [] ds = refl
chunks-append (c ∷ cs) ds = ap (λ l. record c { place = 0 } ∷ l) (chunks-append cs ds)

abbrev made_chunk : Width → List ℕ → Chunk
made_chunk w b = record { place = 0; width = w; bytes = b }

abbrev SaidItem : Profile → ℕ → List Token → Tree → Type 0
SaidItem p d = Said (IsItem p d) unplaced

abbrev SaidChunks : Profile → ℕ → StringKind → List Token → List Chunk → Type 0
SaidChunks p d k = Said (λ x cs l. AreChunks p d x k cs l) unplaced_chunks

one_chunk : (k : StringKind) (c : Chunk) (x : List Token) → list_map unplaced_token x ≡ tokens_of_pieces (chunk_pieces k c) → (a : Span) × (token a (class_of k c.bytes (mark_for c.width (length c.bytes))) ∷ [] ≡ x)
one_chunk k c x e = alone x _ (e ∙ one_token k c.bytes (mark_for c.width (length c.bytes)))

module _ {p : Profile} {d : ℕ} where
  -- the chunks after some
  more_chunks : (k : StringKind) (cs ds : List Chunk) (x y : List Token) → SaidChunks p d k x ds → list_map unplaced_token y ≡ more_chunk_tokens k cs → ChunksFit cs → AreGood k cs → SaidChunks p d k (x ++ y) (ds ++ unplaced_chunks cs)
  more_chunks k [] ds x y h e fits good =
      said_at (sym (ap (λ w. x ++ w) (no_tokens y e) ∙ append-nil x)) (stated _ _ h.said h.none (h.same ∙ sym (append-nil ds)))
  more_chunks k (c ∷ cs) ds x y h e fits good =
      let b = first_token y Comma (tokens_of_pieces (chunk_pieces k c) ++ more_chunk_tokens k cs) e in
      let q = parted b.1 (tokens_of_pieces (chunk_pieces k c)) (more_chunk_tokens k cs) b.3 in
      let a = one_chunk k c q.0 q.3 in
      let m = mark_for c.width (length c.bytes) in
      let s = str_of k a.0 c.bytes m in
      let one : SaidChunks p d k (x ++ token b.0 Comma ∷ q.0) (ds ++ made_chunk c.width c.bytes ∷ []) = said_at (ap (λ w. x ++ token b.0 Comma ∷ w) a.1)
      (stated _ _ (next b.0 h.said (piece (piece_at k a.0 c.bytes m)))
      (both_parts h.none (both_parts (ap (λ t. unless t a.0.start MixedChunks) (same_same k)) (no_string_errors false k a.0 c.width c.bytes fits.0.0 good.0)))
      (chunks-append h.says (chunk s ∷ []) ∙ ap₂ (λ (us : List Chunk) (w : Width). us ++ made_chunk w c.bytes ∷ []) h.same (marks c.width (length c.bytes)).0)) in
      let r = more_chunks k cs (ds ++ made_chunk c.width c.bytes ∷ []) (x ++ token b.0 Comma ∷ q.0) q.1 one q.4 fits.1 good.1 in
      said_at (append_assoc x (token b.0 Comma ∷ q.0) q.1 ∙ ap (λ w. x ++ w) (sym (b.2 ∙ ap (λ w. token b.0 Comma ∷ w) q.2))) (subst (λ us. SaidChunks p d k ((x ++ token b.0 Comma ∷ q.0) ++ q.1) us) (append_assoc ds (made_chunk c.width c.bytes ∷ []) (unplaced_chunks cs)) r)

  chunks_said : (k : StringKind) (c : Chunk) (cs : List Chunk) (x : List Token) → list_map unplaced_token x ≡ tokens_of_pieces (chunk_pieces k c) ++ more_chunk_tokens k cs → ChunksFit (c ∷ cs) → AreGood k (c ∷ cs) → SaidChunks p d k x (unplaced_chunks (c ∷ cs))
  chunks_said k c cs x e fits good =
      let q = parted x (tokens_of_pieces (chunk_pieces k c)) (more_chunk_tokens k cs) e in
      let a = one_chunk k c q.0 q.3 in
      let m = mark_for c.width (length c.bytes) in
      let s = str_of k a.0 c.bytes m in
      let one : SaidChunks p d k q.0 (made_chunk c.width c.bytes ∷ []) = said_at a.1
      (stated _ _ (first (piece (piece_at k a.0 c.bytes m))) (no_string_errors false k a.0 c.width c.bytes fits.0.0 good.0) (ap (λ w. made_chunk w c.bytes ∷ []) (marks c.width (length c.bytes)).0)) in
      said_at (sym q.2) (more_chunks k cs (made_chunk c.width c.bytes ∷ []) q.0 q.1 one q.4 fits.1 good.1)

  empty_said : (k : StringKind) (x : List Token) → list_map unplaced_token x ≡ tokens_of (chunk_item k []) → SaidItem p d x (chunked_node k 0 [])
  empty_said OfBytes x e = let a = alone x (Bytes true [] Endless) e in said_at a.1 (stated _ _ (string (piece (byte_piece a.0))) refl refl)
  empty_said OfText x e =
      let a = alone x (Text [] Endless) e in
      said_at a.1 (stated _ _ (string (piece (text_piece a.0))) (ap (λ b. unless b a.0.start TextNotUtf8) (is_utf8-from_IsUtf8 [] ([], (refl, refl)))) refl)

  chunked_said : (k : StringKind) (cs : List Chunk) (x : List Token) → list_map unplaced_token x ≡ tokens_of (chunk_item k cs) → ChunksFit cs → AreGood k cs → SaidItem p d x (chunked_node k 0 (unplaced_chunks cs))
  chunked_said k [] x e fits good = empty_said k x e
  chunked_said k (c ∷ cs) x e fits good =
      let o = enclosed x ChunkOpen ParenClose (tokens_of_strings (chunk_row k cs tree.no_string c)) e in
      let r = chunks_said k c cs o.2 (o.4 ∙ chunk_tokens k cs tree.no_string c) fits good in
      said_at o.3 (stated _ _ (chunked o.0 o.1 r.said) r.none (unplaced_chunked k o.0.start r.says ∙ ap (chunked_node k 0) r.same))

  string_said : (k : StringKind) (w : Width) (b : List ℕ) (x : List Token) → list_map unplaced_token x ≡ token nowhere (class_of k b (mark_for w (length b))) ∷ [] → WidthFits w (length b) → is_good k b ≡ true → SaidItem p d x (string_node k 0 w b)
  string_said k w b x e h good =
      let m = mark_for w (length b) in
      let a = alone x (class_of k b m) e in
      let s = str_of k a.0 b m in
      said_at a.1 (stated _ _ (string (piece (piece_at k a.0 b m))) (no_string_errors s.lone k a.0 w b h good) (ap unplaced (string_is k a.0 w b) ∙ unplaced_string k a.0.start w b))

  -- an integer of major type 0 or 1
  number_said : (n : Bool) (v : ℕ) (w : Width) (t : Tree) (x : List Token) → list_map unplaced_token x ≡ token nowhere (Number n v (mark_for w (argument_of n v))) ∷ [] → WidthFits w (argument_of n v) → ((q : ℕ) → unplaced (integer q n v w) ≡ t) → SaidItem p d x t
  number_said n v w t x e h f =
      let m = mark_for w (argument_of n v) in
      let a = alone x (Number n v m) e in
      let q = a.0.start in
      let small : is_small n v ≡ true = lt-ltb (argument_of n v) (2 ^ 64) (below w (argument_of n v) h) in
      said_at a.1 (stated _ _ (number a.0 (subst (λ b. cond b 0 1 ≤ d) (sym small) (omega arith)))
      (ap (λ b. cond b (width_errors q m (argument_of n v)) (unless (is_absent m) q IndicatorNotAllowed)) small ∙ (marks w (argument_of n v)).3 q h)
      (ap (λ b. unplaced (cond b (integer q n v (width m (argument_of n v))) (bignum q n v))) small ∙ ap (λ u. unplaced (integer q n v u)) (marks w (argument_of n v)).0 ∙ f q))

  simple_said : (n : ℕ) (x : List Token) → IsTrue (is_simple_value n) → list_map unplaced_token x ≡ tokens_of (simple_item n) → SaidItem p d x (Simple 0 n)
  simple_said n x h e = go (ltb n 20) (ltb n 24) e
    where
      bracketed : list_map unplaced_token x ≡ tokens_of (tree.simple nowhere nowhere false n Absent nowhere) → SaidItem p d x (Simple 0 n)
      bracketed e =
          let o = enclosed x SimpleOpen ParenClose (token nowhere (Number false n Absent) ∷ []) e in
          let a = alone o.2 (Number false n Absent) o.4 in
          let few = simple_below n h in
          let small : is_small false n ≡ true = lt-ltb n (2 ^ 64) (omega arith) in
          said_at (ap (λ w. token o.0 SimpleOpen ∷ w ++ token o.1 ParenClose ∷ []) a.1 ∙ o.3) (stated _ _ (simple o.0 a.0 o.1 (subst (λ b. cond b 0 1 ≤ d) (sym small) (omega arith))) (ap (λ b. unless b o.0.start BadSimple ++ []) h) refl)

      go : (b c : Bool) → list_map unplaced_token x ≡ tokens_of (cond b (tree.simple nowhere nowhere false n Absent nowhere) (cond c (tree.word nowhere n) (tree.simple nowhere nowhere false n Absent nowhere))) → SaidItem p d x (Simple 0 n)
      go true c e = bracketed e
      go false true e = let a = alone x (Word n) e in said_at a.1 (stated _ _ (word a.0) refl refl)
      go false false e = bracketed e

module _ {p : Profile} where
  mutual
    item_said : (t : Tree) (d : ℕ) (x : List Token) → Fits t → IsShowable t → depth t ≤ d → list_map unplaced_token x ≡ tokens_of (notated t) → SaidItem p d x (unplaced t)
    item_said (Uint q w n) d x h s low e = number_said false n w (Uint 0 w n) x e h (λ r. refl)
    item_said (Nint q w n) d x h s low e = number_said true (suc n) w (Nint 0 w n) x e h (λ r. refl)
    item_said (ByteNode q w b) d x h s low e = string_said OfBytes w b x e h.0 refl
    item_said (TextNode q w b) d x h s low e = string_said OfText w b x e h.0 s
    item_said (ByteChunks q cs) d x h s low e = chunked_said OfBytes cs x e h (bytes_good cs)
    item_said (TextChunks q cs) d x h s low e = chunked_said OfText cs x e h (texts_good cs s)
    item_said (Items q s ts) zero x h show low e = absurd (omega (arith, low))
    item_said (Items q s ts) (suc d) x h show low e =
        let m = mark_for_size s (count ts) in
        let o = enclosed x (ArrayOpen m) ArrayClose (tokens_of_content (notated_content ts)) e in
        let r = content_said ts d o.2 h.1 show (omega (arith, low)) o.4 in
        let n : count r.says ≡ count ts = sym (count-unplaced r.says) ∙ ap count r.same ∙ count-unplaced ts in
        said_at o.3 (stated _ _ (array o.0 o.1 r.said) (both_parts r.none (ap (size_errors o.0.start m) n ∙ no_size_errors o.0.start s (count ts) h.0)) (ap₂ (Items 0) (ap (size m) n ∙ size_back s (count ts)) r.same))
    item_said (PairNode q s es) zero x h show low e = absurd (omega (arith, low))
    item_said (PairNode q s es) (suc d) x h show low e =
        let m = mark_for_size s (count_entries es) in
        let o = enclosed x (MapOpen m) MapClose (tokens_of_fields (notated_fields es)) e in
        let r = fields_said es d o.2 h.1 show (omega (arith, low)) o.4 in
        let n : count_entries r.says ≡ count_entries es = sym (count-unplaced_entries r.says) ∙ ap count_entries r.same ∙ count-unplaced_entries es in
        said_at o.3 (stated _ _ (map o.0 o.1 r.said) (both_parts r.none (ap (size_errors o.0.start m) n ∙ no_size_errors o.0.start s (count_entries es) h.0)) (ap₂ (PairNode 0) (ap (size m) n ∙ size_back s (count_entries es)) r.same))
    item_said (Tagged q w n t) zero x h show low e = absurd (omega (arith, low))
    item_said (Tagged q w n t) (suc d) x h show low e =
        let m = mark_for w n in
        let o = enclosed x (TagOpen n m) ParenClose (tokens_of (notated t)) e in
        let r = item_said t d o.2 h.1 show (omega (arith, low)) o.4 in
        said_at o.3 (stated _ _ (tag o.0 o.1 r.said) (both_parts (ap (λ b. cond b (width_errors o.0.start m n) (unless false o.0.start TagTooLarge)) (lt-ltb n (2 ^ 64) (below w n h.0)) ∙ (marks w n).3 o.0.start h.0) r.none) (ap₂ (λ (v : Width) (u : Tree). Tagged 0 v n u) (marks w n).0 r.same))
    item_said (Simple q n) d x h s low e = simple_said n x h e

    content_said : (ts : Trees) (d : ℕ) (x : List Token) → FitsAll ts → EachShowable ts → depth_all ts ≤ d → list_map unplaced_token x ≡ tokens_of_content (notated_content ts) → Said (IsContent p d) unplaced_all x (unplaced_all ts)
    content_said no_node d x h s low e = said_at (sym (no_tokens x e)) (stated _ _ empty refl refl)
    content_said (more t ts) d x h s low e =
        let q = parted x (tokens_of (notated t)) (more_tokens ts) (e ∙ row_tokens ts tree.no_item (notated t)) in
        let r = items_said ts d q.0 q.1 (unplaced t) (item_said t d q.0 h.0 s.0 (omega (arith, low)) q.3) h.1 s.1 (omega (arith, low)) q.4 in
        said_at (sym q.2) (stated _ _ (tight r.said) r.none r.same)

    -- an item, and those after it
    items_said : (ts : Trees) (d : ℕ) (x y : List Token) (u : Tree) → SaidItem p d x u → FitsAll ts → EachShowable ts → depth_all ts ≤ d → list_map unplaced_token y ≡ more_tokens ts → Said (AreItems p d) unplaced_all (x ++ y) (more u (unplaced_all ts))
    items_said no_node d x y u f h s low e =
        said_at (sym (ap (λ w. x ++ w) (no_tokens y e) ∙ append-nil x)) (stated _ _ (last f.said) f.none (ap (λ v. more v no_node) f.same))
    items_said (more t ts) d x y u f h s low e =
        let b = first_token y Comma (tokens_of (notated t) ++ more_tokens ts) e in
        let q = parted b.1 (tokens_of (notated t)) (more_tokens ts) b.3 in
        let r = items_said ts d q.0 q.1 (unplaced t) (item_said t d q.0 h.0 s.0 (omega (arith, low)) q.3) h.1 s.1 (omega (arith, low)) q.4 in
        said_at (ap (λ w. x ++ w) (sym (b.2 ∙ ap (λ w. token b.0 Comma ∷ w) q.2)))
        (stated _ _ (before b.0 f.said r.said) (both_parts f.none r.none) (ap₂ more f.same r.same))

    fields_said : (es : Entries) (d : ℕ) (x : List Token) → FitsEntries es → ArePairsShowable es → depth_entries es ≤ d → list_map unplaced_token x ≡ tokens_of_fields (notated_fields es) → Said (IsFields p d) unplaced_entries x (unplaced_entries es)
    fields_said no_entry d x h s low e = said_at (sym (no_tokens x e)) (stated _ _ no_fields refl refl)
    fields_said (entry k v es) d x h s low e =
        let q = paired x (tokens_of (notated k)) (tokens_of (notated v)) (more_pair_tokens es) (e ∙ pair_tokens es tree.no_pair (notated k) (notated v)) in
        let f = item_said k d q.0 h.0 s.0 (omega (arith, low)) q.5 in
        let g = item_said v d q.2 h.1 s.1 (omega (arith, low)) q.6 in
        let r = pairs_said es d q.0 q.2 q.3 q.1 (unplaced k) (unplaced v) f g h.2 s.2 (omega (arith, low)) q.7 in
        said_at (sym q.4) (stated _ _ (tight_fields r.said) r.none r.same)

    -- a pair, and those after it
    pairs_said : (es : Entries) (d : ℕ) (x y z : List Token) (a : Span) (t u : Tree) → SaidItem p d x t → SaidItem p d y u → FitsEntries es → ArePairsShowable es → depth_entries es ≤ d → list_map unplaced_token z ≡ more_pair_tokens es
        → Said (ArePairs p d) unplaced_entries (x ++ token a Colon ∷ (y ++ z)) (entry t u (unplaced_entries es))
    pairs_said no_entry d x y z a t u f g h s low e =
        said_at (ap (λ w. x ++ token a Colon ∷ w) (sym (ap (λ w. y ++ w) (no_tokens z e) ∙ append-nil y)))
        (stated _ _ (last_pair a f.said g.said) (both_parts f.none g.none) (ap₂ (λ (i j : Tree). entry i j no_entry) f.same g.same))
    pairs_said (entry k v es) d x y z a t u f g h s low e =
        let b = first_token z Comma (tokens_of (notated k) ++ (token nowhere Colon ∷ (tokens_of (notated v) ++ more_pair_tokens es))) e in
        let q = paired b.1 (tokens_of (notated k)) (tokens_of (notated v)) (more_pair_tokens es) b.3 in
        let i = item_said k d q.0 h.0 s.0 (omega (arith, low)) q.5 in
        let j = item_said v d q.2 h.1 s.1 (omega (arith, low)) q.6 in
        let r = pairs_said es d q.0 q.2 q.3 q.1 (unplaced k) (unplaced v) i j h.2 s.2 (omega (arith, low)) q.7 in
        said_at (ap (λ w. x ++ token a Colon ∷ (y ++ w)) (sym (b.2 ∙ ap (λ w. token b.0 Comma ∷ w) q.4)))
        (stated _ _ (pair_before a b.0 f.said g.said r.said) (both_parts f.none (both_parts g.none r.none)) (ap₂ (λ (l : Tree × Tree) (es : Entries). entry l.0 l.1 es) (ap₂ (λ (l m : Tree). (l, m)) f.same g.same) r.same))

-- LAW: tokens of the fixed notation say the nodes, places aside
pub reads_same : (p : Profile) (limit : ℕ) (nodes : Trees) (x : List Token) → FitsAll nodes → EachShowable nodes → depth_all nodes ≤ limit → list_map unplaced_token x ≡ tokens_of_input (notated_input nodes) → (says : Trees) × IsText p limit x says [] × (unplaced_all says ≡ unplaced_all nodes)
reads_same p limit no_node x h s low e = (no_node, subst (λ y. IsText p limit y no_node []) (sym (no_tokens x e)) nothing, refl)
reads_same p limit (more t ts) x h s low e =
    let q = parted x (tokens_of (notated t)) (more_tokens ts) (e ∙ row_tokens ts tree.no_item (notated t)) in
    let r = items_said ts limit q.0 q.1 (unplaced t) (item_said t limit q.0 h.0 s.0 (omega (arith, low)) q.3) h.1 s.1 (omega (arith, low)) q.4 in
    (r.says, subst (λ y. IsText p limit y r.says []) (sym q.2) (subst (IsText p limit (q.0 ++ q.1) r.says) r.none (items r.said)), r.same)
