-- The grammar of the notation (RFC 8949 section 8, RFC 8610 appendix G): which tokens are an item, which node the item says, and its meaning errors. The node counts only if there is no meaning error.
-- In each relation p is the profile, d a bound of the nesting depth, x are the tokens and l the meaning errors. The relation holds for each d that is large enough.
use Rattle.std.specs.Prelude.{◌≡◌, ℕ, suc, ◌≤◌, List, [], ◌∷◌, ◌++◌, Bool, true, false}
use Rattle.cborn_edn.specs.Common.{Chunk, Tree, Items, Pairs, Tagged, Simple, Trees, no_item as no_node, more, Entries, no_entry, entry, count, count_entries, spelled_all, Mark, Class, ArrayOpen, MapOpen, ArrayClose, MapClose, ParenClose, Comma, Colon, EmbedOpen, EmbedClose, ChunkOpen, Number, TagOpen, Word, SimpleOpen, Token, Profile, Two as ProfileTwo, HasTokens, StringKind, OfBytes, OfText, MeaningError}
use Rattle.cborn_lex.specs.declared.classes.Class.TheVariants.{Text, Bytes}
use Rattle.cborn_edn.specs.Says.{width, size, size_errors, depth_of_number, number_node, number_errors, tag_errors, simple_errors, chunked_node, Str, is_nil, quoted, joined, said_string, chunk, piece_errors, string_errors, chunk_errors}

-- a token's place in the text: the offset of its first byte, and the offset after its last byte
pub record Span : Type 0 where
  pub start : ℕ
  pub stop : ℕ

abbrev pub token : Span → Class → Token
token at c = record { start = at.start; stop = at.stop; class = c }

mutual
  -- One data item. Arrays, maps, tags and `<<..>>` take a level of depth each, and so does an integer outside 64 bits, which is a tag (RFC 8949 section 3.4.3).
  pub data IsItem (p : Profile) : ℕ → List Token → Tree → List MeaningError → Type 0 where
    -- an integer: 1, 0x10, -1_3 (RFC 8949 section 3.1, RFC 8610 appendix G.5)
    number : {d v : ℕ} {n : Bool} {m : Mark} (a : Span) → depth_of_number n v ≤ d → IsItem p d (token a (Number n v m) ∷ []) (number_node a.start n v m) (number_errors a.start n v m)
    -- false, true, null, undefined (RFC 8949 section 3.3)
    word : {d n : ℕ} (a : Span) → IsItem p d (token a (Word n) ∷ []) (Simple a.start n) []
    -- simple(16) (RFC 8949 section 3.3)
    simple : {d v : ℕ} {n : Bool} {m : Mark} (a b e : Span) → depth_of_number n v ≤ d → IsItem p d (token a SimpleOpen ∷ token b (Number n v m) ∷ token e ParenClose ∷ []) (Simple a.start v) (simple_errors a.start b.start n v m)
    -- a tag number and the item that it encloses: 1(2), 1_0(2) (RFC 8949 section 3.4)
    tag : {d n : ℕ} {m : Mark} {x : List Token} {t : Tree} {l : List MeaningError} (a e : Span) → IsItem p d x t l → IsItem p (suc d) (token a (TagOpen n m) ∷ x ++ token e ParenClose ∷ []) (Tagged a.start (width m n) n t) (tag_errors a.start m n ++ l)
    -- [1, 2], and [_ 1, 2] of indefinite length (RFC 8949 sections 3.1, 3.2.2)
    array : {d : ℕ} {m : Mark} {x : List Token} {ts : Trees} {l : List MeaningError} (a e : Span) → IsContent p d x ts l → IsItem p (suc d) (token a (ArrayOpen m) ∷ x ++ token e ArrayClose ∷ []) (Items a.start (size m (count ts)) ts) (l ++ size_errors a.start m (count ts))
    -- {1: 2}, and {_ 1: 2} of indefinite length (RFC 8949 sections 3.1, 3.2.2)
    map : {d : ℕ} {m : Mark} {x : List Token} {es : Entries} {l : List MeaningError} (a e : Span) → IsFields p d x es l → IsItem p (suc d) (token a (MapOpen m) ∷ x ++ token e MapClose ∷ []) (Pairs a.start (size m (count_entries es)) es) (l ++ size_errors a.start m (count_entries es))
    -- a string in one head, or without chunks: ''_ and ""_ (RFC 8949 section 8.1)
    string : {d : ℕ} {x : List Token} {s : Str} {l : List MeaningError} → ArePieces p d x s l → IsItem p d x (said_string s) (l ++ string_errors s.lone s)
    -- a string of indefinite length: (_ h'01', h'02') (RFC 8949 section 3.2.3)
    chunked : {d : ℕ} {x : List Token} {k : StringKind} {cs : List Chunk} {l : List MeaningError} (a e : Span) → AreChunks p d x k cs l → IsItem p d (token a ChunkOpen ∷ x ++ token e ParenClose ∷ []) (chunked_node k a.start cs) l

  -- A piece of a string: a text in double quotes, bytes in single quotes or in hexadecimal or base64, or the bytes that the items between `<<` and `>>` spell (RFC 8610 appendix G.2, G.3).
  pub data IsPiece (p : Profile) : ℕ → List Token → Str → List MeaningError → Type 0 where
    text_piece : {d : ℕ} {b : List ℕ} {m : Mark} (a : Span) → IsPiece p d (token a (Text b m) ∷ []) (quoted OfText a.start true b m) []
    byte_piece : {d : ℕ} {q : Bool} {b : List ℕ} {m : Mark} (a : Span) → IsPiece p d (token a (Bytes q b m) ∷ []) (quoted OfBytes a.start q b m) []
    embedded : {d : ℕ} {x : List Token} {ts : Trees} {l : List MeaningError} (a e : Span) (m : Mark) → IsContent p d x ts l → IsPiece p (suc d) (token a EmbedOpen ∷ x ++ token e (EmbedClose m) ∷ []) (record { kind = OfBytes; place = a.start; lone = false; known = is_nil l; bytes = spelled_all ts; mark = m; mark_place = e.start }) l

  -- Pieces that follow one another are one string: 'a' 'b' is 'ab' (RFC 8610 appendix G.4).
  pub data ArePieces (p : Profile) : ℕ → List Token → Str → List MeaningError → Type 0 where
    piece : {d : ℕ} {x : List Token} {s : Str} {l : List MeaningError} → IsPiece p d x s l → ArePieces p d x s l
    also : {d : ℕ} {x y : List Token} {s t : Str} {l r : List MeaningError} → ArePieces p d x s l → IsPiece p d y t r → ArePieces p d (x ++ y) (joined s t) (l ++ (r ++ piece_errors s t))

  -- The chunks of a string: strings with commas between them. The first says whether it is a byte or a text string (RFC 8949 section 3.2.3).
  pub data AreChunks (p : Profile) : ℕ → List Token → StringKind → List Chunk → List MeaningError → Type 0 where
    first : {d : ℕ} {x : List Token} {s : Str} {l : List MeaningError} → ArePieces p d x s l → AreChunks p d x s.kind (chunk s ∷ []) (l ++ string_errors false s)
    next : {d : ℕ} {x y : List Token} {k : StringKind} {cs : List Chunk} {s : Str} {l r : List MeaningError} (a : Span) → AreChunks p d x k cs l → ArePieces p d y s r → AreChunks p d (x ++ token a Comma ∷ y) k (cs ++ chunk s ∷ []) (l ++ (r ++ chunk_errors k s))

  -- items with commas between them: 1, 2, 3
  pub data AreItems (p : Profile) : ℕ → List Token → Trees → List MeaningError → Type 0 where
    last : {d : ℕ} {x : List Token} {t : Tree} {l : List MeaningError} → IsItem p d x t l → AreItems p d x (more t no_node) l
    before : {d : ℕ} {x y : List Token} {t : Tree} {ts : Trees} {l r : List MeaningError} (a : Span) → IsItem p d x t l → AreItems p d y ts r → AreItems p d (x ++ token a Comma ∷ y) (more t ts) (l ++ r)

  -- the content of an array or of `<<..>>`: nothing, or items. In profile 2 a comma may follow the last one.
  pub data IsContent (p : Profile) : ℕ → List Token → Trees → List MeaningError → Type 0 where
    empty : {d : ℕ} → IsContent p d [] no_node []
    tight : {d : ℕ} {x : List Token} {ts : Trees} {l : List MeaningError} → AreItems p d x ts l → IsContent p d x ts l
    loose : {d : ℕ} {x : List Token} {ts : Trees} {l : List MeaningError} (a : Span) → p ≡ ProfileTwo → AreItems p d x ts l → IsContent p d (x ++ token a Comma ∷ []) ts l

  -- a map's pairs, each a key, a colon and a value, with commas between them
  pub data ArePairs (p : Profile) : ℕ → List Token → Entries → List MeaningError → Type 0 where
    last_pair : {d : ℕ} {x y : List Token} {k v : Tree} {l r : List MeaningError} (a : Span) → IsItem p d x k l → IsItem p d y v r → ArePairs p d (x ++ token a Colon ∷ y) (entry k v no_entry) (l ++ r)
    pair_before : {d : ℕ} {x y z : List Token} {k v : Tree} {es : Entries} {l r s : List MeaningError} (a c : Span) → IsItem p d x k l → IsItem p d y v r → ArePairs p d z es s → ArePairs p d (x ++ token a Colon ∷ (y ++ token c Comma ∷ z)) (entry k v es) (l ++ (r ++ s))

  -- the content of a map: nothing, or pairs. In profile 2 a comma may follow the last one.
  pub data IsFields (p : Profile) : ℕ → List Token → Entries → List MeaningError → Type 0 where
    no_fields : {d : ℕ} → IsFields p d [] no_entry []
    tight_fields : {d : ℕ} {x : List Token} {es : Entries} {l : List MeaningError} → ArePairs p d x es l → IsFields p d x es l
    loose_fields : {d : ℕ} {x : List Token} {es : Entries} {l : List MeaningError} (a : Span) → p ≡ ProfileTwo → ArePairs p d x es l → IsFields p d (x ++ token a Comma ∷ []) es l

-- A whole text: nothing, or items with commas between them. No comma follows the last one, in either profile. It writes a CBOR sequence (RFC 8742).
pub data IsText (p : Profile) (d : ℕ) : List Token → Trees → List MeaningError → Type 0 where
  nothing : IsText p d [] no_node []
  items : {x : List Token} {ts : Trees} {l : List MeaningError} → AreItems p d x ts l → IsText p d x ts l

-- The text notates the nodes: it has tokens, they are a text of the grammar within the limit and without a meaning error, and they say the nodes.
abbrev pub Notates : Profile → ℕ → List ℕ → Trees → Type 0
Notates profile limit text nodes = (x : List Token) × HasTokens profile text x × IsText profile limit x nodes []
