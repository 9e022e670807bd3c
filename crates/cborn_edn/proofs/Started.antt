-- The places where the nodes and chunks of a text begin rise: each token has at most one of them, and tokens rise.
use Rattle.std.specs.Prelude.{◌<◌, ◌≤◌, ◌∷◌, ◌≡◌, ◌++◌, ◌⊎◌}
use Rattle.cborn_edn.proofs.Common.{sym, subst, ℕ, List, [], length, inl, inr, arith, AllByRecursion, Trees, Profile, Token, SpansRise, Notates, IsRising, spots_all, spans_rise, refl, ap, Bool, append-nil, Chunk, Tree, Entries, Mark, ArrayClose, MapClose, ParenClose, Comma, Colon, ChunkOpen, EmbedClose, Number, MeaningError, StringKind, chunked_node, number_node, Str, said_string, chunk, starts_of_chunks, unless_bytes, spots, spots_entries, IsItem, text_piece, byte_piece, ArePieces, AreChunks, first, next, AreItems, last, before, IsContent, empty, ArePairs, last_pair, pair_before, IsFields, no_fields, IsText, token}
use Rattle.cborn_edn.specs.Grammar.{number, word, simple, tag, array, map, string, chunked, embedded, piece, also, tight, loose, tight_fields, loose_fields}

-- places of some of the tokens, in their order
abbrev pub Among : List ℕ → List Token → Type 0
Among xs [] = xs ≡ []
Among xs (t ∷ ts) = Among xs ts ⊎ ((ys : List ℕ) × (xs ≡ t.start ∷ ys) × Among ys ts)

none_among : (ts : List Token) → Among [] ts
none_among [] = refl
none_among (t ∷ ts) = inl (none_among ts)

both_among : (xs ys : List ℕ) (ts us : List Token) → Among xs ts → Among ys us → Among (xs ++ ys) (ts ++ us)
both_among xs ys [] us h k = subst (λ (w : List ℕ). Among (w ++ ys) us) (sym h) k
both_among xs ys (t ∷ ts) us (inl h) k = inl (both_among xs ys ts us h k)
both_among xs ys (t ∷ ts) us (inr (zs, e, h)) k = inr (zs ++ ys, ap (λ w. w ++ ys) e, both_among zs ys ts us h k)

with_more : (xs : List ℕ) (ts us : List Token) → Among xs ts → Among xs (ts ++ us)
with_more xs ts us h = subst (λ (w : List ℕ). Among w (ts ++ us)) (append-nil xs) (both_among xs [] ts us h (none_among us))

bytes_aside : (t : Tree) (xs : List ℕ) (ts : List Token) → Among xs ts → Among (unless_bytes t xs) ts
bytes_aside t xs ts h1 = grind (arith, none_among)

number_among : (a : Token) (n : Bool) (v : ℕ) (m : Mark) → Among (spots (number_node a.start n v m)) (a ∷ [])
number_among a n v m = grind arith

said_alone : (s : Str) → spots (said_string s) ≡ s.place ∷ []
said_alone s = grind arith

chunks_append : (cs : List Chunk) (c : Chunk) → starts_of_chunks (cs ++ (c ∷ [])) ≡ starts_of_chunks cs ++ (c.place ∷ [])
chunks_append [] c = refl
chunks_append (d ∷ cs) c = ap (λ w. d.place ∷ w) (chunks_append cs c)

chunked_among : (k : StringKind) (a : Token) (cs : List Chunk) (ts : List Token) → Among (starts_of_chunks cs) ts → Among (spots (chunked_node k a.start cs)) (a ∷ ts)
chunked_among k a cs ts h1 = grind arith

module _ {p : Profile} where
  mutual
    item_among : {d : ℕ} {x : List Token} {t : Tree} {l : List MeaningError} → IsItem p d x t l → Among (spots t) x
    item_among (number {v = v} {n = n} {m = m} a low) = number_among (token a (Number n v m)) n v m
    item_among (word a) = inr ([], refl, refl)
    item_among (simple {v = v} {n = n} {m = m} a b e low) = inr ([], refl, none_among (token b (Number n v m) ∷ token e ParenClose ∷ []))
    item_among (tag {x = x} {t = t} a e i) = inr (_, refl, with_more _ x (token e ParenClose ∷ []) (bytes_aside t (spots t) x (item_among i)))
    item_among (array {x = x} a e c) = inr (_, refl, with_more _ x (token e ArrayClose ∷ []) (content_among c))
    item_among (map {x = x} a e f) = inr (_, refl, with_more _ x (token e MapClose ∷ []) (fields_among f))
    item_among (string {x = x} {s = s} ps) = subst (λ w. Among w x) (sym (said_alone s)) (pieces_among ps)
    item_among (chunked {x = x} {k = k} {cs = cs} a e c) = chunked_among k (token a ChunkOpen) cs (x ++ token e ParenClose ∷ []) (with_more _ x (token e ParenClose ∷ []) (chunks_among c))

    pieces_among : {d : ℕ} {x : List Token} {s : Str} {l : List MeaningError} → ArePieces p d x s l → Among (s.place ∷ []) x
    pieces_among (piece (text_piece a)) = inr ([], refl, refl)
    pieces_among (piece (byte_piece a)) = inr ([], refl, refl)
    pieces_among (piece (embedded {x = x} a e m c)) = inr ([], refl, none_among (x ++ token e (EmbedClose m) ∷ []))
    pieces_among (also {x = x} {y = y} ps q) = with_more _ x y (pieces_among ps)

    chunks_among : {d : ℕ} {x : List Token} {k : StringKind} {cs : List Chunk} {l : List MeaningError} → AreChunks p d x k cs l → Among (starts_of_chunks cs) x
    chunks_among (first ps) = pieces_among ps
    chunks_among (next {x = x} {y = y} {cs = cs} {s = s} a c ps) = subst (λ w. Among w (x ++ token a Comma ∷ y)) (sym (chunks_append cs (chunk s))) (both_among _ _ x (token a Comma ∷ y) (chunks_among c) (inl (pieces_among ps)))

    items_among : {d : ℕ} {x : List Token} {ts : Trees} {l : List MeaningError} → AreItems p d x ts l → Among (spots_all ts) x
    items_among (last {x = x} {t = t} i) = subst (λ w. Among w x) (sym (append-nil (spots t))) (item_among i)
    items_among (before {x = x} {y = y} a i is) = both_among _ _ x (token a Comma ∷ y) (item_among i) (inl (items_among is))

    content_among : {d : ℕ} {x : List Token} {ts : Trees} {l : List MeaningError} → IsContent p d x ts l → Among (spots_all ts) x
    content_among empty = refl
    content_among (tight is) = items_among is
    content_among (loose {x = x} a two is) = with_more _ x (token a Comma ∷ []) (items_among is)

    pairs_among : {d : ℕ} {x : List Token} {es : Entries} {l : List MeaningError} → ArePairs p d x es l → Among (spots_entries es) x
    pairs_among (last_pair {x = x} {y = y} {v = v} a i j) = both_among _ _ x (token a Colon ∷ y) (item_among i) (inl (subst (λ w. Among w y) (sym (append-nil (spots v))) (item_among j)))
    pairs_among (pair_before {x = x} {y = y} {z = z} a c i j is) = both_among _ _ x (token a Colon ∷ (y ++ token c Comma ∷ z)) (item_among i) (inl (both_among _ _ y (token c Comma ∷ z) (item_among j) (inl (pairs_among is))))

    fields_among : {d : ℕ} {x : List Token} {es : Entries} {l : List MeaningError} → IsFields p d x es l → Among (spots_entries es) x
    fields_among no_fields = refl
    fields_among (tight_fields is) = pairs_among is
    fields_among (loose_fields {x = x} a two is) = with_more _ x (token a Comma ∷ []) (pairs_among is)

  pub text_among : {d : ℕ} {x : List Token} {ts : Trees} {l : List MeaningError} → IsText p d x ts l → Among (spots_all ts) x
  text_among h1 = grind (arith, items_among)

abbrev AreFrom : ℕ → List ℕ → Type 0
AreFrom n xs = AllByRecursion (λ q. n ≤ q) xs

lower : (m n : ℕ) (xs : List ℕ) → m ≤ n → AreFrom n xs → AreFrom m xs
lower m n [] h k = tt
lower m n (x ∷ xs) h k = let first = k.0 in (omega arith, lower m n xs h k.1)

above : (m n : ℕ) (xs : List ℕ) → m < n → AreFrom n xs → AllByRecursion (λ q. m < q) xs
above m n [] h k = tt
above m n (x ∷ xs) h k = let first = k.0 in (omega arith, above m n xs h k.1)

abbrev Rise : ℕ → List ℕ → Type 0
Rise n xs = AreFrom n xs × IsRising xs

rise : (n end : ℕ) (xs : List ℕ) (ts : List Token) → SpansRise n ts end → Among xs ts → Rise n xs
rise n end xs [] s e = subst (Rise n) (sym e) (tt, tt)
rise n end xs (t ∷ ts) s (inl h) =
    let r = rise t.stop end xs ts s.2 h in
    let first = s.0 in
    let some = s.1 in
    (lower n t.stop xs (omega arith) r.0, r.1)
rise n end xs (t ∷ ts) s (inr (ys, e, h)) =
    let r = rise t.stop end ys ts s.2 h in
    let first = s.0 in
    let some = s.1 in
    subst (Rise n) (sym e) ((first, lower n t.stop ys (omega arith) r.0), (above t.start t.stop ys some r.0, r.1))

-- LAW: spots rise
pub spots_rise : (profile : Profile) (limit : ℕ) (text : List ℕ) (nodes : Trees) → Notates profile limit text nodes → IsRising (spots_all nodes)
spots_rise profile limit text nodes (tokens, taken, h) =
    (rise 0 (length text) (spots_all nodes) tokens (spans_rise profile text tokens taken) (text_among h)).1
