-- What tokens say without a meaning error: bytes, no more than 64 times the weight of the tokens, whose nodes are within the limit, and fit their widths if the bytes are fewer than 2^64. So the nodes of a text of fewer than 2^56 bytes fit.
use Rattle.std.specs.Prelude.{◌≡◌, ◌+◌, ◌*◌, ◌≤◌, ◌∷◌, ◌++◌}
use Rattle.cborn_edn.proofs.Common.{ap, subst, sym, ℕ, List, [], length, true, false, not, inl, arith, flat_map, and_parts, length-append, flat_map-append, Major, Array, Other, Chunk, AreBytes, Given, least, head, is_simple_value, Tree, Trees, Entries, count, count_entries, depth_all, depth_entries, FitsAll, FitsEntries, chunk_bytes, spelled, spelled_all, spelled_entries, ArrayClose, MapClose, ParenClose, Comma, Colon, EmbedClose, Token, Profile, MixedChunks, BadSimple, MeaningError, StringKind, width, same_kind, is_below, tag_errors, is_simple, unless, Str, chunk, mark_errors, string_errors, IsItem, IsPiece, text_piece, byte_piece, ArePieces, AreChunks, first, next, AreItems, last, before, IsContent, empty, ArePairs, last_pair, pair_before, IsFields, no_fields, IsText, AreModest, token, MapHead, TagHead, bytes-append, simple_value, weigh}
use Rattle.cborn_edn.specs.Grammar.{number, word, simple, tag, array, map, string, chunked, embedded, piece, also, tight, loose, tight_fields, loose_fields}
use Rattle.cborn_edn.proofs.Meaning.NoError.{no_left, no_right, nil_is, known_pieces, held, tag_small, width_fits}
use Rattle.cborn_edn.proofs.Meaning.Fit.{few_items, few_entries, Sound, SoundNode, SoundChunks, head_short, number_sound, string_sound, said_sound, chunked_sound, enclosed_sound, within, one_more}
use Rattle.cborn_edn.proofs.Reader.Modest.{modest_left, modest_right, least_bytes, width_bytes}

abbrev pub SoundAll : List Token → Trees → ℕ → Type 0
SoundAll x ts d = Sound (64 * weigh x) (spelled_all ts) (FitsAll ts) (depth_all ts) d

abbrev SoundEntries : List Token → Entries → ℕ → Type 0
SoundEntries x es d = Sound (64 * weigh x) (spelled_entries es) (FitsEntries es) (depth_entries es) d

weigh-append : (a b : List Token) → weigh (a ++ b) ≡ weigh a + weigh b
weigh-append [] b = omega arith
weigh-append (t ∷ a) b = omega (arith, weigh-append a b)

-- the content of a string
record SoundString (x : List Token) (s : Str) : Type 0 where
  bytes : AreBytes s.bytes
  few : length s.bytes + 9 ≤ 64 * weigh x

module _ {p : Profile} where
  mutual
    item_sound : {d : ℕ} {x : List Token} {t : Tree} {l : List MeaningError} → IsItem p d x t l → AreModest x → l ≡ [] → SoundNode (64 * weigh x) t d
    item_sound (number {d = d} {v = v} {n = n} {m = m} a low) h e = within (omega arith) (number_sound a.start n v m d low h.0 e)
    item_sound (word {n = n} a) h e = record { bytes = least_bytes Other n; few = omega (arith, head_short Other (Given (least n) n)); fits = λ k. simple_value n (inl h.0); low = omega arith }
    item_sound (simple {v = v} {n = n} {m = m} a b end low) h e =
        let is = held (is_simple n v) a.start BadSimple (no_left (unless (is_simple n v) a.start BadSimple) _ e) in
        record { bytes = least_bytes Other v; few = omega (arith, head_short Other (Given (least v) v)); fits = λ k. (and_parts (not (is_below n v)) (is_simple_value v) is).1; low = omega arith }
    item_sound (tag {n = n} {m = m} {x = x} {t = t} {l = l} a end i) h e =
        let s = item_sound i (modest_left x (token end ParenClose ∷ []) h.1) (no_right (tag_errors a.start m n) l e) in
        let none = tag_small a.start m n (no_left (tag_errors a.start m n) l e) in
        let sum = length-append (head TagHead (Given (width m n) n)) (spelled t) in
        record {
          bytes = bytes-append (head TagHead (Given (width m n) n)) (spelled t) (width_bytes TagHead a.start m n none.1) s.bytes;
          few = omega (arith, s.few, head_short TagHead (Given (width m n) n), sum, weigh-append x (token end ParenClose ∷ []));
          fits = λ k. (width_fits a.start m n none.0 none.1, s.fits (omega (arith, k, sum)));
          low = omega (arith, s.low);
        }
    item_sound (array {m = m} {x = x} {ts = ts} {l = l} a end c) h e =
        within (omega (arith, weigh-append x (token end ArrayClose ∷ []))) (enclosed_sound Array a.start m (count ts) (spelled_all ts) _ _ _ (no_right l _ e) (few_items ts) (content_sound c (modest_left x (token end ArrayClose ∷ []) h.1) (no_left l _ e)))
    item_sound (map {m = m} {x = x} {es = es} {l = l} a end f) h e =
        within (omega (arith, weigh-append x (token end MapClose ∷ []))) (enclosed_sound MapHead a.start m (count_entries es) (spelled_entries es) _ _ _ (no_right l _ e) (few_entries es) (fields_sound f (modest_left x (token end MapClose ∷ []) h.1) (no_left l _ e)))
    item_sound (string {d = d} {s = s} {l = l} ps) h e =
        let known = known_pieces ps (no_left l _ e) in
        let q = pieces_sound ps h known in
        within q.few (said_sound s d known (no_right l _ e) q.bytes)
    item_sound (chunked {d = d} {x = x} {k = kind} {cs = cs} a end c) h e =
        within (omega (arith, weigh-append x (token end ParenClose ∷ []))) (chunked_sound kind a.start cs (64 * weigh x) d (λ g. chunks_sound g c (modest_left x (token end ParenClose ∷ []) h.1) e))

    piece_sound : {d : ℕ} {x : List Token} {s : Str} {l : List MeaningError} → IsPiece p d x s l → AreModest x → s.known ≡ true → SoundString x s
    piece_sound (text_piece a) h k = record { bytes = h.0; few = omega arith }
    piece_sound (byte_piece a) h k = record { bytes = h.0; few = omega arith }
    piece_sound (embedded {x = x} {l = l} a end m c) h k =
        let s = content_sound c (modest_left x (token end (EmbedClose m) ∷ []) h.1) (nil_is l k) in
        record { bytes = s.bytes; few = omega (arith, s.few, weigh-append x (token end (EmbedClose m) ∷ [])) }

    pieces_sound : {d : ℕ} {x : List Token} {s : Str} {l : List MeaningError} → ArePieces p d x s l → AreModest x → s.known ≡ true → SoundString x s
    pieces_sound (piece q) h k = piece_sound q h k
    pieces_sound (also {x = x} {y = y} {s = s} {t = t} ps q) h k =
        let both = and_parts s.known t.known k in
        let a = pieces_sound ps (modest_left x y h) both.0 in
        let b = piece_sound q (modest_right x y h) both.1 in
        record { bytes = bytes-append s.bytes t.bytes a.bytes b.bytes; few = omega (arith, a.few, b.few, length-append s.bytes t.bytes, weigh-append x y) }

    chunks_sound : {d : ℕ} {x : List Token} {k : StringKind} {cs : List Chunk} {l : List MeaningError} (g : Major) → AreChunks p d x k cs l → AreModest x → l ≡ [] → SoundChunks g (64 * weigh x) cs
    chunks_sound g (first {x = x} {s = s} {l = l} ps) h e =
        let known = known_pieces ps (no_left l _ e) in
        let none = no_left (mark_errors false s) _ (no_right l (string_errors false s) e) in
        let q = pieces_sound ps h known in
        let one = string_sound g false s 0 known none q.bytes in
        let end = length-append (chunk_bytes g (chunk s)) [] in
        record { bytes = bytes-append (chunk_bytes g (chunk s)) [] one.bytes tt; few = omega (arith, q.few, one.few, end); fits = λ k. (one.fits (omega (arith, k, end)), tt); low = omega arith }
    chunks_sound g (next {x = x} {y = y} {k = kind} {cs = cs} {s = s} {l = l} {r = r} a c ps) h e =
        let own = no_right l _ e in
        let known = known_pieces ps (no_left r _ own) in
        let none = no_left (mark_errors false s) _ (no_right (unless (same_kind kind s.kind) s.place MixedChunks) (string_errors false s) (no_right r _ own)) in
        let before = chunks_sound g c (modest_left x (token a Comma ∷ y) h) (no_left l _ e) in
        let q = pieces_sound ps (modest_right x (token a Comma ∷ y) h).1 known in
        let one = string_sound g false s 0 known none q.bytes in
        let all = flat_map-append (chunk_bytes g) cs (chunk s ∷ []) in
        let sum = ap length all in
        let two = length-append (flat_map (chunk_bytes g) cs) (chunk_bytes g (chunk s) ++ []) in
        let end = length-append (chunk_bytes g (chunk s)) [] in
        record {
          bytes = subst AreBytes (sym all) (bytes-append (flat_map (chunk_bytes g) cs) (chunk_bytes g (chunk s) ++ []) before.bytes (bytes-append (chunk_bytes g (chunk s)) [] one.bytes tt));
          few = omega (arith, before.few, q.few, one.few, sum, two, end, weigh-append x (token a Comma ∷ y));
          fits = λ k. one_more cs (chunk s) (before.fits (omega (arith, k, sum, two))) (one.fits (omega (arith, k, sum, two, end)));
          low = omega arith;
        }

    items_sound : {d : ℕ} {x : List Token} {ts : Trees} {l : List MeaningError} → AreItems p d x ts l → AreModest x → l ≡ [] → SoundAll x ts d
    items_sound (last {t = t} i) h e =
        let s = item_sound i h e in
        let sum = length-append (spelled t) [] in
        record { bytes = bytes-append (spelled t) [] s.bytes tt; few = omega (arith, s.few, sum); fits = λ k. (s.fits (omega (arith, k, sum)), tt); low = omega (arith, s.low) }
    items_sound (before {x = x} {y = y} {t = t} {ts = ts} {l = l} {r = r} a i is) h e =
        let s = item_sound i (modest_left x (token a Comma ∷ y) h) (no_left l r e) in
        let rest = items_sound is (modest_right x (token a Comma ∷ y) h).1 (no_right l r e) in
        let sum = length-append (spelled t) (spelled_all ts) in
        record {
          bytes = bytes-append (spelled t) (spelled_all ts) s.bytes rest.bytes;
          few = omega (arith, s.few, rest.few, sum, weigh-append x (token a Comma ∷ y));
          fits = λ k. (s.fits (omega (arith, k, sum)), rest.fits (omega (arith, k, sum)));
          low = omega (arith, s.low, rest.low);
        }

    content_sound : {d : ℕ} {x : List Token} {ts : Trees} {l : List MeaningError} → IsContent p d x ts l → AreModest x → l ≡ [] → SoundAll x ts d
    content_sound empty h e = record { bytes = tt; few = omega arith; fits = λ k. tt; low = omega arith }
    content_sound (tight is) h e = items_sound is h e
    content_sound (loose {x = x} a two is) h e = within (omega (arith, weigh-append x (token a Comma ∷ []))) (items_sound is (modest_left x (token a Comma ∷ []) h) e)

    pairs_sound : {d : ℕ} {x : List Token} {es : Entries} {l : List MeaningError} → ArePairs p d x es l → AreModest x → l ≡ [] → SoundEntries x es d
    pairs_sound (last_pair {x = x} {y = y} {k = key} {v = value} {l = l} {r = r} a i j) h e =
        let s = item_sound i (modest_left x (token a Colon ∷ y) h) (no_left l r e) in
        let t = item_sound j (modest_right x (token a Colon ∷ y) h).1 (no_right l r e) in
        let sum = length-append (spelled key ++ spelled value) [] in
        let two = length-append (spelled key) (spelled value) in
        record {
          bytes = bytes-append (spelled key ++ spelled value) [] (bytes-append (spelled key) (spelled value) s.bytes t.bytes) tt;
          few = omega (arith, s.few, t.few, sum, two, weigh-append x (token a Colon ∷ y));
          fits = λ k. (s.fits (omega (arith, k, sum, two)), t.fits (omega (arith, k, sum, two)), tt);
          low = omega (arith, s.low, t.low);
        }
    pairs_sound (pair_before {x = x} {y = y} {z = z} {k = key} {v = value} {es = es} {l = l} {r = r} {s = others} a c i j is) h e =
        let rest = token a Colon ∷ (y ++ token c Comma ∷ z) in
        let after = (modest_right x rest h).1 in
        let own = no_right l _ e in
        let s = item_sound i (modest_left x rest h) (no_left l _ e) in
        let t = item_sound j (modest_left y (token c Comma ∷ z) after) (no_left r others own) in
        let q = pairs_sound is (modest_right y (token c Comma ∷ z) after).1 (no_right r others own) in
        let sum = length-append (spelled key ++ spelled value) (spelled_entries es) in
        let two = length-append (spelled key) (spelled value) in
        record {
          bytes = bytes-append (spelled key ++ spelled value) (spelled_entries es) (bytes-append (spelled key) (spelled value) s.bytes t.bytes) q.bytes;
          few = omega (arith, s.few, t.few, q.few, sum, two, weigh-append x rest, weigh-append y (token c Comma ∷ z));
          fits = λ k. (s.fits (omega (arith, k, sum, two)), t.fits (omega (arith, k, sum, two)), q.fits (omega (arith, k, sum, two)));
          low = omega (arith, s.low, t.low, q.low);
        }

    fields_sound : {d : ℕ} {x : List Token} {es : Entries} {l : List MeaningError} → IsFields p d x es l → AreModest x → l ≡ [] → SoundEntries x es d
    fields_sound no_fields h e = record { bytes = tt; few = omega arith; fits = λ k. tt; low = omega arith }
    fields_sound (tight_fields is) h e = pairs_sound is h e
    fields_sound (loose_fields {x = x} a two is) h e = within (omega (arith, weigh-append x (token a Comma ∷ []))) (pairs_sound is (modest_left x (token a Comma ∷ []) h) e)

  -- LAW: what a text says
  pub text_sound : {d : ℕ} {x : List Token} {ts : Trees} → IsText p d x ts [] → AreModest x → SoundAll x ts d
  text_sound h1 h2 = grind (arith, items_sound)
