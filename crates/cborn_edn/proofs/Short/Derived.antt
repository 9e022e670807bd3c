-- The relation holds of the tokens of each tree within a limit.
use Rattle.std.specs.Prelude.{◌≡◌, ◌+◌, ◌≤◌, ◌∷◌, ◌++◌}
use Rattle.cborn_edn.proofs.Common.{refl, sym, ap, ◌∙◌, subst, ℕ, zero, suc, List, [], append_assoc, arith, Tree, Trees, Entries, Comma, Colon, Token, Profile, MeaningError, Span, token, Item, Piece, Pieces, Strings, Row, Content, Fields, Input, tokens_of, tokens_of_piece, tokens_of_pieces, tokens_of_strings, tokens_of_row, tokens_of_content, tokens_of_pairs, tokens_of_fields, tokens_of_input, depth, depth_of_piece, depth_of_pieces, depth_of_strings, depth_of_row, depth_of_content, depth_of_pairs, depth_of_fields, depth_of_input, AllowsCount, commas, commas_of_piece, commas_of_pieces, commas_of_strings, commas_of_row, commas_of_content, commas_of_pairs, commas_of_fields, commas_of_input, snoc, snoc_entry, node, str_of, str, kind_in, chunks, nodes, nodes_in, entries_in, faults, faults_of_piece, faults_of_pieces, faults_of_strings, faults_of_row, faults_in, faults_of_pairs, faults_of_fields, nodes_of_input, faults_of_input, IsItem, IsPiece, text_piece, byte_piece, ArePieces, AreChunks, first, next, AreItems, last, before, IsContent, empty, ArePairs, last_pair, pair_before, IsFields, no_fields, IsText, nothing, ProfileTwo}
use Rattle.cborn_edn.specs.devices.Syntax as tree
use Rattle.cborn_edn.specs.devices.Syntax.{Pairs}
use Rattle.cborn_edn.specs.devices.Said.{entries}
use Rattle.cborn_edn.specs.Grammar.{number, word, simple, tag, array, map, string, chunked, embedded, piece, also, tight, loose, tight_fields, loose_fields, items}

pub left_allowed : (p : Profile) (m n : ℕ) → AllowsCount p (m + n) → AllowsCount p m
left_allowed p m n h1 = grind arith

pub right_allowed : (p : Profile) (m n : ℕ) → AllowsCount p (m + n) → AllowsCount p n
right_allowed p m n h1 = grind arith

pub both_allowed : (p : Profile) (m n : ℕ) → AllowsCount p m → AllowsCount p n → AllowsCount p (m + n)
both_allowed p m n h1 h2 = grind arith

only_two : (p : Profile) (n : ℕ) → AllowsCount p (n + 1) → p ≡ ProfileTwo
only_two p n h1 = grind arith

module _ (p : Profile) where
  -- the relation holds of equal tokens and meaning errors
  items_at : {d : ℕ} {x y : List Token} {ts : Trees} {l m : List MeaningError} → x ≡ y → l ≡ m → AreItems p d x ts l → AreItems p d y ts m
  items_at {d} {x} {y} {ts} {l} {m} e f h = subst (λ z. AreItems p d z ts m) e (subst (λ k. AreItems p d x ts k) f h)

  pairs_at : {d : ℕ} {x y : List Token} {es : Entries} {l m : List MeaningError} → x ≡ y → l ≡ m → ArePairs p d x es l → ArePairs p d y es m
  pairs_at {d} {x} {y} {es} {l} {m} e f h = subst (λ z. ArePairs p d z es m) e (subst (λ k. ArePairs p d x es k) f h)

  -- one more item after a comma
  one_more : {d : ℕ} {x y : List Token} {ts : Trees} {t : Tree} {l r : List MeaningError} (a : Span) → AreItems p d x ts l → IsItem p d y t r → AreItems p d (x ++ token a Comma ∷ y) (snoc ts t) (l ++ r)
  one_more a (last i) j = before a i (last j)
  one_more {y = y} {r = r} a (before {x = x0} {y = y0} {l = l0} {r = r0} b i is) j =
      items_at (sym (append_assoc x0 (token b Comma ∷ y0) (token a Comma ∷ y))) (sym (append_assoc l0 r0 r)) (before b i (one_more a is j))

  more_pairs : {d : ℕ} {x y z : List Token} {es : Entries} {k v : Tree} {l r s : List MeaningError} (a c : Span) → ArePairs p d x es l → IsItem p d y k r → IsItem p d z v s
      → ArePairs p d (x ++ token a Comma ∷ (y ++ token c Colon ∷ z)) (snoc_entry es k v) (l ++ (r ++ s))
  more_pairs {y = y} {z = z} {r = r} {s = s} a c (last_pair {x = x0} {y = y0} {l = l0} {r = r0} b i j) k v =
      pairs_at (sym (append_assoc x0 (token b Colon ∷ y0) (token a Comma ∷ (y ++ token c Colon ∷ z)))) (sym (append_assoc l0 r0 (r ++ s))) (pair_before b a i j (last_pair c k v))
  more_pairs {y = y} {z = z} {r = r} {s = s} a c (pair_before {x = x0} {y = y0} {z = z0} {l = l0} {r = r0} {s = s0} b e i j is) k v =
      pairs_at
      (sym (append_assoc x0 (token b Colon ∷ (y0 ++ token e Comma ∷ z0)) (token a Comma ∷ (y ++ token c Colon ∷ z)) ∙ ap (λ u. x0 ++ token b Colon ∷ u) (append_assoc y0 (token e Comma ∷ z0) (token a Comma ∷ (y ++ token c Colon ∷ z)))))
      (sym (append_assoc l0 (r0 ++ s0) (r ++ s) ∙ ap (λ u. l0 ++ u) (append_assoc r0 s0 (r ++ s))))
      (pair_before b e i j (more_pairs a c is k v))

  mutual
    pub derived : (i : Item) (d : ℕ) → depth i ≤ d → AllowsCount p (commas i) → IsItem p d (tokens_of i) (node i) (faults i)
    derived (tree.number at n v m) d h a = number at h
    derived (tree.word at n) d h a = word at
    derived (tree.tag at n m i end) zero h a = absurd (omega (arith, h))
    derived (tree.tag at n m i end) (suc d) h a = tag at end (derived i d (omega (arith, h)) a)
    derived (tree.simple at b n v m end) d h a = simple at b end h
    derived (tree.string ps) d h a = string (derived_pieces ps d h a)
    derived (tree.chunked at ss end) d h a = chunked at end (derived_strings ss d h a)
    derived (tree.array at m c end) zero h a = absurd (omega (arith, h))
    derived (tree.array at m c end) (suc d) h a = array at end (derived_content c d (omega (arith, h)) a)
    derived (tree.map at m f end) zero h a = absurd (omega (arith, h))
    derived (tree.map at m f end) (suc d) h a = map at end (derived_fields f d (omega (arith, h)) a)

    derived_piece : (q : Piece) (d : ℕ) → depth_of_piece q ≤ d → AllowsCount p (commas_of_piece q) → IsPiece p d (tokens_of_piece q) (str_of q) (faults_of_piece q)
    derived_piece (tree.text at x m) d h a = text_piece at
    derived_piece (tree.bytes at q x m) d h a = byte_piece at
    derived_piece (tree.embedded at c end m) zero h a = absurd (omega (arith, h))
    derived_piece (tree.embedded at c end m) (suc d) h a = embedded at end m (derived_content c d (omega (arith, h)) a)

    pub derived_pieces : (ps : Pieces) (d : ℕ) → depth_of_pieces ps ≤ d → AllowsCount p (commas_of_pieces ps) → ArePieces p d (tokens_of_pieces ps) (str ps) (faults_of_pieces ps)
    derived_pieces (tree.piece q) d h a = piece (derived_piece q d h a)
    derived_pieces (tree.also ps q) d h a =
        also (derived_pieces ps d (omega (arith, h)) (left_allowed p (commas_of_pieces ps) (commas_of_piece q) a)) (derived_piece q d (omega (arith, h)) (right_allowed p (commas_of_pieces ps) (commas_of_piece q) a))

    derived_strings : (ss : Strings) (d : ℕ) → depth_of_strings ss ≤ d → AllowsCount p (commas_of_strings ss) → AreChunks p d (tokens_of_strings ss) (kind_in ss) (chunks ss) (faults_of_strings ss)
    derived_strings (tree.strings tree.no_string ps) d h a = first (derived_pieces ps d (omega (arith, h)) (right_allowed p 0 (commas_of_pieces ps) a))
    derived_strings (tree.strings (tree.after_strings ss c) ps) d h a =
        subst (λ x. AreChunks p d x (kind_in ss) (chunks (tree.strings (tree.after_strings ss c) ps)) (faults_of_strings (tree.strings (tree.after_strings ss c) ps))) (sym (append_assoc (tokens_of_strings ss) (token c Comma ∷ []) (tokens_of_pieces ps)))
        (next c (derived_strings ss d (omega (arith, h)) (left_allowed p (commas_of_strings ss) (commas_of_pieces ps) a)) (derived_pieces ps d (omega (arith, h)) (right_allowed p (commas_of_strings ss) (commas_of_pieces ps) a)))

    derived_row : (r : Row) (d : ℕ) → depth_of_row r ≤ d → AllowsCount p (commas_of_row r) → AreItems p d (tokens_of_row r) (nodes r) (faults_of_row r)
    derived_row (tree.row tree.no_item i) d h a = last (derived i d (omega (arith, h)) (right_allowed p 0 (commas i) a))
    derived_row (tree.row (tree.after_row r c) i) d h a =
        items_at (sym (append_assoc (tokens_of_row r) (token c Comma ∷ []) (tokens_of i))) refl
        (one_more c (derived_row r d (omega (arith, h)) (left_allowed p (commas_of_row r) (commas i) a)) (derived i d (omega (arith, h)) (right_allowed p (commas_of_row r) (commas i) a)))

    derived_content : (c : Content) (d : ℕ) → depth_of_content c ≤ d → AllowsCount p (commas_of_content c) → IsContent p d (tokens_of_content c) (nodes_in c) (faults_in c)
    derived_content (tree.loose tree.no_item) d h a = empty
    derived_content (tree.loose (tree.after_row r c)) d h a = loose c (only_two p (commas_of_row r) a) (derived_row r d h (left_allowed p (commas_of_row r) 1 a))
    derived_content (tree.tight r) d h a = tight (derived_row r d h a)

    derived_pairs : (ps : Pairs) (d : ℕ) → depth_of_pairs ps ≤ d → AllowsCount p (commas_of_pairs ps) → ArePairs p d (tokens_of_pairs ps) (entries ps) (faults_of_pairs ps)
    derived_pairs (tree.pairs tree.no_pair k c v) d h a =
        last_pair c (derived k d (omega (arith, h)) (right_allowed p 0 (commas k) (left_allowed p (0 + commas k) (commas v) a))) (derived v d (omega (arith, h)) (right_allowed p (0 + commas k) (commas v) a))
    derived_pairs (tree.pairs (tree.after_pairs ps e) k c v) d h a =
        pairs_at (sym (append_assoc (tokens_of_pairs ps) (token e Comma ∷ []) (tokens_of k ++ (token c Colon ∷ tokens_of v)))) refl
        (more_pairs e c (derived_pairs ps d (omega (arith, h)) (left_allowed p (commas_of_pairs ps) (commas k) (left_allowed p (commas_of_pairs ps + commas k) (commas v) a)))
        (derived k d (omega (arith, h)) (right_allowed p (commas_of_pairs ps) (commas k) (left_allowed p (commas_of_pairs ps + commas k) (commas v) a))) (derived v d (omega (arith, h)) (right_allowed p (commas_of_pairs ps + commas k) (commas v) a)))

    derived_fields : (f : Fields) (d : ℕ) → depth_of_fields f ≤ d → AllowsCount p (commas_of_fields f) → IsFields p d (tokens_of_fields f) (entries_in f) (faults_of_fields f)
    derived_fields (tree.loose_fields tree.no_pair) d h a = no_fields
    derived_fields (tree.loose_fields (tree.after_pairs ps c)) d h a = loose_fields c (only_two p (commas_of_pairs ps) a) (derived_pairs ps d h (left_allowed p (commas_of_pairs ps) 1 a))
    derived_fields (tree.tight_fields ps) d h a = tight_fields (derived_pairs ps d h a)

  pub derived_input : (t : Input) (d : ℕ) → depth_of_input t ≤ d → AllowsCount p (commas_of_input t) → IsText p d (tokens_of_input t) (nodes_of_input t) (faults_of_input t)
  derived_input t d h1 h2 = grind (arith, derived_row, items, nothing)
