-- What a node means: that it is one item at most, and building it.
use Rattle.std.specs.Prelude.{◌≡◌, ◌<◌, ◌≤◌, ◌^◌, ◌∷◌, ◌++◌}
use Rattle.cborn_judge.proofs.Common.{ℕ, suc, inl, inr, List, [], length, refl, sym, ap, ◌∙◌, subst, arith, true, false, Bool, length-append, lt-ltb, IsUtf8, cases_lt, IsUtf8-append, IsUtf8-nil, Value, Values, Couples, bytes, text, array, dict, tagged, simple, no_values, value, no_pairs, pair, big_endian, AreBytes, IsShortest, IsProper, AreProper, HasProperPairs, value_depth, values_depth, pairs_depth, TextString, Array, Map, Tag, Given, EndlessArgument, head, argument, Chunk, Tree, Uint, Nint, Bytes, Text, ByteChunks, TextChunks, Items, Pairs, Tagged, Simple, Trees, no_item, more, Entries, no_entry, entry, count, count_entries, depth, depth_all, depth_entries, Endless, ending, chunk_bytes, spelled, spelled_all, spelled_entries, Fits, FitsAll, FitsEntries, Within, WithinAll, WithinEntries, IsWord, joined_chunks, IsNumber, IsByteString, IsBignum, ChunksAreText, Means, AllMean, EntriesMean, one_magnitude, large, length_of_chunks, no_more, counted, counted_pairs, flat_map, map, take, AllZip, take_all, item_value, pair_value, trees, entries, values_of, pairs_of, Size, IsItemOf, IsPairOf, holds_below, joined_bytes}
use Rattle.cborn_model.proofs.Lengths.{some_bytes}
use Rattle.cborn_model.specs.declared.items.Item.{Item}

-- ---- a node means at most one item, which is valid, and no deeper than the node

-- ---- at most one

pub number_once : (s : Bool) (n : ℕ) (a b : Value) → IsNumber s n a → IsNumber s n b → a ≡ b
number_once s n a b h1 h2 = grind (arith, one_magnitude)

pub string_once : (t : Tree) (b c : List ℕ) → IsByteString t b → IsByteString t c → b ≡ c
string_once (Bytes p w d) b c h k = h ∙ sym k
string_once (ByteChunks p cs) b c h k = h ∙ sym k
string_once _ b c h k = absurd h

bignum_once : (s : Bool) (t : Tree) (a b : Value) → IsBignum s t a → IsBignum s t b → a ≡ b
bignum_once s t a b h k = number_once s (big_endian h.0) a b h.2 (subst (λ c. IsNumber s (big_endian c) b) (string_once t k.0 h.0 k.1 h.1) k.2)

mutual
  pub means_once : (t : Tree) (a b : Value) → Means t a → Means t b → a ≡ b
  means_once (Uint p w n) a b h k = number_once false n a b h k
  means_once (Nint p w n) a b h k = number_once true n a b h k
  means_once (Text p w c) a b h k = h.1 ∙ sym k.1
  means_once (TextChunks p cs) a b h k = h.1 ∙ sym k.1
  means_once (Items p s ts) a b h k = h.2 ∙ ap array (all_mean_once ts h.0 k.0 h.1 k.1) ∙ sym k.2
  means_once (Pairs p s es) a b h k = h.3 ∙ ap dict (entries_mean_once es h.0 k.0 h.1 k.1) ∙ sym k.3
  means_once (Tagged p w n t) a b (inl h) (inl k) = bignum_once false t a b h.1 k.1
  means_once (Tagged p w n t) a b (inr (inl h)) (inr (inl k)) = bignum_once true t a b h.1 k.1
  means_once (Tagged p w n t) a b (inr (inr h)) (inr (inr k)) = h.4 ∙ ap (tagged n) (means_once t h.2 k.2 h.3 k.3) ∙ sym k.4
  means_once (Tagged p w n t) a b (inl h) (inr (inl k)) = absurd (omega arith)
  means_once (Tagged p w n t) a b (inl h) (inr (inr k)) = absurd (k.0 h.0)
  means_once (Tagged p w n t) a b (inr (inl h)) (inl k) = absurd (omega arith)
  means_once (Tagged p w n t) a b (inr (inl h)) (inr (inr k)) = absurd (k.1 h.0)
  means_once (Tagged p w n t) a b (inr (inr h)) (inl k) = absurd (h.0 k.0)
  means_once (Tagged p w n t) a b (inr (inr h)) (inr (inl k)) = absurd (h.1 k.0)
  means_once _ a b h k = h ∙ sym k

  all_mean_once : (ts : Trees) (vs ws : Values) → AllMean ts vs → AllMean ts ws → vs ≡ ws
  all_mean_once no_item no_values no_values h k = refl
  all_mean_once (more t ts) (value v vs) (value w ws) h k =
      λ i. value (means_once t v w h.0 k.0 i) (all_mean_once ts vs ws h.1 k.1 i)
  all_mean_once _ _ _ h k = absurd (search (k, h))

  pub entries_mean_once : (es : Entries) (ps qs : Couples) → EntriesMean es ps → EntriesMean es qs → ps ≡ qs
  entries_mean_once no_entry no_pairs no_pairs h k = refl
  entries_mean_once (entry k v es) (pair a b ps) (pair c d qs) h j =
      λ i. pair (means_once k a c h.0 j.0 i) (means_once v b d h.1 j.1 i) (entries_mean_once es ps qs h.2 j.2 i)
  entries_mean_once _ _ _ h j = absurd (search (h, j))

-- ---- byte strings

pub string_means : (t : Tree) (b : List ℕ) → IsByteString t b → Means t (bytes b)
string_means t b h1 = grind arith

pub means_string : (t : Tree) (b : List ℕ) → Means t (bytes b) → IsByteString t b
means_string t b h1 = grind arith

-- ---- how many bytes a node spells

count_below : (ts : Trees) → count ts ≤ length (spelled_all ts)
count_below no_item = omega arith
count_below (more t ts) = omega (arith, length-append (spelled t) (spelled_all ts), some_bytes t, count_below ts)

count_entries_below : (es : Entries) → count_entries es ≤ length (spelled_entries es)
count_entries_below no_entry = omega arith
count_entries_below (entry k v es) = omega (arith, length-append (spelled k ++ spelled v) (spelled_entries es), length-append (spelled k) (spelled v), some_bytes k, count_entries_below es)

inside : (x y z : List ℕ) → length y ≤ length (x ++ y ++ z)
inside x y z = omega (arith, length-append x y, length-append (x ++ y) z)

-- ---- valid

-- a node that fits and spells fewer bytes than 2 ^ 64
abbrev pub Short : List ℕ → Type 0
Short x = length x < 2 ^ 64

pub shortest_below : (m : List ℕ) (n : ℕ) → IsShortest m → big_endian m ≡ n → n < 2 ^ 64 → length m < 2 ^ 64
shortest_below m n s e l = elim (cases_lt 8 (length m)) [ inl k ↦ absurd (let g = large m s k in omega arith) | inr k ↦ omega arith ]

pub joined_text : (cs : List Chunk) → ChunksAreText cs → IsUtf8 (joined_chunks cs)
joined_text [] h = IsUtf8-nil
joined_text (c ∷ cs) h = IsUtf8-append c.bytes (joined_chunks cs) h.0 (joined_text cs h.1)

pub content_fits : (t : Tree) (b : List ℕ) → IsByteString t b → Fits t → AreBytes b
content_fits t b h1 h2 = grind (arith, joined_bytes)

content_below : (t : Tree) (b : List ℕ) → IsByteString t b → Short (spelled t) → length b < 2 ^ 64
content_below t b h1 h2 = grind (arith, length-append, length_of_chunks)

pub number_valid : (s : Bool) (n : ℕ) (v : Value) → IsNumber s n v → n < 2 ^ 64 → IsProper v
number_valid s n v h l = subst IsProper (sym h.4) (h.1, h.2, shortest_below h.0 n h.2 h.3 l)

bignum_valid : (s : Bool) (t : Tree) (v : Value) → IsBignum s t v → Fits t → Short (spelled t) → IsProper v
bignum_valid s t v h1 h2 h3 = grind (arith, content_below, content_fits, no_more)

pub left : (x y : List ℕ) → Short (x ++ y) → Short x
left x y l = omega (arith, length-append x y)

pub right : (x y : List ℕ) → Short (x ++ y) → Short y
right x y l = omega (arith, length-append x y)

pub middle : (x y z : List ℕ) → Short (x ++ y ++ z) → Short y
middle x y z l = omega (arith, inside x y z)

mutual
  pub meaning_valid : (t : Tree) (v : Value) → Fits t → Short (spelled t) → Means t v → IsProper v
  meaning_valid (Uint p w n) v f l h = number_valid false n v h (holds_below w n f)
  meaning_valid (Nint p w n) v f l h = number_valid true n v h (holds_below w n f)
  meaning_valid (Bytes p w b) v f l h = subst IsProper (sym h) (f.1, holds_below w (length b) f.0)
  meaning_valid (Text p w b) v f l h = subst IsProper (sym h.1) (h.0, holds_below w (length b) f.0)
  meaning_valid (ByteChunks p cs) v f l h = subst IsProper (sym h) (joined_bytes cs f, content_below (ByteChunks p cs) (joined_chunks cs) refl l)
  meaning_valid (TextChunks p cs) v f l h =
      subst IsProper (sym h.1) (joined_text cs h.0, omega (arith, length_of_chunks TextString cs, length-append (head TextString EndlessArgument) (flat_map (chunk_bytes TextString) cs), length-append (head TextString EndlessArgument ++ flat_map (chunk_bytes TextString) cs) (ending Endless)))
  meaning_valid (Items p s ts) v f l h =
      let m : Short (spelled_all ts) = middle (head Array (argument s (count ts))) (spelled_all ts) (ending s) l in
      subst IsProper (sym h.2) (all_valid ts h.0 f.1 m h.1, (let e = counted ts h.0 h.1 in omega (arith, count_below ts)))
  meaning_valid (Pairs p s es) v f l h =
      let m : Short (spelled_entries es) = middle (head Map (argument s (count_entries es))) (spelled_entries es) (ending s) l in
      subst IsProper (sym h.3) (entries_valid es h.0 f.1 m h.1, h.2, (let e = counted_pairs es h.0 h.1 in omega (arith, count_entries_below es)))
  meaning_valid (Tagged p w n t) v f l (inl h) = bignum_valid false t v h.1 f.1 (right (head Tag (Given w n)) (spelled t) l)
  meaning_valid (Tagged p w n t) v f l (inr (inl h)) = bignum_valid true t v h.1 f.1 (right (head Tag (Given w n)) (spelled t) l)
  meaning_valid (Tagged p w n t) v f l (inr (inr h)) = subst IsProper (sym h.4) (h.0, h.1, holds_below w n f.0, meaning_valid t h.2 f.1 (right (head Tag (Given w n)) (spelled t) l) h.3)
  meaning_valid (Simple p n) v f l h = subst IsProper (sym h) f

  pub all_valid : (ts : Trees) (vs : Values) → FitsAll ts → Short (spelled_all ts) → AllMean ts vs → AreProper vs
  all_valid no_item no_values f l h = tt
  all_valid (more t ts) (value v vs) f l h =
      (meaning_valid t v f.0 (left (spelled t) (spelled_all ts) l) h.0, all_valid ts vs f.1 (right (spelled t) (spelled_all ts) l) h.1)
  all_valid _ _ f l h = absurd h

  pub entries_valid : (es : Entries) (ps : Couples) → FitsEntries es → Short (spelled_entries es) → EntriesMean es ps → HasProperPairs ps
  entries_valid no_entry no_pairs f l h = tt
  entries_valid (entry k v es) (pair a b ps) f l h =
      let m : Short (spelled k ++ spelled v) = left (spelled k ++ spelled v) (spelled_entries es) l in (
        meaning_valid k a f.0 (left (spelled k) (spelled v) m) h.0,
        meaning_valid v b f.1 (right (spelled k) (spelled v) m) h.1,
        entries_valid es ps f.2 (right (spelled k ++ spelled v) (spelled_entries es) l) h.2,
      )
  entries_valid _ _ f l h = absurd h

-- ---- no deeper

shallow_number : (s : Bool) (n : ℕ) (v : Value) → IsNumber s n v → n < 2 ^ 64 → value_depth v ≤ 0
shallow_number s n v h1 h2 = grind (arith, lt-ltb)

shallow_bignum : (s : Bool) (n : ℕ) (v : Value) → IsNumber s n v → value_depth v ≤ 1
shallow_bignum s n v h1 = grind arith

at_value : (v w : Value) (n : ℕ) → v ≡ w → value_depth w ≤ n → value_depth v ≤ n
at_value v w n e h = let d : value_depth v ≡ value_depth w = ap value_depth e in omega arith

mutual
  -- an integer above 64 bits would be deeper than its node, which has no depth
  pub means_shallow : (t : Tree) (v : Value) → ((q : Tree) → Within q t → IsWord q) → Means t v → value_depth v ≤ depth t
  means_shallow (Uint p w n) v f h = shallow_number false n v h (f (Uint p w n) refl)
  means_shallow (Nint p w n) v f h = shallow_number true n v h (f (Nint p w n) refl)
  means_shallow (Bytes p w b) v f h = at_value v (bytes b) 0 h (omega arith)
  means_shallow (Text p w b) v f h = at_value v (text b) 0 h.1 (omega arith)
  means_shallow (ByteChunks p cs) v f h = at_value v (bytes (joined_chunks cs)) 0 h (omega arith)
  means_shallow (TextChunks p cs) v f h = at_value v (text (joined_chunks cs)) 0 h.1 (omega arith)
  means_shallow (Items p s ts) v f h = at_value v (array h.0) (suc (depth_all ts)) h.2 (let k = all_shallow ts h.0 (λ q i. f q (inr i)) h.1 in omega arith)
  means_shallow (Pairs p s es) v f h = at_value v (dict h.0) (suc (depth_entries es)) h.3 (let k = entries_shallow es h.0 (λ q i. f q (inr i)) h.1 in omega arith)
  means_shallow (Tagged p w n t) v f (inl h) = let k = shallow_bignum false (big_endian h.1.0) v h.1.2 in omega arith
  means_shallow (Tagged p w n t) v f (inr (inl h)) = let k = shallow_bignum true (big_endian h.1.0) v h.1.2 in omega arith
  means_shallow (Tagged p w n t) v f (inr (inr h)) = at_value v (tagged n h.2) (suc (depth t)) h.4 (let k = means_shallow t h.2 (λ q i. f q (inr i)) h.3 in omega arith)
  means_shallow (Simple p n) v f h = at_value v (simple n) 0 h (omega arith)

  all_shallow : (ts : Trees) (vs : Values) → ((q : Tree) → WithinAll q ts → IsWord q) → AllMean ts vs → values_depth vs ≤ depth_all ts
  all_shallow no_item no_values f h = omega arith
  all_shallow (more t ts) (value v vs) f h = omega (arith, means_shallow t v (λ q i. f q (inl i)) h.0, all_shallow ts vs (λ q i. f q (inr i)) h.1)
  all_shallow _ _ f h = absurd h

  entries_shallow : (es : Entries) (ps : Couples) → ((q : Tree) → WithinEntries q es → IsWord q) → EntriesMean es ps → pairs_depth ps ≤ depth_entries es
  entries_shallow no_entry no_pairs f h = omega arith
  entries_shallow (entry k v es) (pair a b ps) f h = omega (
    arith,
    means_shallow k a (λ q i. f q (inl i)) h.0,
    means_shallow v b (λ q i. f q (inr (inl i))) h.1,
    entries_shallow es ps (λ q i. f q (inr (inr i))) h.2,
  )
  entries_shallow _ _ f h = absurd h

-- each integer of a node that fits its head has at most 64 bits
mutual
  words_fit : (t : Tree) → Fits t → (q : Tree) → Within q t → IsWord q
  words_fit (Uint p w n) f q e = subst IsWord (sym e) (holds_below w n f)
  words_fit (Nint p w n) f q e = subst IsWord (sym e) (holds_below w n f)
  words_fit (Items p s ts) f q (inl e) = subst IsWord (sym e) tt
  words_fit (Items p s ts) f q (inr i) = words_fit_all ts f.1 q i
  words_fit (Pairs p s es) f q (inl e) = subst IsWord (sym e) tt
  words_fit (Pairs p s es) f q (inr i) = words_fit_entries es f.1 q i
  words_fit (Tagged p w n t) f q (inl e) = subst IsWord (sym e) tt
  words_fit (Tagged p w n t) f q (inr i) = words_fit t f.1 q i
  words_fit _ f q e = subst IsWord (sym e) tt

  words_fit_all : (ts : Trees) → FitsAll ts → (q : Tree) → WithinAll q ts → IsWord q
  words_fit_all no_item f q i = absurd i
  words_fit_all (more t ts) f q (inl i) = words_fit t f.0 q i
  words_fit_all (more t ts) f q (inr i) = words_fit_all ts f.1 q i

  words_fit_entries : (es : Entries) → FitsEntries es → (q : Tree) → WithinEntries q es → IsWord q
  words_fit_entries no_entry f q i = absurd i
  words_fit_entries (entry k v es) f q (inl i) = words_fit k f.0 q i
  words_fit_entries (entry k v es) f q (inr (inl i)) = words_fit v f.1 q i
  words_fit_entries (entry k v es) f q (inr (inr i)) = words_fit_entries es f.2 q i

pub meaning_shallow : (t : Tree) (v : Value) → Fits t → Means t v → value_depth v ≤ depth t
meaning_shallow t v f h = means_shallow t v (words_fit t f) h

-- ---- what is built of a node is what the node means, if it means something

values_built : (ns : List Tree) (items : List Item) (vs : Values) → AllZip IsItemOf ns items → AllMean (trees ns) vs → values_of (map item_value items) ≡ vs
values_built [] [] no_values h m = refl
values_built (n ∷ ns) (x ∷ xs) (value v vs) h m = λ i. value (h.0 v m.0 i) (values_built ns xs vs h.1 m.1 i)
values_built _ _ _ h m = absurd (search (h, m))

couples_built : (ns : List (Tree × Tree)) (pairs : List (Item × Item)) (ps : Couples) → AllZip IsPairOf ns pairs → EntriesMean (entries ns) ps → pairs_of (map pair_value pairs) ≡ ps
couples_built [] [] no_pairs h m = refl
couples_built (n ∷ ns) (x ∷ xs) (pair a b ps) h m = λ i. pair (h.0.0 a m.0 i) (h.0.1 b m.1 i) (couples_built ns xs ps h.1 m.2 i)
couples_built _ _ _ h m = absurd (search (h, m))

-- once a loop has passed all
pub array_built : (p : ℕ) (s : Size) (ns : List Tree) (i : ℕ) (items : List Item) (l : List Value) (v : Value) → length ns ≤ i → AllZip IsItemOf (take i ns) items → l ≡ map item_value items → Means (Items p s (trees ns)) v → array (values_of l) ≡ v
array_built p s ns i items l v h1 h2 h3 h4 = grind (arith, take_all, values_built)

pub map_built : (p : ℕ) (s : Size) (ns : List (Tree × Tree)) (i : ℕ) (pairs : List (Item × Item)) (l : List (Value × Value)) (v : Value) → length ns ≤ i → AllZip IsPairOf (take i ns) pairs → l ≡ map pair_value pairs → Means (Pairs p s (entries ns)) v → dict (pairs_of l) ≡ v
map_built p s ns i pairs l v h1 h2 h3 h4 = grind (arith, couples_built, take_all)
