-- A node has no flaw exactly if it means an item.
use Rattle.std.specs.Prelude.{◌≡◌, ◌≢◌, ◌⊎◌, ◌∷◌}
use Rattle.cborn_judge.proofs.Common.{arith, ℕ, inl, inr, List, [], refl, sym, subst, true, false, Bool, IsUtf8, IsUtf8-from_is_utf8, is_utf8-from_IsUtf8, cases_eq, Within, WithinAll, WithinEntries, IsRepeated, HasRepeat, HasBadChunk, FlawAt, Flaw, InvalidReason, NotUtf8, BadBignum, DuplicateKey, Value, Values, Couples, integer, bytes, text, array, dict, tagged, simple, no_values, value, no_pairs, pair, big_endian, IsNew, HasNewKeys, Width, Chunk, Tree, Uint, Nint, Bytes, Text, ByteChunks, TextChunks, Items, Pairs, Tagged, Simple, Trees, no_item, more, Entries, no_entry, entry, place, joined_chunks, IsNumber, IsByteString, ChunksAreText, Means, AllMean, EntriesMean, is_utf8, magnitude_of}
use Rattle.cborn_judge.proofs.Meaning.Meanings.{means_once}

-- ---- what means an item has no flaw

-- a repeat among the keys is one among their meanings
not_repeated : (k : Tree) (a : Value) (es : Entries) (ps : Couples) (p : ℕ) → Means k a → EntriesMean es ps → IsNew a ps → IsRepeated k es p → ⊥
not_repeated k a no_entry ps p m e n h = h
not_repeated k a (entry l v es) no_pairs p m e n h = e
not_repeated k a (entry l v es) (pair b c ps) p m e n (inl h) = grind (arith, means_once)
not_repeated k a (entry l v es) (pair b c ps) p m e n (inr h) = not_repeated k a es ps p m e.2 n.1 h

pub no_repeat : (es : Entries) (ps : Couples) (p : ℕ) → EntriesMean es ps → HasNewKeys ps → HasRepeat es p → ⊥
no_repeat no_entry ps p e n h = h
no_repeat (entry k v es) no_pairs p e n h = e
no_repeat (entry k v es) (pair a b ps) p e n (inl h) = not_repeated k a es ps p e.0 e.2 n.0 h
no_repeat (entry k v es) (pair a b ps) p e n (inr h) = no_repeat es ps p e.2 n.1 h

pub no_bad_chunk : (cs : List Chunk) (p : ℕ) → ChunksAreText cs → HasBadChunk cs p → ⊥
no_bad_chunk [] p u h = h
no_bad_chunk (c ∷ cs) p u (inl h) = h.1 u.0
no_bad_chunk (c ∷ cs) p u (inr h) = no_bad_chunk cs p u.1 h

-- what means an item has nothing wrong with itself
pub sound_node : (t : Tree) (v : Value) (p : ℕ) (r : InvalidReason) → Means t v → FlawAt t p r → ⊥
sound_node t v p r h1 h2 = grind (arith, no_bad_chunk, no_repeat)

-- a node within one that means an item means an item too
mutual
  pub inner_means : (q t : Tree) (v : Value) → Means t v → Within q t → (u : Value) × Means q u
  inner_means q (Items p s ts) v m (inl i) = (v, subst (λ z. Means z v) (sym i) m)
  inner_means q (Items p s ts) v m (inr i) = inner_all q ts m.0 m.1 i
  inner_means q (Pairs p s es) v m (inl i) = (v, subst (λ z. Means z v) (sym i) m)
  inner_means q (Pairs p s es) v m (inr i) = inner_entries q es m.0 m.1 i
  inner_means q (Tagged p w n t) v m (inl i) = (v, subst (λ z. Means z v) (sym i) m)
  inner_means q (Tagged p w n t) v (inl m) (inr i) = inner_string q t m.1.0 m.1.1 i
  inner_means q (Tagged p w n t) v (inr (inl m)) (inr i) = inner_string q t m.1.0 m.1.1 i
  inner_means q (Tagged p w n t) v (inr (inr m)) (inr i) = inner_means q t m.2 m.3 i
  inner_means q _ v m i = (v, subst (λ z. Means z v) (sym i) m)

  inner_string : (q t : Tree) (b : List ℕ) → IsByteString t b → Within q t → (u : Value) × Means q u
  inner_string q (Bytes p w c) b h i = (bytes c, subst (λ z. Means z (bytes c)) (sym i) refl)
  inner_string q (ByteChunks p cs) b h i = (bytes (joined_chunks cs), subst (λ z. Means z (bytes (joined_chunks cs))) (sym i) refl)
  inner_string q _ b h i = absurd h

  inner_all : (q : Tree) (ts : Trees) (vs : Values) → AllMean ts vs → WithinAll q ts → (u : Value) × Means q u
  inner_all q (more t ts) (value v vs) m (inl i) = inner_means q t v m.0 i
  inner_all q (more t ts) (value v vs) m (inr i) = inner_all q ts vs m.1 i
  inner_all q _ _ m i = absurd (search (i, m))

  inner_entries : (q : Tree) (es : Entries) (ps : Couples) → EntriesMean es ps → WithinEntries q es → (u : Value) × Means q u
  inner_entries q (entry k v es) (pair a b ps) m (inl i) = inner_means q k a m.0 i
  inner_entries q (entry k v es) (pair a b ps) m (inr (inl i)) = inner_means q v b m.1 i
  inner_entries q (entry k v es) (pair a b ps) m (inr (inr i)) = inner_entries q es ps m.2 i
  inner_entries q _ _ m i = absurd (search (i, m))

pub no_flaw : (t : Tree) (v : Value) → Means t v → (p : ℕ) (r : InvalidReason) → Flaw t p r → ⊥
no_flaw t v m p r f = let u = inner_means f.0 t v m f.1 in sound_node f.0 u.0 p r u.1 f.2

pub sound_all : (ts : Trees) (vs : Values) → AllMean ts vs → (q : Tree) → WithinAll q ts → (p : ℕ) (r : InvalidReason) → FlawAt q p r → ⊥
sound_all ts vs m q i p r f = let u = inner_all q ts vs m i in sound_node q u.0 p r u.1 f

-- ---- what has no flaw means an item

pub within_itself : (t : Tree) → Within t t
within_itself t = grind arith

utf8_or_not : (b : List ℕ) → IsUtf8 b ⊎ (IsUtf8 b → ⊥)
utf8_or_not b = by (is_utf8 b) refl
  where
    by : (c : Bool) → is_utf8 b ≡ c → IsUtf8 b ⊎ (IsUtf8 b → ⊥)
    by true e = inl (IsUtf8-from_is_utf8 b e)
    by false e = inr (λ u. let f = is_utf8-from_IsUtf8 b u in cc)

text_or_not : (cs : List Chunk) → ChunksAreText cs ⊎ ((p : ℕ) × HasBadChunk cs p)
text_or_not [] = inl tt
text_or_not (c ∷ cs) =
    elim (utf8_or_not c.bytes) [
      | inl u ↦ elim (text_or_not cs) [ inl h ↦ inl (u, h) | inr h ↦ inr (h.0, inr h.1) ]
      | inr u ↦ inr (c.place, inl (refl, u))
    ]

string_or_not : (t : Tree) → ((b : List ℕ) × IsByteString t b) ⊎ ((b : List ℕ) → IsByteString t b → ⊥)
string_or_not (Bytes p w b) = inl (b, refl)
string_or_not (ByteChunks p cs) = inl (joined_chunks cs, refl)
string_or_not _ = inr (λ b h. h)

number_of : (s : Bool) (n : ℕ) → (v : Value) × IsNumber s n v
number_of s n = let m = magnitude_of n in (integer s m.0, (m.0, m.1, m.2, m.3, refl))

abbrev IsFlawless : Tree → Type 0
IsFlawless t = (p : ℕ) (r : InvalidReason) → Flaw t p r → ⊥

-- a repeat of a new key among meanings is one among the keys
new_or_repeated : (k : Tree) (a : Value) (es : Entries) (ps : Couples) → Means k a → EntriesMean es ps → ((p : ℕ) → IsRepeated k es p → ⊥) → IsNew a ps
new_or_repeated k a no_entry no_pairs m e h = tt
new_or_repeated k a (entry l v es) (pair b c ps) m e h =
    (λ s. h (place l) (inl (refl, (a, b, m, e.0, s))), new_or_repeated k a es ps m e.2 (λ p i. h p (inr i)))
new_or_repeated k a _ _ m e h = absurd e

pub new_keys : (es : Entries) (ps : Couples) → EntriesMean es ps → ((p : ℕ) → HasRepeat es p → ⊥) → HasNewKeys ps
new_keys no_entry no_pairs e h = tt
new_keys (entry k v es) (pair a b ps) e h =
    (new_or_repeated k a es ps e.0 e.2 (λ p i. h p (inl i)), new_keys es ps e.2 (λ p i. h p (inr i)))
new_keys _ _ e h = absurd e

tag_case : (n : ℕ) → (n ≡ 2) ⊎ (n ≡ 3) ⊎ ((n ≢ 2) × (n ≢ 3))
tag_case n = elim (cases_eq n 2) [ inl e ↦ inl e | inr e ↦ elim (cases_eq n 3) [ inl f ↦ inr (inl f) | inr f ↦ inr (inr (e, f)) ] ]

tag_meaning : (p : ℕ) (w : Width) (n : ℕ) (t : Tree) → IsFlawless (Tagged p w n t) → (n ≡ 2) ⊎ (n ≡ 3) ⊎ ((n ≢ 2) × (n ≢ 3)) → ((b : List ℕ) × IsByteString t b) ⊎ ((b : List ℕ) → IsByteString t b → ⊥) → (v : Value) × Means t v → (v : Value) × Means (Tagged p w n t) v
tag_meaning p w n t h (inl e) (inl b) m = let v = number_of false (big_endian b.0) in (v.0, inl (e, (b.0, b.1, v.1)))
tag_meaning p w n t h (inr (inl e)) (inl b) m = let v = number_of true (big_endian b.0) in (v.0, inr (inl (e, (b.0, b.1, v.1))))
tag_meaning p w n t h (inr (inr e)) b m = (tagged n m.0, inr (inr (e.0, e.1, m.0, m.1, refl)))
tag_meaning p w n t h (inl e) (inr b) m = absurd (h p BadBignum (Tagged p w n t, inl refl, (refl, refl, inl e, b)))
tag_meaning p w n t h (inr (inl e)) (inr b) m = absurd (h p BadBignum (Tagged p w n t, inl refl, (refl, refl, inr e, b)))

mutual
  pub meaning : (t : Tree) → IsFlawless t → (v : Value) × Means t v
  meaning (Uint p w n) h = number_of false n
  meaning (Nint p w n) h = number_of true n
  meaning (Bytes p w b) h = (bytes b, refl)
  meaning (Text p w b) h = elim (utf8_or_not b) [ inl u ↦ (text b, (u, refl)) | inr u ↦ absurd (h p NotUtf8 (Text p w b, refl, (refl, refl, u))) ]
  meaning (ByteChunks p cs) h = (bytes (joined_chunks cs), refl)
  meaning (TextChunks p cs) h = elim (text_or_not cs) [ inl u ↦ (text (joined_chunks cs), (u, refl)) | inr u ↦ absurd (h u.0 NotUtf8 (TextChunks p cs, refl, (refl, u.1))) ]
  meaning (Items p s ts) h =
      let k = all_meanings ts (λ q i p' r f. h p' r (q, inr i, f)) in
      (array k.0, (k.0, k.1, refl))
  meaning (Pairs p s es) h =
      let k = entries_meanings es (λ q i p' r f. h p' r (q, inr i, f)) in
      (dict k.0, (k.0, k.1, new_keys es k.0 k.1 (λ p' i. h p' DuplicateKey (Pairs p s es, inl refl, (refl, i))), refl))
  meaning (Tagged p w n t) h = tag_meaning p w n t h (tag_case n) (string_or_not t) (meaning t (λ p' r f. h p' r (f.0, inr f.1, f.2)))
  meaning (Simple p n) h = (simple n, refl)

  all_meanings : (ts : Trees) → ((q : Tree) → WithinAll q ts → (p : ℕ) (r : InvalidReason) → FlawAt q p r → ⊥) → (vs : Values) × AllMean ts vs
  all_meanings no_item h = (no_values, tt)
  all_meanings (more t ts) h =
      let a = meaning t (λ p r f. h f.0 (inl f.1) p r f.2) in
      let b = all_meanings ts (λ q i. h q (inr i)) in
      (value a.0 b.0, (a.1, b.1))

  entries_meanings : (es : Entries) → ((q : Tree) → WithinEntries q es → (p : ℕ) (r : InvalidReason) → FlawAt q p r → ⊥) → (ps : Couples) × EntriesMean es ps
  entries_meanings no_entry h = (no_pairs, tt)
  entries_meanings (entry k v es) h =
      let a = meaning k (λ p r f. h f.0 (inl f.1) p r f.2) in
      let b = meaning v (λ p r f. h f.0 (inr (inl f.1)) p r f.2) in
      let c = entries_meanings es (λ q i. h q (inr (inr i))) in
      (pair a.0 b.0 c.0, (a.1, b.1, c.1))
