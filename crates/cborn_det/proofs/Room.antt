-- How much room encodings take: of each item less than four thirds of the bytes that spelled it.
use Rattle.std.specs.Prelude.{◌≡◌, ◌+◌, ◌*◌, ◌<◌, ◌≤◌, ◌^◌, ◌∷◌, ◌++◌}
use Rattle.cborn_det.proofs.Common.{ℕ, suc, inl, inr, List, [], length, refl, sym, ap, ◌∙◌, subst, arith, true, false, Bool, ltb-true, ltb-false, length-append, IsPermutation, Ordering, AllZip, flat_map, cases_lt, cond_both, sum_by-IsPermutation, Width, AreBytes, big_endian, IsShortest, WidthFits, following, least, IsLeastHead, Given, head, argument, Value, Values, Couples, array, dict, tagged, simple, no_values, value, no_pairs, pair, value_count, pair_count, IsString, IsInteger, Det, DetValues, DetPairs, DetSeq, Entry, joined, major_of, bignum_tag, below_power, fewer}
use Rattle.std.proofs.lemmas.List.Concat.{length-flat_map}
use Rattle.std.proofs.Math.Nat.{pow-le-pow_right}
use Rattle.cborn_model.specs.declared.heads.Width.TheVariants.{Direct, One, Two, Four, Eight}
use Rattle.cborn_model.specs.declared.heads.Size.{Size}
use Rattle.cborn_model.specs.declared.heads.Size.TheVariants.{Fixed, Endless}
use Rattle.cborn_model.specs.declared.nodes.Chunk.{Chunk}
use Rattle.cborn_model.specs.declared.heads.Major.{Major}
use Rattle.cborn_model.specs.declared.heads.Major.TheVariants.{Unsigned, Negative, ByteString, TextString, Array, Map, Tag, Other}
use Rattle.cborn_model.specs.Spelled.{ending, string, chunk_bytes, chunks, spelled, spelled_all, spelled_entries, ChunksFit, Fits, FitsAll, FitsEntries}
use Rattle.cborn_model.specs.Tree.{Tree, Uint, Nint, Bytes, Text, ByteChunks, TextChunks, Items, Pairs, Tagged, Simple, Trees, no_item, more, Entries, no_entry, entry, trees, count, count_entries}
use Rattle.cborn_model.specs.Meaning.{joined_chunks, IsNumber, IsBignum, Means, AllMean, EntriesMean}
use Rattle.cborn_model.proofs.Bytes.{bytes-append}

-- ---- heads

-- what holds of each width for the numbers of which it is the least
by_least : (P : Width → Type 0) (n : ℕ) → (n < 24 → P Direct) → (24 ≤ n → n < 256 → P One) → (256 ≤ n → n < 2 ^ 16 → P Two) → (2 ^ 16 ≤ n → n < 2 ^ 32 → P Four) → (2 ^ 32 ≤ n → P Eight) → P (least n)
by_least P n direct one two four eight = grind (arith, cond_both, ltb-false, ltb-true)

-- how many bytes of an argument a width has
bytes_in : Width → ℕ
bytes_in Direct = 0
bytes_in One = 1
bytes_in Two = 2
bytes_in Four = 4
bytes_in Eight = 8

length-following : (w : Width) (n : ℕ) → length (following w n) ≡ bytes_in w
unfolding bytes_in
length-following Direct n = refl
length-following _ n = refl

least_is_least : (w : Width) (n : ℕ) → WidthFits w n → bytes_in (least n) ≤ bytes_in w
unfolding bytes_in
least_is_least Direct n h = by_least (λ v. bytes_in v ≤ 0) n (λ _. omega arith) (λ a b. omega (arith, h, a)) (λ a b. omega (arith, h, a)) (λ a b. omega (arith, h, a)) (λ a. omega (arith, h, a))
least_is_least One n h = by_least (λ v. bytes_in v ≤ 1) n (λ _. omega arith) (λ a b. omega arith) (λ a b. omega (arith, h, a)) (λ a b. omega (arith, h, a)) (λ a. omega (arith, h, a))
least_is_least Two n h = by_least (λ v. bytes_in v ≤ 2) n (λ _. omega arith) (λ a b. omega arith) (λ a b. omega arith) (λ a b. omega (arith, h, a)) (λ a. omega (arith, h, a))
least_is_least Four n h = by_least (λ v. bytes_in v ≤ 4) n (λ _. omega arith) (λ a b. omega arith) (λ a b. omega arith) (λ a b. omega arith) (λ a. omega (arith, h, a))
least_is_least Eight n h = by_least (λ v. bytes_in v ≤ 8) n (λ _. omega arith) (λ a b. omega arith) (λ a b. omega arith) (λ a b. omega arith) (λ a. omega arith)

-- the least head of a length or a count is short compared with it
least_is_short : (n : ℕ) → 3 * bytes_in (least n) ≤ n
unfolding bytes_in
least_is_short n = by_least (λ v. 3 * bytes_in v ≤ n) n (λ _. omega arith) (λ a b. omega (arith, a)) (λ a b. omega (arith, a)) (λ a b. omega (arith, a)) (λ a. omega (arith, a))

-- a number of so many bytes has no fewer
power_above : (k l n : ℕ) → 256 ^ k ≤ n → n < 256 ^ l → k < l
power_above k l n a b = grind (arith, cases_lt, pow-le-pow_right)

-- the least head of a number is hardly longer than a bignum of it
least_of_bytes : (l n : ℕ) → n < 256 ^ l → 3 * bytes_in (least n) ≤ 4 + 4 * l
unfolding bytes_in
least_of_bytes l n h =
    by_least (λ v. 3 * bytes_in v ≤ 4 + 4 * l) n (λ _. omega arith) (λ a b. omega arith)
    (λ a b. let m = power_above 1 l n (omega (arith, a)) h in omega (arith, m))
    (λ a b. let m = power_above 2 l n (omega (arith, a)) h in omega (arith, m))
    (λ a. let m = power_above 4 l n (omega (arith, a)) h in omega (arith, m))

length_of_least : (j n : ℕ) (h : List ℕ) → IsLeastHead j n h → length h ≡ suc (bytes_in (least n))
length_of_least j n h p = ap length p.1 ∙ ap suc (length-following (least n) n)

length_of_head : (m : Major) (w : Width) (n : ℕ) → length (head m (Given w n)) ≡ suc (bytes_in w)
length_of_head m w n = ap suc (length-following w n)

-- ---- strings

-- the encoding of a string, besides its length
string_room : (j : ℕ) (b x : List ℕ) → IsString j b x → 3 * length x ≤ 3 + 4 * length b
string_room j b x d = grind (arith, least_is_short, length-append, length_of_least)

length_of_string : (m : Major) (w : Width) (b : List ℕ) → suc (length b) ≤ length (string m w b)
length_of_string m w b = grind (arith, length-append, length_of_head)

pub length_of_chunks : (m : Major) (cs : List Chunk) → length (joined_chunks cs) ≤ length (flat_map (chunk_bytes m) cs)
length_of_chunks m [] = omega arith
length_of_chunks m (c ∷ cs) =
    let rest = length_of_chunks m cs in
    let first = length_of_string m c.width c.bytes in
    let e : length (joined_chunks (c ∷ cs)) ≡ length c.bytes + length (joined_chunks cs) = length-append c.bytes (joined_chunks cs) in
    let f : length (flat_map (chunk_bytes m) (c ∷ cs)) ≡ length (chunk_bytes m c) + length (flat_map (chunk_bytes m) cs) = length-append (chunk_bytes m c) (flat_map (chunk_bytes m) cs) in
    omega (arith, rest, first, e, f)

length_of_chunked : (m : Major) (cs : List Chunk) → 2 + length (joined_chunks cs) ≤ length (chunks m cs ++ ending Endless)
length_of_chunked m cs = grind (arith, length-append, length_of_chunks)

pub joined_bytes : (cs : List Chunk) → ChunksFit cs → AreBytes (joined_chunks cs)
joined_bytes [] h = tt
joined_bytes (c ∷ cs) h = bytes-append c.bytes (joined_chunks cs) h.0.1 (joined_bytes cs h.1)

-- ---- numbers

-- what an encoding may take of the room that spelled bytes give
abbrev IsRoomFor : List ℕ → List ℕ → Type 0
IsRoomFor s x = 3 * length x + 1 ≤ 4 * length s

pub holds_below : (w : Width) (n : ℕ) → WidthFits w n → n < 2 ^ 64
holds_below Eight n h = h
holds_below _ n h = omega (arith, h)

integer_room : (order : List ℕ → List ℕ → Ordering) (s : Bool) (j : Major) (w : Width) (n : ℕ) (v : Value) (x : List ℕ) → WidthFits w n → IsNumber s n v → Det order v x → IsRoomFor (head j (Given w n)) x
integer_room order s j w n v x h m d = grind (arith, holds_below, least_is_least, length_of_head, length_of_least)

tag_is_short : (s : Bool) → bytes_in (least (bignum_tag s)) ≡ 0
unfolding bytes_in
tag_is_short true = refl
tag_is_short false = refl

-- without leading zeros a number has no more bytes than with them
pub no_more : (m b : List ℕ) → AreBytes b → IsShortest m → big_endian m ≡ big_endian b → length m ≤ length b
no_more m b h s e = elim (cases_lt (length b) (length m)) [ inl k ↦ absurd (let f = fewer b m h s k in omega (arith, f, e)) | inr k ↦ k ]

-- a bignum of these bytes, in a spelling that has a head for the tag and one for the string
bignum_room : (order : List ℕ → List ℕ → Ordering) (s : Bool) (b : List ℕ) (v : Value) (x : List ℕ) → AreBytes b → IsNumber s (big_endian b) v → Det order v x → 3 * length x + 1 ≤ 4 * (2 + length b)
bignum_room order s b v x h m d =
    let e : IsInteger s m.0 x = subst (λ (u : Value). Det order u x) m.4 d in
    elim e [
      | inl p ↦
          let q : IsLeastHead (major_of s) (big_endian b) x = subst (λ k. IsLeastHead (major_of s) k x) m.3 p.1 in
          omega (arith, length_of_least (major_of s) (big_endian b) x q, least_of_bytes (length b) (big_endian b) (below_power b h))
      | inr p ↦
          let l : length x ≡ length p.1 + length p.2 = ap length p.5 ∙ length-append p.1 p.2 in
          omega (arith, l, length_of_least 6 (bignum_tag s) p.1 p.3, tag_is_short s, string_room 2 m.0 p.2 p.4, no_more m.0 b h m.2 m.3)
    ]

simple_room : (n : ℕ) (x : List ℕ) → IsLeastHead 7 n x → IsRoomFor (head Other (Given (least n) n)) x
simple_room n x d = omega (arith, length_of_least 7 n x d, length_of_head Other (least n) n)

-- ---- what holds items

pub counted : (ts : Trees) (vs : Values) → AllMean ts vs → value_count vs ≡ count ts
counted no_item no_values m = refl
counted (more t ts) (value v vs) m = ap suc (counted ts vs m.1)
counted _ _ m = absurd m

pub counted_pairs : (es : Entries) (ps : Couples) → EntriesMean es ps → pair_count ps ≡ count_entries es
counted_pairs no_entry no_pairs m = refl
counted_pairs (entry k v es) (pair a b ps) m = ap suc (counted_pairs es ps m.2)
counted_pairs _ _ m = absurd m

-- pairs take the same room however they are arranged
length_moved : (written arranged : List Entry) → IsPermutation written arranged → length (joined arranged) ≡ length (joined written)
length_moved written arranged p =
    length-flat_map (λ (e : Entry). e.0 ++ e.1) arranged ∙ sum_by-IsPermutation (λ (e : Entry). length (e.0 ++ e.1)) written arranged p ∙ sym (length-flat_map (λ (e : Entry). e.0 ++ e.1) written)

-- an array or a map of n entries, whose contents have the room that they take
listed_room : (m : Major) (j : ℕ) (s : Size) (n : ℕ) (inner h c x : List ℕ) → 3 * length c + n ≤ 4 * length inner → IsLeastHead j n h → x ≡ h ++ c → IsRoomFor (head m (argument s n) ++ inner ++ ending s) x
listed_room m j (Fixed w) n inner h c x room p e = grind (arith, least_is_short, length-append, length_of_head, length_of_least)
listed_room m j Endless n inner h c x room p e = grind (arith, least_is_short, length-append, length_of_least)

-- the bytes of a bignum, of which the string that spells them has at least so many more
number_room : (order : List ℕ → List ℕ → Ordering) (s : Bool) (t : Tree) (v : Value) (x : List ℕ) → Fits t → IsBignum s t v → Det order v x → 3 * length x + 1 ≤ 4 * (1 + length (spelled t))
number_room order s (Bytes p w c) v x f m d =
    let b : AreBytes m.0 = subst AreBytes (sym m.1) f.1 in
    let e : length m.0 ≡ length c = ap length m.1 in
    omega (arith, e, bignum_room order s m.0 v x b m.2 d, length_of_string ByteString w c)
number_room order s (ByteChunks p cs) v x f m d =
    let b : AreBytes m.0 = subst AreBytes (sym m.1) (joined_bytes cs f) in
    let e : length m.0 ≡ length (joined_chunks cs) = ap length m.1 in
    omega (arith, e, bignum_room order s m.0 v x b m.2 d, length_of_chunked ByteString cs)
number_room order s _ v x f m d = absurd m.1

-- ---- items

module _ (order : List ℕ → List ℕ → Ordering) where
  mutual
    item_room : (t : Tree) (v : Value) (x : List ℕ) → Fits t → Means t v → Det order v x → IsRoomFor (spelled t) x
    item_room (Uint p w n) v x f m d = integer_room order false Unsigned w n v x f m d
    item_room (Nint p w n) v x f m d = integer_room order true Negative w n v x f m d
    item_room (Bytes p w b) v x f m d =
        let e : IsString 2 b x = subst (λ (u : Value). Det order u x) m d in
        omega (arith, string_room 2 b x e, length_of_string ByteString w b)
    item_room (Text p w b) v x f m d =
        let e : IsString 3 b x = subst (λ (u : Value). Det order u x) m.1 d in
        omega (arith, string_room 3 b x e, length_of_string TextString w b)
    item_room (ByteChunks p cs) v x f m d =
        let e : IsString 2 (joined_chunks cs) x = subst (λ (u : Value). Det order u x) m d in
        omega (arith, string_room 2 (joined_chunks cs) x e, length_of_chunked ByteString cs)
    item_room (TextChunks p cs) v x f m d =
        let e : IsString 3 (joined_chunks cs) x = subst (λ (u : Value). Det order u x) m.1 d in
        omega (arith, string_room 3 (joined_chunks cs) x e, length_of_chunked TextString cs)
    item_room (Items p s ts) v x f m d =
        let e : Det order (array m.0) x = subst (λ (u : Value). Det order u x) m.2 d in
        let inner = values_room ts m.0 e.1 f.1 m.1 e.3 in
        let n : value_count m.0 ≡ count ts = counted ts m.0 m.1 in
        listed_room Array 4 s (count ts) (spelled_all ts) e.0 e.1 x inner (subst (λ k. IsLeastHead 4 k e.0) n e.2) e.4
    item_room (Pairs p s es) v x f m d =
        let e : Det order (dict m.0) x = subst (λ (u : Value). Det order u x) m.3 d in
        let inner = entries_room es m.0 e.1 f.1 m.1 e.4 in
        let n : pair_count m.0 ≡ count_entries es = counted_pairs es m.0 m.1 in
        let moved : length (joined e.2) ≡ length (joined e.1) = length_moved e.1 e.2 e.5 in
        listed_room Map 5 s (count_entries es) (spelled_entries es) e.0 (joined e.2) x (omega (arith, inner, moved)) (subst (λ k. IsLeastHead 5 k e.0) n e.3) e.7
    item_room (Tagged p w n t) v x f m d =
        let l : length (spelled (Tagged p w n t)) ≡ length (head Tag (Given w n)) + length (spelled t) = length-append (head Tag (Given w n)) (spelled t) in
        elim m [
          | inl i ↦ let r = number_room order false t v x f.1 i.1 d in omega (arith, l, r, length_of_head Tag w n)
          | inr k ↦ elim k [
            | inl i ↦ let r = number_room order true t v x f.1 i.1 d in omega (arith, l, r, length_of_head Tag w n)
            | inr i ↦
                let e : Det order (tagged n i.2) x = subst (λ (u : Value). Det order u x) i.4 d in
                let inner = item_room t i.2 e.1 f.1 i.3 e.3 in
                let whole : length x ≡ length e.0 + length e.1 = ap length e.4 ∙ length-append e.0 e.1 in
                omega (arith, l, inner, whole, length_of_least 6 n e.0 e.2, length_of_head Tag w n, least_is_least w n f.0)
          ]
        ]
    item_room (Simple p n) v x f m d =
        let e : Det order (simple n) x = subst (λ (u : Value). Det order u x) m d in
        simple_room n x e.1

    values_room : (ts : Trees) (vs : Values) (x : List ℕ) → FitsAll ts → AllMean ts vs → DetValues order vs x → 3 * length x + count ts ≤ 4 * length (spelled_all ts)
    values_room no_item no_values x f m d = let e : length x ≡ 0 = ap length d in omega (arith, e)
    values_room (more t ts) (value v vs) x f m d =
        let e : length x ≡ length d.0 + length d.1 = ap length d.4 ∙ length-append d.0 d.1 in
        let l : length (spelled_all (more t ts)) ≡ length (spelled t) + length (spelled_all ts) = length-append (spelled t) (spelled_all ts) in
        omega (arith, e, l, item_room t v d.0 f.0 m.0 d.2, values_room ts vs d.1 f.1 m.1 d.3)
    values_room _ _ x f m d = absurd m

    entries_room : (es : Entries) (ps : Couples) (written : List Entry) → FitsEntries es → EntriesMean es ps → DetPairs order ps written → 3 * length (joined written) + count_entries es ≤ 4 * length (spelled_entries es)
    entries_room no_entry no_pairs [] f m d = omega arith
    entries_room (entry k v es) (pair a b ps) (w ∷ ws) f m d =
        let e : length (joined (w ∷ ws)) ≡ length (w.0 ++ w.1) + length (joined ws) = length-append (w.0 ++ w.1) (joined ws) in
        let l : length (spelled_entries (entry k v es)) ≡ length (spelled k ++ spelled v) + length (spelled_entries es) = length-append (spelled k ++ spelled v) (spelled_entries es) in
        omega (arith, e, l, length-append w.0 w.1, length-append (spelled k) (spelled v), item_room k a w.0 f.0 m.0 d.0, item_room v b w.1 f.1 m.1 d.1, entries_room es ps ws f.2 m.2 d.2)
    entries_room _ _ _ f m d = absurd (search (m, d))

  pub sequence_room : (nodes : List Tree) (vs : List Value) (x : List ℕ) → FitsAll (trees nodes) → AllZip Means nodes vs → DetSeq order vs x → 3 * length x + length nodes ≤ 4 * length (spelled_all (trees nodes))
  sequence_room [] [] x f m d = let e : length x ≡ 0 = ap length d in omega (arith, e)
  sequence_room (t ∷ ts) (v ∷ vs) x f m d =
      let e : length x ≡ length d.0 + length d.1 = ap length d.4 ∙ length-append d.0 d.1 in
      let l : length (spelled_all (trees (t ∷ ts))) ≡ length (spelled t) + length (spelled_all (trees ts)) = length-append (spelled t) (spelled_all (trees ts)) in
      omega (arith, e, l, item_room t v d.0 f.0 m.0 d.2, sequence_room ts vs d.1 f.1 m.1 d.3)
  sequence_room _ _ x f m d = absurd m
