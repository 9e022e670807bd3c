-- A container and the nodes in it: when more may come, when it is whole, and what it is then.
use Rattle.std.specs.Prelude.{◌≡◌, ◌+◌, ◌/◌, ◌%◌, ◌<◌, ◌≤◌, ◌∷◌, ◌++◌}
use Rattle.cborn_wire.proofs.Common.{refl, sym, ap, ◌∙◌, subst, ℕ, suc, List, [], length, map, true, false, Option, Some, None, arith, append_assoc, append-nil, add-one, length_push, leb-true, leb-false, lt-leb, flat_map, Size, Endless, Tag, Chunk, Given, EndlessArgument, head, argument, SizeFits, Tree, Bytes, Text, ByteChunks, TextChunks, more, Entries, no_entry, entry, trees, entries, depth, depth_all, depth_entries, ending, chunk_bytes, spelled, spelled_all, spelled_entries, ChunksFit, Fits, FitsAll, FitsEntries, ChunksPlaced, Placed, PlacedAll, PlacedEntries, Opening, an_array, a_map, a_tag, in_chunks, paired, last_key, chunks_of, built, ended_size, IsAll, IsString, AreStrings, Goes, Ends, string_of, StringKind, OfBytes, OfText, major_of, opened, announced, opening, slot_in, added_depth, Announces, HeadFits, needs_item, chunks_from, placed_from, all_from, entries_from, is_full, place_of, common_steps, nat_tests, count-trees, count_entries-entries, strings, strings_are}

-- Keys and values in turn: how many pairs they are, and whether a value is missing.

pub pair_count : (ts : List Tree) → length (paired ts) ≡ length ts / 2
pair_count (k ∷ v ∷ ts) = omega (arith, pair_count ts)
pair_count ts = refl

pub even : (ts : List Tree) → last_key ts ≡ None → length ts % 2 ≡ 0
even (k ∷ v ∷ ts) e = omega (arith, even ts e)
even ts e = cc

pub no_key : (ts : List Tree) → length ts % 2 ≡ 0 → last_key ts ≡ None
no_key [] e = refl
no_key (k ∷ []) e = absurd (omega (arith, e))
no_key (k ∷ v ∷ ts) e = no_key ts (omega (arith, e))

pub value_next : (ts : List Tree) (t k : Tree) → last_key ts ≡ Some k → (paired (ts ++ t ∷ []) ≡ paired ts ++ (k, t) ∷ []) × (last_key (ts ++ t ∷ []) ≡ None)
value_next [] t k e = cc
value_next (l ∷ []) t k e = let same : l ≡ k = cc in (ap (λ l. (l, t) ∷ []) same, refl)
value_next (l ∷ v ∷ ts) t k e = let h = value_next ts t k e in (ap (λ m. (l, v) ∷ m) h.0, h.1)

pub pairs_spelled : (ts : List Tree) → last_key ts ≡ None → spelled_entries (entries (paired ts)) ≡ spelled_all (trees ts)
pairs_spelled (k ∷ v ∷ ts) e = ap (λ x. spelled k ++ spelled v ++ x) (pairs_spelled ts e) ∙ append_assoc (spelled k) (spelled v) (spelled_all (trees ts))
pairs_spelled ts e = cc

pairs_fit : (ts : List Tree) → FitsAll (trees ts) → FitsEntries (entries (paired ts))
pairs_fit (k ∷ v ∷ ts) h = (h.0, h.1.0, pairs_fit ts h.1.1)
pairs_fit ts h = tt

pairs_deep : (ts : List Tree) → depth_entries (entries (paired ts)) ≤ depth_all (trees ts)
pairs_deep (k ∷ v ∷ ts) = omega (arith, pairs_deep ts)
pairs_deep ts = omega arith

pairs_placed : (ts : List Tree) (p : ℕ) → PlacedAll p (trees ts) → PlacedEntries p (entries (paired ts))
pairs_placed (k ∷ v ∷ ts) p h = (h.0, h.1.0, pairs_placed ts _ h.1.1)
pairs_placed ts p h = tt

-- Strings as chunks.

pub strings_spelled : (k : StringKind) (cs : List Chunk) → flat_map (chunk_bytes (major_of k)) cs ≡ spelled_all (trees (map (string_of k) cs))
strings_spelled k [] = refl
strings_spelled OfBytes (c ∷ cs) = ap (λ x. chunk_bytes (major_of OfBytes) c ++ x) (strings_spelled OfBytes cs)
strings_spelled OfText (c ∷ cs) = ap (λ x. chunk_bytes (major_of OfText) c ++ x) (strings_spelled OfText cs)

strings_fit : (k : StringKind) (cs : List Chunk) → FitsAll (trees (map (string_of k) cs)) → ChunksFit cs
strings_fit k [] h = tt
strings_fit OfBytes (c ∷ cs) h = (h.0, strings_fit OfBytes cs h.1)
strings_fit OfText (c ∷ cs) h = (h.0, strings_fit OfText cs h.1)

strings_placed : (k : StringKind) (cs : List Chunk) (p : ℕ) → PlacedAll p (trees (map (string_of k) cs)) → ChunksPlaced (major_of k) p cs
strings_placed k [] p h = tt
strings_placed OfBytes (c ∷ cs) p h = (h.0, strings_placed OfBytes cs _ h.1)
strings_placed OfText (c ∷ cs) p h = (h.0, strings_placed OfText cs _ h.1)

chunks_spelled : (k : StringKind) (ts : List Tree) → AreStrings k ts → flat_map (chunk_bytes (major_of k)) (chunks_of ts) ≡ spelled_all (trees ts)
chunks_spelled k ts h = strings_spelled k (chunks_of ts) ∙ ap (λ us. spelled_all (trees us)) (strings_are k ts h)

pub strings_push : (k : StringKind) (ts : List Tree) (t : Tree) → AreStrings k ts → IsString k t → AreStrings k (ts ++ t ∷ [])
strings_push k [] t h is = (is, tt)
strings_push k (u ∷ ts) t h is = (h.0, strings_push k ts t h.1 is)

-- One more node may be in it.
abbrev pub Belongs : Opening → Tree → Type 0
Belongs (in_chunks p k) t = IsString k t
Belongs _ t = Unit {0}

-- When it is whole.

pub not_full : (o : Opening) (ts : List Tree) (n : ℕ) → Goes o ts → n ≤ length ts → is_full o n ≡ false
not_full o ts n h e = grind (arith, lt-leb, pair_count)

-- Before its last node it isn't.
pub not_yet : (o : Opening) (ts : List Tree) (n : ℕ) → Ends o ts → n < length ts → is_full o n ≡ false
not_yet o ts n h e = grind (arith, even, lt-leb, pair_count)

-- with one more node
pub goes_on : (o : Opening) (ts : List Tree) (t : Tree) → Goes o ts → Belongs o t → is_full o (length (ts ++ t ∷ [])) ≡ false → Goes o (ts ++ t ∷ [])
goes_on o ts t h e g = grind (arith, leb-false, length_push, pair_count, strings_push)

pub goes_whole : (o : Opening) (ts : List Tree) (t : Tree) → Goes o ts → is_full o (length (ts ++ t ∷ [])) ≡ true → Ends o (ts ++ t ∷ [])
goes_whole o ts t h e = grind (arith, leb-true, length_push, no_key, pair_count)

-- what is full before any node
pub empty_goes : (o : Opening) → is_full o 0 ≡ false → Goes o []
empty_goes o h = grind (arith, common_steps, nat_tests)

pub empty_whole : (o : Opening) → is_full o 0 ≡ true → Ends o []
empty_whole o h = grind (arith, common_steps, nat_tests)

-- What it is when it ends.

-- the bytes after its nodes

abbrev pub closing_of : Option ℕ → List ℕ
closing_of (Some n) = []
closing_of None = ending Endless

abbrev pub closing : Opening → List ℕ
closing (an_array p s c) = closing_of c
closing (a_map p s c) = closing_of c
closing (a_tag p w n) = []
closing (in_chunks p k) = ending Endless

-- none, where it is whole by the number in its head
pub full_closing : (o : Opening) (n : ℕ) → is_full o n ≡ true → closing o ≡ []
full_closing o n h = grind (arith, common_steps, nat_tests)

-- Where it isn't whole by a number, a break ends it.
pub endless_closing : (o : Opening) (ts : List Tree) → Ends o ts → is_full o (length ts) ≡ false → (closing o ≡ ending Endless) × (needs_item (slot_in (opened o ts)) ≡ false)
endless_closing o ts h e = grind (arith, leb-false, pair_count)

-- Where a break may be, it may end.
pub break_ends : (o : Opening) (ts : List Tree) → Goes o ts → needs_item (slot_in (opened o ts)) ≡ false → Ends o ts × (closing o ≡ ending Endless)
break_ends o ts h e = grind arith

-- the size of an array or a map, with as many items or pairs as were announced
record Sized (s : Size) (c : Option ℕ) (n : ℕ) : Type 0 where
  size : ended_size s c n ≡ s
  says : argument s n ≡ announced s c
  end : ending s ≡ closing_of c
  fits : SizeFits s n

sized : (s : Size) (c : Option ℕ) (n : ℕ) → Announces s c → IsAll c n → Sized s c n
sized s c n h e = grind (arith, common_steps, nat_tests)

pub built_spelled : (o : Opening) (ts : List Tree) → HeadFits o → Ends o ts → spelled (built o ts) ≡ opening o ++ spelled_all (trees ts) ++ closing o
built_spelled (an_array p s c) ts fits h = let z = sized s c (length ts) fits h in rw (z.size, count-trees ts, z.says, z.end) refl
built_spelled (a_map p s c) ts fits h = let z = sized s c (length (paired ts)) fits h.0 in rw (z.size, count_entries-entries (paired ts), z.says, z.end, pairs_spelled ts h.1) refl
built_spelled (a_tag p w n) ts fits (t, e) = grind (arith, common_steps, nat_tests, append-nil)
built_spelled (in_chunks p OfBytes) ts fits h = ap (λ x. head (major_of OfBytes) EndlessArgument ++ x ++ ending Endless) (chunks_spelled OfBytes ts h)
built_spelled (in_chunks p OfText) ts fits h = ap (λ x. head (major_of OfText) EndlessArgument ++ x ++ ending Endless) (chunks_spelled OfText ts h)

pub built_fits : (o : Opening) (ts : List Tree) → HeadFits o → Ends o ts → FitsAll (trees ts) → Fits (built o ts)
built_fits (an_array p s c) ts fits h all = let z = sized s c (length ts) fits h in rw (z.size, count-trees ts) (z.fits, all)
built_fits (a_map p s c) ts fits h all = let z = sized s c (length (paired ts)) fits h.0 in rw (z.size, count_entries-entries (paired ts)) (z.fits, pairs_fit ts all)
built_fits (a_tag p w n) ts fits (t, e) all = subst (λ us. Fits (built (a_tag p w n) us)) (sym e) (fits, (subst (λ us. FitsAll (trees us)) e all).0)
built_fits (in_chunks p OfBytes) ts fits h all = strings_fit OfBytes (chunks_of ts) (subst (λ us. FitsAll (trees us)) (sym (strings_are OfBytes ts h)) all)
built_fits (in_chunks p OfText) ts fits h all = strings_fit OfText (chunks_of ts) (subst (λ us. FitsAll (trees us)) (sym (strings_are OfText ts h)) all)

pub built_deep : (o : Opening) (ts : List Tree) → Ends o ts → depth (built o ts) ≤ added_depth o + depth_all (trees ts)
built_deep o ts h = grind (arith, pairs_deep)

chunks_there : (k : StringKind) (ts : List Tree) (p : ℕ) → AreStrings k ts → PlacedAll (p + 1) (trees ts) → ChunksPlaced (major_of k) (suc p) (chunks_of ts)
chunks_there k ts p h all = strings_placed k (chunks_of ts) (suc p) (subst (λ us. PlacedAll (suc p) (trees us)) (sym (strings_are k ts h)) (subst (λ n. PlacedAll n (trees ts)) (add-one p) all))

pub built_placed : (o : Opening) (ts : List Tree) (p : ℕ) → HeadFits o → Ends o ts → place_of o ≡ p → PlacedAll (p + length (opening o)) (trees ts) → Placed p (built o ts)
built_placed (an_array q s c) ts p fits h at all = let z = sized s c (length ts) fits h in rw (z.size, count-trees ts, z.says) (at, all)
built_placed (a_map q s c) ts p fits h at all = let z = sized s c (length (paired ts)) fits h.0 in rw (z.size, count_entries-entries (paired ts), z.says) (at, pairs_placed ts _ all)
built_placed (a_tag q w n) ts p fits (t, e) at all = subst (λ us. Placed p (built (a_tag q w n) us)) (sym e) (at, (subst (λ us. PlacedAll (p + length (head Tag (Given w n))) (trees us)) e all).0)
built_placed (in_chunks q OfBytes) ts p fits h at all = (at, chunks_there OfBytes ts p h all)
built_placed (in_chunks q OfText) ts p fits h at all = (at, chunks_there OfText ts p h all)

-- What nodes are one after another in it, from an offset on.

abbrev pub list_from : ℕ → List Tree → List Tree
list_from p [] = []
list_from p (t ∷ ts) = placed_from p t ∷ list_from (p + length (spelled t)) ts

abbrev pub opening_from : ℕ → Opening → Opening
opening_from p (an_array q s c) = an_array p s c
opening_from p (a_map q s c) = a_map p s c
opening_from p (a_tag q w n) = a_tag p w n
opening_from p (in_chunks q k) = in_chunks p k

pub list_length : (ts : List Tree) (p : ℕ) → length (list_from p ts) ≡ length ts
list_length [] p = refl
list_length (t ∷ ts) p = ap suc (list_length ts _)

list_trees : (ts : List Tree) (p : ℕ) → trees (list_from p ts) ≡ all_from p (trees ts)
list_trees [] p = refl
list_trees (t ∷ ts) p = ap (more (placed_from p t)) (list_trees ts _)

list_entries : (ts : List Tree) (p : ℕ) → entries (paired (list_from p ts)) ≡ entries_from p (entries (paired ts))
list_entries (k ∷ v ∷ ts) p = ap (entry (placed_from p k) (placed_from (p + length (spelled k)) v)) (list_entries ts _)
list_entries ts p = refl

pub list_pairs : (ts : List Tree) (p : ℕ) → length (paired (list_from p ts)) ≡ length (paired ts)
list_pairs ts p = pair_count (list_from p ts) ∙ ap (λ n. n / 2) (list_length ts p) ∙ sym (pair_count ts)

strings_from : (k : StringKind) (cs : List Chunk) (p : ℕ) → list_from p (map (string_of k) cs) ≡ map (string_of k) (chunks_from (major_of k) p cs)
strings_from k [] p = refl
strings_from OfBytes (c ∷ cs) p = ap (λ ts. Bytes p c.width c.bytes ∷ ts) (strings_from OfBytes cs _)
strings_from OfText (c ∷ cs) p = ap (λ ts. Text p c.width c.bytes ∷ ts) (strings_from OfText cs _)

list_strings : (k : StringKind) (ts : List Tree) (p : ℕ) → AreStrings k ts → list_from p ts ≡ map (string_of k) (chunks_from (major_of k) p (chunks_of ts))
list_strings k ts p h = ap (list_from p) (sym (strings_are k ts h)) ∙ strings_from k (chunks_of ts) p

pub ends_from : (o : Opening) (ts : List Tree) (p : ℕ) → Ends o ts → Ends o (list_from p ts)
ends_from (an_array q s c) ts p h = subst (IsAll c) (sym (list_length ts p)) h
ends_from (a_map q s c) ts p h = (subst (IsAll c) (sym (list_pairs ts p)) h.0, no_key (list_from p ts) (omega (arith, list_length ts p, even ts h.1)))
ends_from (a_tag q w n) ts p (t, e) = (placed_from p t, ap (list_from p) e)
ends_from (in_chunks q k) ts p h = subst (AreStrings k) (sym (list_strings k ts p h)) (strings k (chunks_from (major_of k) p (chunks_of ts))).0

list_chunks : (k : StringKind) (ts : List Tree) (p : ℕ) → AreStrings k ts → chunks_of (list_from (p + 1) ts) ≡ chunks_from (major_of k) (suc p) (chunks_of ts)
list_chunks k ts p h =
    ap chunks_of (list_strings k ts (p + 1) h) ∙ (strings k (chunks_from (major_of k) (p + 1) (chunks_of ts))).1 ∙ ap (λ n. chunks_from (major_of k) n (chunks_of ts)) (add-one p)

pub built_from : (o : Opening) (ts : List Tree) (p : ℕ) → HeadFits o → Ends o ts → built (opening_from p o) (list_from (p + length (opening o)) ts) ≡ placed_from p (built o ts)
built_from (an_array q s c) ts p fits h = grind (arith, common_steps, nat_tests, sized, list_length, list_trees, count-trees)
built_from (a_map q s c) ts p fits h = grind (arith, common_steps, nat_tests, sized, list_pairs, list_entries, count_entries-entries)
built_from (a_tag q w n) ts p fits (t, e) = subst (λ us. built (a_tag p w n) (list_from (p + length (head Tag (Given w n))) us) ≡ placed_from p (built (a_tag q w n) us)) (sym e) refl
built_from (in_chunks q OfBytes) ts p fits h = ap (ByteChunks p) (list_chunks OfBytes ts p h)
built_from (in_chunks q OfText) ts p fits h = ap (TextChunks p) (list_chunks OfText ts p h)

-- The nodes in a container that is whole.

abbrev pub nodes_of : Entries → List Tree
nodes_of no_entry = []
nodes_of (entry k v es) = k ∷ v ∷ nodes_of es

pub nodes_entries : (es : Entries) → entries (paired (nodes_of es)) ≡ es
nodes_entries no_entry = refl
nodes_entries (entry k v es) = ap (entry k v) (nodes_entries es)

pub nodes_end : (es : Entries) → last_key (nodes_of es) ≡ None
nodes_end no_entry = refl
nodes_end (entry k v es) = nodes_end es

pub nodes_fit : (es : Entries) → FitsEntries es → FitsAll (trees (nodes_of es))
nodes_fit no_entry h = tt
nodes_fit (entry k v es) h = (h.0, (h.1, nodes_fit es h.2))

pub nodes_deep : (es : Entries) → depth_all (trees (nodes_of es)) ≤ depth_entries es
nodes_deep no_entry = omega arith
nodes_deep (entry k v es) = omega (arith, nodes_deep es)

pub strings_fitting : (k : StringKind) (cs : List Chunk) → ChunksFit cs → FitsAll (trees (map (string_of k) cs))
strings_fitting k [] h = tt
strings_fitting OfBytes (c ∷ cs) h = (h.0, strings_fitting OfBytes cs h.1)
strings_fitting OfText (c ∷ cs) h = (h.0, strings_fitting OfText cs h.1)

pub strings_flat : (k : StringKind) (cs : List Chunk) → depth_all (trees (map (string_of k) cs)) ≤ 0
strings_flat k [] = omega arith
strings_flat OfBytes (c ∷ cs) = omega (arith, strings_flat OfBytes cs)
strings_flat OfText (c ∷ cs) = omega (arith, strings_flat OfText cs)
