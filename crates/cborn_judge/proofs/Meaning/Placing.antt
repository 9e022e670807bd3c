-- Each flaw and each defect of a placed node is within the bytes that the node spells.
use Rattle.std.specs.Prelude.{◌≡◌, ◌+◌, ◌<◌, ◌≤◌, ◌⊎◌, ◌∷◌, ◌++◌}
use Rattle.cborn_judge.proofs.Common.{ℕ, suc, inl, inr, List, [], length, sym, subst, arith, length-append, Ordering, Within, WithinAll, WithinEntries, IsRepeated, HasRepeat, HasBadChunk, FlawAt, Flaw, InvalidReason, HasLongChunk, Descends, HasDescent, DefectAt, Defect, DefectReason, Chunk, Tree, Text, ByteChunks, TextChunks, Items, Pairs, Tagged, Simple, Trees, no_item, more, Entries, no_entry, entry, count, count_entries, place, Major, ByteString, TextString, Map, Tag, Array, Given, EndlessArgument, head, argument, Size, Endless, ending, chunks, chunk_bytes, spelled, spelled_all, spelled_entries, ChunksPlaced, Placed, PlacedAll, PlacedEntries, flat_map}
use Rattle.cborn_model.proofs.Lengths.{some_bytes}
use Rattle.cborn_judge.proofs.Meaning.Judging.{within_itself}

-- ---- parts of a node

-- the node is placed, and what it spells is from a on and before e
abbrev Lies : ℕ → ℕ → Tree → Type 0
Lies a e q = (b : ℕ) × Placed b q × (a ≤ b) × (b + length (spelled q) ≤ e)

wider : (a e c f : ℕ) (q : Tree) → Lies a e q → c ≤ a → e ≤ f → Lies c f q
wider a e c f q (b, h, l, m) i j = (b, h, omega arith, omega arith)

itself : (q t : Tree) (a : ℕ) → Placed a t → q ≡ t → Lies a (a + length (spelled t)) q
itself q t a h e = subst (Lies a (a + length (spelled t))) (sym e) (a, h, omega arith, omega arith)

length-entry : (k v : Tree) (es : Entries) → length (spelled_entries (entry k v es)) ≡ length (spelled k) + length (spelled v) + length (spelled_entries es)
length-entry k v es = omega (arith, length-append (spelled k ++ spelled v) (spelled_entries es), length-append (spelled k) (spelled v))

mutual
  within_lies : (q t : Tree) (a : ℕ) → Placed a t → Within q t → Lies a (a + length (spelled t)) q
  within_lies q (Items p s ts) a h (inr i) =
      let f = head Array (argument s (count ts)) in
      wider (a + length f) (a + length f + length (spelled_all ts)) a (a + length (spelled (Items p s ts))) q (all_lies q ts (a + length f) h.1 i) (omega arith) (omega (arith, length-append (f ++ spelled_all ts) (ending s), length-append f (spelled_all ts)))
  within_lies q (Pairs p s es) a h (inr i) =
      let f = head Map (argument s (count_entries es)) in
      wider (a + length f) (a + length f + length (spelled_entries es)) a (a + length (spelled (Pairs p s es))) q (entries_lie q es (a + length f) h.1 i) (omega arith) (omega (arith, length-append (f ++ spelled_entries es) (ending s), length-append f (spelled_entries es)))
  within_lies q (Tagged p w n t) a h (inr i) =
      let f = head Tag (Given w n) in
      wider (a + length f) (a + length f + length (spelled t)) a (a + length (spelled (Tagged p w n t))) q (within_lies q t (a + length f) h.1 i) (omega arith) (omega (arith, length-append f (spelled t)))
  within_lies q (Items p s ts) a h (inl e) = itself q (Items p s ts) a h e
  within_lies q (Pairs p s es) a h (inl e) = itself q (Pairs p s es) a h e
  within_lies q (Tagged p w n t) a h (inl e) = itself q (Tagged p w n t) a h e
  within_lies q t a h e = itself q t a h e

  pub all_lies : (q : Tree) (ts : Trees) (a : ℕ) → PlacedAll a ts → WithinAll q ts → Lies a (a + length (spelled_all ts)) q
  all_lies q no_item a h i = absurd i
  all_lies q (more t ts) a h (inl i) =
      wider a (a + length (spelled t)) a (a + length (spelled_all (more t ts))) q (within_lies q t a h.0 i) (omega arith) (omega (arith, length-append (spelled t) (spelled_all ts)))
  all_lies q (more t ts) a h (inr i) =
      let b = a + length (spelled t) in
      wider b (b + length (spelled_all ts)) a (a + length (spelled_all (more t ts))) q (all_lies q ts b h.1 i) (omega arith) (omega (arith, length-append (spelled t) (spelled_all ts)))

  entries_lie : (q : Tree) (es : Entries) (a : ℕ) → PlacedEntries a es → WithinEntries q es → Lies a (a + length (spelled_entries es)) q
  entries_lie q no_entry a h i = absurd i
  entries_lie q (entry k v es) a h (inl i) = wider a (a + length (spelled k)) a (a + length (spelled_entries (entry k v es))) q (within_lies q k a h.0 i) (omega arith) (omega (arith, length-entry k v es))
  entries_lie q (entry k v es) a h (inr (inl i)) =
      let b = a + length (spelled k) in
      wider b (b + length (spelled v)) a (a + length (spelled_entries (entry k v es))) q (within_lies q v b h.1 i) (omega arith) (omega (arith, length-entry k v es))
  entries_lie q (entry k v es) a h (inr (inr i)) =
      let b = a + length (spelled k) + length (spelled v) in
      wider b (b + length (spelled_entries es)) a (a + length (spelled_entries (entry k v es))) q (entries_lie q es b h.2 i) (omega arith) (omega (arith, length-entry k v es))

-- ---- what is found at heads, keys and chunks

abbrev IsAmid : ℕ → ℕ → ℕ → Type 0
IsAmid a e p = (a ≤ p) × (p < e)

-- a placed node is at its place
pub placed_at : (t : Tree) (a : ℕ) → Placed a t → place t ≡ a
placed_at (ByteChunks q cs) a h = h.0
placed_at (TextChunks q cs) a h = h.0
placed_at (Items q s ts) a h = h.0
placed_at (Pairs q s es) a h = h.0
placed_at (Tagged q w n t) a h = h.0
placed_at _ a h = h

at_head : (t : Tree) (a p : ℕ) → Placed a t → p ≡ place t → IsAmid a (a + length (spelled t)) p
at_head t a p h e = (omega (arith, e, placed_at t a h), omega (arith, e, placed_at t a h, some_bytes t))

-- the place of a key
abbrev IsOfKey : Entries → ℕ → Type 0
IsOfKey es p = (l : Tree) × WithinEntries l es × (p ≡ place l)

later : (k v : Tree) (es : Entries) (p : ℕ) → IsOfKey es p → IsOfKey (entry k v es) p
later k v es p (l, i, e) = (l, inr (inr i), e)

repeated_key : (k : Tree) (es : Entries) (p : ℕ) → IsRepeated k es p → IsOfKey es p
repeated_key k no_entry p h = absurd h
repeated_key k (entry l v es) p (inl h) = (l, inl (within_itself l), h.0)
repeated_key k (entry l v es) p (inr h) = later l v es p (repeated_key k es p h)

repeat_key : (es : Entries) (p : ℕ) → HasRepeat es p → IsOfKey es p
repeat_key no_entry p h = absurd h
repeat_key (entry k v es) p (inl h) = later k v es p (repeated_key k es p h)
repeat_key (entry k v es) p (inr h) = later k v es p (repeat_key es p h)

key_amid : (q : ℕ) (s : Size) (es : Entries) (a p : ℕ) → Placed a (Pairs q s es) → IsOfKey es p → IsAmid a (a + length (spelled (Pairs q s es))) p
key_amid q s es a p h (l, i, e) =
    let (b, k, m, n) = within_lies l (Pairs q s es) a h (inr i) in
    let (c, d) = at_head l b p k e in
    (omega arith, omega arith)

-- a chunk is found by what holds of it
chunk_amid : (Has : List Chunk → ℕ → Type 0) (m : Major) → ((p : ℕ) → Has [] p → ⊥) → ((c : Chunk) (cs : List Chunk) (p : ℕ) → Has (c ∷ cs) p → (p ≡ c.place) ⊎ Has cs p) → (cs : List Chunk) (a p : ℕ) → ChunksPlaced m a cs → Has cs p → IsAmid a (a + length (flat_map (chunk_bytes m) cs)) p
chunk_amid Has m none one [] a p h i = absurd (none p i)
chunk_amid Has m none one (c ∷ cs) a p h i =
    let l = length-append (chunk_bytes m c) (flat_map (chunk_bytes m) cs) in
    elim (one c cs p i) [
      | inl e ↦ (omega (arith, e, h.0), omega (arith, e, h.0, l))
      | inr j ↦ let (f, g) = chunk_amid Has m none one cs (a + length (chunk_bytes m c)) p h.1 j in (omega (arith, f), omega (arith, g, l))
    ]

in_chunked : (m : Major) (cs : List Chunk) (a p : ℕ) → IsAmid (suc a) (suc a + length (flat_map (chunk_bytes m) cs)) p → IsAmid a (a + length (chunks m cs ++ ending Endless)) p
in_chunked m cs a p (l, k) = (omega arith, omega (arith, k, length-append (chunks m cs) (ending Endless), length-append (head m EndlessArgument) (flat_map (chunk_bytes m) cs)))

flaw_amid : (t : Tree) (a p : ℕ) (r : InvalidReason) → Placed a t → FlawAt t p r → IsAmid a (a + length (spelled t)) p
flaw_amid (Text q w b) a p r h f = at_head (Text q w b) a p h f.0
flaw_amid (TextChunks q cs) a p r h f = in_chunked TextString cs a p (chunk_amid HasBadChunk TextString (λ p i. i) (λ c cs p i. elim i [ inl j ↦ inl j.0 | inr j ↦ inr j ]) cs (suc a) p h.1 f.1)
flaw_amid (Tagged q w n t) a p r h f = at_head (Tagged q w n t) a p h f.0
flaw_amid (Pairs q s es) a p r h f = key_amid q s es a p h (repeat_key es p f.1)
flaw_amid _ a p r h f = absurd f

-- a flaw of a placed node is within its bytes, and so is one of nodes one after another
pub flaw_within : (t : Tree) (p q : ℕ) (r : InvalidReason) → Placed p t → Flaw t q r → (p ≤ q) × (q < p + length (spelled t))
flaw_within t p q r h1 h2 = grind (arith, flaw_amid, within_lies)

pub flaw_after : (ts : Trees) (a : ℕ) (q : Tree) (p : ℕ) (r : InvalidReason) → PlacedAll a ts → WithinAll q ts → FlawAt q p r → a ≤ p
flaw_after ts a q p r h i f = let (b, k, l, m) = all_lies q ts a h i in omega (arith, l, (flaw_amid q b p r k f).0)

module _ (order : List ℕ → List ℕ → Ordering) where
  descends_key : (k : Tree) (es : Entries) (p : ℕ) → Descends order k es p → IsOfKey es p
  descends_key k no_entry p h = absurd h
  descends_key k (entry l v es) p (inl h) = (l, inl (within_itself l), h.0)
  descends_key k (entry l v es) p (inr h) = later l v es p (descends_key l es p h)

  descent_key : (es : Entries) (p : ℕ) → HasDescent order es p → IsOfKey es p
  descent_key no_entry p h = absurd h
  descent_key (entry k v es) p h = later k v es p (descends_key k es p h)

  long_chunk : (m : Major) (cs : List Chunk) (a p : ℕ) → ChunksPlaced m (suc a) cs → HasLongChunk cs p → IsAmid a (a + length (chunks m cs ++ ending Endless)) p
  long_chunk m cs a p h i = in_chunked m cs a p (chunk_amid HasLongChunk m (λ p i. i) (λ c cs p i. elim i [ inl j ↦ inl j.0 | inr j ↦ inr j ]) cs (suc a) p h i)

  defect_amid : (t : Tree) (a p : ℕ) (r : DefectReason) → Placed a t → DefectAt order t p r → IsAmid a (a + length (spelled t)) p
  defect_amid (ByteChunks q cs) a p r h (inl d) = at_head (ByteChunks q cs) a p h d.0
  defect_amid (ByteChunks q cs) a p r h (inr d) = long_chunk ByteString cs a p h.1 d.1
  defect_amid (TextChunks q cs) a p r h (inl d) = at_head (TextChunks q cs) a p h d.0
  defect_amid (TextChunks q cs) a p r h (inr d) = long_chunk TextString cs a p h.1 d.1
  defect_amid (Pairs q s es) a p r h (inl d) = at_head (Pairs q s es) a p h d.0
  defect_amid (Pairs q s es) a p r h (inr d) = key_amid q s es a p h (descent_key es p d.1)
  defect_amid (Simple q n) a p r h d = absurd d
  defect_amid t a p r h d = at_head t a p h d.0

  -- and a defect is
  pub defect_within : (t : Tree) (p q : ℕ) (r : DefectReason) → Placed p t → Defect order t q r → (p ≤ q) × (q < p + length (spelled t))
  defect_within t p q r h1 h2 = grind (arith, defect_amid, within_lies)
