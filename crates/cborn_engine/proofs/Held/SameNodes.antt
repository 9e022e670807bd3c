-- Nodes that spell the same bytes are the same but for their places.
use Rattle.std.specs.Prelude.{◌≡◌, ◌+◌, ◌∷◌}
use Rattle.cborn_engine.proofs.Common.{refl, sym, ap, ◌∙◌, ℕ, suc, List, [], length, Chunk, Major, ByteString, TextString, Array, Map, Tag, Given, head, argument, Tree, ByteChunks, TextChunks, Items, Pairs, Tagged, Trees, no_item, more, Entries, no_entry, entry, count, count_entries, chunk_bytes, spelled, spelled_all, FitsAll, chunks_from, placed_from, all_from, entries_from, unplaced_chunks, unplaced, unplaced_all, unplaced_entries, one_spelling}

-- Nodes that are placed anew are what they were, places aside.

moved_chunks : (m : Major) (p : ℕ) (cs : List Chunk) → unplaced_chunks (chunks_from m p cs) ≡ unplaced_chunks cs
moved_chunks m p [] = refl
moved_chunks m p (c ∷ cs) = ap (λ (ds : List Chunk). record c { place = 0 } ∷ ds) (moved_chunks m (p + length (chunk_bytes m c)) cs)

mutual
  moved : (t : Tree) (p : ℕ) → unplaced (placed_from p t) ≡ unplaced t
  moved (ByteChunks q cs) p = ap (ByteChunks 0) (moved_chunks ByteString (suc p) cs)
  moved (TextChunks q cs) p = ap (TextChunks 0) (moved_chunks TextString (suc p) cs)
  moved (Items q s ts) p = ap (Items 0 s) (moved_all ts (p + length (head Array (argument s (count ts)))))
  moved (Pairs q s es) p = ap (Pairs 0 s) (moved_entries es (p + length (head Map (argument s (count_entries es)))))
  moved (Tagged q w n t) p = ap (Tagged 0 w n) (moved t (p + length (head Tag (Given w n))))
  moved _ p = refl

  moved_all : (ts : Trees) (p : ℕ) → unplaced_all (all_from p ts) ≡ unplaced_all ts
  moved_all no_item p = refl
  moved_all (more t ts) p = λ i. more (moved t p i) (moved_all ts (p + length (spelled t)) i)

  moved_entries : (es : Entries) (p : ℕ) → unplaced_entries (entries_from p es) ≡ unplaced_entries es
  moved_entries no_entry p = refl
  moved_entries (entry k v es) p = λ i. entry (moved k p i) (moved v (p + length (spelled k)) i) (moved_entries es (p + length (spelled k) + length (spelled v)) i)

pub same_nodes : (ts us : Trees) → FitsAll ts → FitsAll us → spelled_all ts ≡ spelled_all us → unplaced_all ts ≡ unplaced_all us
same_nodes ts us h k e = sym (moved_all ts 0) ∙ ap unplaced_all (one_spelling ts us h k e 0) ∙ moved_all us 0
