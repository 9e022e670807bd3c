-- What doesn't depend on places: how many nodes there are, and the bytes that they spell. A width that an argument fits is below 2^64.
use Rattle.std.specs.Prelude.{◌≡◌, ◌^◌, ◌<◌, ◌∷◌, ◌++◌}
use Rattle.cborn_edn.proofs.Common.{refl, ap, ◌∙◌, ℕ, suc, List, [], arith, flat_map, Width, ByteString, TextString, Chunk, WidthFits, spelled, spelled_all, spelled_entries, chunk_bytes, Tree, ByteChunks, TextChunks, Items, Tagged, Trees, more, Entries, no_entry, entry, count, count_entries, unplaced_chunks, unplaced, unplaced_all, unplaced_entries, Pairs as PairNode, no_node}

pub below : (w : Width) (n : ℕ) → WidthFits w n → n < 2 ^ 64
below w n h1 = grind arith

pub count-unplaced : (ts : Trees) → count (unplaced_all ts) ≡ count ts
count-unplaced no_node = refl
count-unplaced (more t ts) = ap suc (count-unplaced ts)

pub count-unplaced_entries : (es : Entries) → count_entries (unplaced_entries es) ≡ count_entries es
count-unplaced_entries no_entry = refl
count-unplaced_entries (entry k v es) = ap suc (count-unplaced_entries es)

-- Places don't show in the bytes.
pub flat-unplaced : (f : Chunk → List ℕ) (cs : List Chunk) → ((c : Chunk) → f (record c { place = 0 }) ≡ f c) → flat_map f (unplaced_chunks cs) ≡ flat_map f cs
flat-unplaced f [] h = refl
flat-unplaced f (c ∷ cs) h = ap (λ x. x ++ flat_map f (unplaced_chunks cs)) (h c) ∙ ap (λ x. f c ++ x) (flat-unplaced f cs h)

mutual
  pub spelled-unplaced : (t : Tree) → spelled (unplaced t) ≡ spelled t
  spelled-unplaced (ByteChunks p cs) = rw (flat-unplaced (chunk_bytes ByteString) cs (λ c. refl)) refl
  spelled-unplaced (TextChunks p cs) = rw (flat-unplaced (chunk_bytes TextString) cs (λ c. refl)) refl
  spelled-unplaced (Items p s ts) = rw (count-unplaced ts, spelled_all-unplaced ts) refl
  spelled-unplaced (PairNode p s es) = rw (count-unplaced_entries es, spelled_entries-unplaced es) refl
  spelled-unplaced (Tagged p w n t) = rw (spelled-unplaced t) refl
  spelled-unplaced _ = refl

  pub spelled_all-unplaced : (ts : Trees) → spelled_all (unplaced_all ts) ≡ spelled_all ts
  spelled_all-unplaced no_node = refl
  spelled_all-unplaced (more t ts) = rw (spelled-unplaced t, spelled_all-unplaced ts) refl

  spelled_entries-unplaced : (es : Entries) → spelled_entries (unplaced_entries es) ≡ spelled_entries es
  spelled_entries-unplaced no_entry = refl
  spelled_entries-unplaced (entry k v es) = rw (spelled-unplaced k, spelled-unplaced v, spelled_entries-unplaced es) refl
