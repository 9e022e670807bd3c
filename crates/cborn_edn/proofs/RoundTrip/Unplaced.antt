-- What doesn't depend on the places of nodes.
use Rattle.std.specs.Prelude.{◌≡◌, ◌∷◌, ◌⊎◌, ◌≢◌}
use Rattle.cborn_edn.proofs.Common.{arith, refl, sym, ap, ◌∙◌, subst, ℕ, suc, List, [], length, true, false, max, Chunk, Tree, ByteChunks, TextChunks, Items, Pairs, Tagged, Trees, more, Entries, no_entry, entry, depth_all, depth_entries, WidthFits, SizeFits, AreBytes, big_endian, ChunksFit, Fits, FitsAll, FitsEntries, spelled_all, unplaced_chunks, unplaced, unplaced_all, unplaced_entries, no_node as no_item, IsUtf8}
use Rattle.cborn_model.specs.Tree.{depth}
use Rattle.cborn_model.specs.Value.{Value, Values, Couples, bytes, text, array, dict, tagged, no_values, value, no_pairs, pair}
use Rattle.cborn_model.specs.Valid.{HasNewKeys}
use Rattle.cborn_model.specs.Meaning.{joined_chunks, IsNumber, IsByteString, ChunksAreText, Means, AllMean, EntriesMean}
use Rattle.cborn_edn.proofs.RoundTrip.Back.{count-unplaced, count-unplaced_entries, flat-unplaced, spelled_all-unplaced}

-- Each is an equation of what is said with places and without.

chunks_fit : (cs : List Chunk) → ChunksFit (unplaced_chunks cs) ≡ ChunksFit cs
chunks_fit [] = refl
chunks_fit (c ∷ cs) = λ i. (WidthFits c.width (length c.bytes) × AreBytes c.bytes) × chunks_fit cs i

mutual
  fits : (t : Tree) → Fits (unplaced t) ≡ Fits t
  fits (ByteChunks p cs) = chunks_fit cs
  fits (TextChunks p cs) = chunks_fit cs
  fits (Items p s ts) = λ i. SizeFits s (count-unplaced ts i) × fit_all ts i
  fits (Pairs p s es) = λ i. SizeFits s (count-unplaced_entries es i) × fit_entries es i
  fits (Tagged p w n t) = λ i. WidthFits w n × fits t i
  fits _ = refl

  fit_all : (ts : Trees) → FitsAll (unplaced_all ts) ≡ FitsAll ts
  fit_all no_item = refl
  fit_all (more t ts) = λ i. fits t i × fit_all ts i

  fit_entries : (es : Entries) → FitsEntries (unplaced_entries es) ≡ FitsEntries es
  fit_entries no_entry = refl
  fit_entries (entry k v es) = λ i. fits k i × fits v i × fit_entries es i

mutual
  deep : (t : Tree) → depth (unplaced t) ≡ depth t
  deep (Items p s ts) = ap suc (deep_all ts)
  deep (Pairs p s es) = ap suc (deep_entries es)
  deep (Tagged p w n t) = ap suc (deep t)
  deep _ = refl

  deep_all : (ts : Trees) → depth_all (unplaced_all ts) ≡ depth_all ts
  deep_all no_item = refl
  deep_all (more t ts) = λ i. max (deep t i) (deep_all ts i)

  deep_entries : (es : Entries) → depth_entries (unplaced_entries es) ≡ depth_entries es
  deep_entries no_entry = refl
  deep_entries (entry k v es) = λ i. max (max (deep k i) (deep v i)) (deep_entries es i)

joined : (cs : List Chunk) → joined_chunks (unplaced_chunks cs) ≡ joined_chunks cs
joined cs = flat-unplaced (λ c. c.bytes) cs (λ c. refl)

are_text : (cs : List Chunk) → ChunksAreText (unplaced_chunks cs) ≡ ChunksAreText cs
are_text [] = refl
are_text (c ∷ cs) = λ i. IsUtf8 c.bytes × are_text cs i

byte_string : (t : Tree) (b : List ℕ) → IsByteString (unplaced t) b ≡ IsByteString t b
byte_string t b = grind (arith, joined)

mutual
  mean : (t : Tree) (v : Value) → Means (unplaced t) v ≡ Means t v
  mean (ByteChunks p cs) v = λ i. v ≡ bytes (joined cs i)
  mean (TextChunks p cs) v = λ i. are_text cs i × (v ≡ text (joined cs i))
  mean (Items p s ts) v = λ i. (vs : Values) × mean_all ts vs i × (v ≡ array vs)
  mean (Pairs p s es) v = λ i. (ps : Couples) × mean_entries es ps i × HasNewKeys ps × (v ≡ dict ps)
  mean (Tagged p w n t) v = λ i.
      ((n ≡ 2) × ((b : List ℕ) × byte_string t b i × IsNumber false (big_endian b) v))
      ⊎ ((n ≡ 3) × ((b : List ℕ) × byte_string t b i × IsNumber true (big_endian b) v))
      ⊎ ((n ≢ 2) × (n ≢ 3) × (u : Value) × mean t u i × (v ≡ tagged n u))
  mean _ v = refl

  mean_all : (ts : Trees) (vs : Values) → AllMean (unplaced_all ts) vs ≡ AllMean ts vs
  mean_all no_item no_values = refl
  mean_all (more t ts) (value v vs) = λ i. mean t v i × mean_all ts vs i
  mean_all _ _ = refl

  mean_entries : (es : Entries) (ps : Couples) → EntriesMean (unplaced_entries es) ps ≡ EntriesMean es ps
  mean_entries no_entry no_pairs = refl
  mean_entries (entry k v es) (pair a b ps) = λ i. mean k a i × mean v b i × mean_entries es ps i
  mean_entries _ _ = refl

-- Lists of nodes that are the same but for their places.
module _ (nodes others : Trees) (e : unplaced_all nodes ≡ unplaced_all others) where
  pub same_fit : FitsAll nodes → FitsAll others
  same_fit h = subst (λ (X : Type 0). X) (sym (fit_all nodes) ∙ ap FitsAll e ∙ fit_all others) h

  pub same_depth : depth_all nodes ≡ depth_all others
  same_depth = sym (deep_all nodes) ∙ ap depth_all e ∙ deep_all others

  pub same_bytes : spelled_all nodes ≡ spelled_all others
  same_bytes = sym (spelled_all-unplaced nodes) ∙ ap spelled_all e ∙ spelled_all-unplaced others

  pub same_meaning : (vs : Values) → AllMean nodes vs → AllMean others vs
  same_meaning vs h = subst (λ (X : Type 0). X) (sym (mean_all nodes vs) ∙ ap (λ ts. AllMean ts vs) e ∙ mean_all others vs) h
