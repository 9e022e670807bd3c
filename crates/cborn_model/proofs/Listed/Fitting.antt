-- When nodes fit, in std's words: each of them does.
use Rattle.std.specs.Prelude.{◌≡◌, ◌<◌, ◌∷◌, ◌↔◌}
use Rattle.cborn_model.proofs.Common.{ℕ, zero, suc, List, [], length, get_or, arith, false, Bool, IsTrue, sym, subst, ◌∙◌, Chunk, Tree, Items, Pairs, trees, entries, Size, WidthFits, SizeFits, AreBytes, Fits, FitsAll, FitsEntries, ChunksFit}
use Rattle.cborn_model.proofs.Listed.Trees.{count-trees, count_entries-entries}

abbrev pub PairFits : Tree × Tree → Type 0
PairFits p = Fits p.0 × Fits p.1

abbrev pub ChunkFits : Chunk → Type 0
ChunkFits c = WidthFits c.width (length c.bytes) × AreBytes c.bytes

-- P holds of the first n
abbrev pub Front : {A : Type 0} → (A → Type 0) → List A → ℕ → Type 0
Front {A} P xs n = (k : ℕ) (d : A) → k < n → P (get_or xs k d)

-- F of a list says P of each in it.
module _ {A : Type 0} (F : List A → Type 0) (P : A → Type 0) (none : F []) (more : (x : A) (xs : List A) → (P x × F xs) ↔ F (x ∷ xs)) where
  pub all_hold : (xs : List A) → Front P xs (length xs) → F xs
  all_hold [] h = none
  all_hold (x ∷ xs) h = (more x xs).0 (h 0 x (omega arith), all_hold xs (λ k d l. h (suc k) d (omega arith)))

  holds_there : (xs : List A) (i : ℕ) (x : A) → i < length xs → F xs → P (get_or xs i x)
  holds_there [] i x l h = absurd (omega arith)
  holds_there (y ∷ xs) zero x l h = ((more y xs).1 h).0
  holds_there (y ∷ xs) (suc i) x l h = holds_there xs i x (omega arith) ((more y xs).1 h).1

  pub holds_at : (xs : List A) (i : ℕ) (x : A) → i < length xs → x ≡ get_or xs i x → F xs → P x
  holds_at xs i x l e h = subst P (sym e) (holds_there xs i x l h)

pub all_fit : (xs : List Tree) → Front Fits xs (length xs) → FitsAll (trees xs)
all_fit = all_hold (λ xs. FitsAll (trees xs)) Fits tt (λ x xs. ((λ h. h), (λ h. h)))

pub fits_at : (xs : List Tree) (i : ℕ) (x : Tree) → i < length xs → x ≡ get_or xs i x → FitsAll (trees xs) → Fits x
fits_at = holds_at (λ xs. FitsAll (trees xs)) Fits tt (λ x xs. ((λ h. h), (λ h. h)))

pub pairs_fit : (xs : List (Tree × Tree)) → Front PairFits xs (length xs) → FitsEntries (entries xs)
pairs_fit = all_hold (λ xs. FitsEntries (entries xs)) PairFits tt (λ x xs. ((λ h. (h.0.0, h.0.1, h.1)), (λ h. ((h.0, h.1), h.2))))

pub pair_fits_at : (xs : List (Tree × Tree)) (i : ℕ) (x : Tree × Tree) → i < length xs → x ≡ get_or xs i x → FitsEntries (entries xs) → PairFits x
pair_fits_at = holds_at (λ xs. FitsEntries (entries xs)) PairFits tt (λ x xs. ((λ h. (h.0.0, h.0.1, h.1)), (λ h. ((h.0, h.1), h.2))))

pub chunks_fit : (xs : List Chunk) → Front ChunkFits xs (length xs) → ChunksFit xs
chunks_fit = all_hold ChunksFit ChunkFits tt (λ x xs. ((λ h. h), (λ h. h)))

pub chunk_fits_at : (xs : List Chunk) (i : ℕ) (x : Chunk) → i < length xs → x ≡ get_or xs i x → ChunksFit xs → ChunkFits x
chunk_fits_at = holds_at ChunksFit ChunkFits tt (λ x xs. ((λ h. h), (λ h. h)))

-- a test of the size, and then one of what it holds
pub items_and_size : (p : ℕ) (s : Size) (n : ℕ) (xs : List Tree) (r : Bool) → n ≡ length xs → SizeFits s n → (IsTrue r ↔ FitsAll (trees xs)) → (IsTrue r ↔ Fits (Items p s (trees xs)))
items_and_size p s n xs r e h f = (λ y. (subst (SizeFits s) (e ∙ sym (count-trees xs)) h, f.0 y), λ y. f.1 y.1)

pub entries_and_size : (p : ℕ) (s : Size) (n : ℕ) (xs : List (Tree × Tree)) (r : Bool) → n ≡ length xs → SizeFits s n → (IsTrue r ↔ FitsEntries (entries xs)) → (IsTrue r ↔ Fits (Pairs p s (entries xs)))
entries_and_size p s n xs r e h f = (λ y. (subst (SizeFits s) (e ∙ sym (count_entries-entries xs)) h, f.0 y), λ y. f.1 y.1)

pub items_without_size : (p : ℕ) (s : Size) (n : ℕ) (xs : List Tree) (r : Bool) → n ≡ length xs → r ≡ false → (IsTrue r ↔ SizeFits s n) → (IsTrue r ↔ Fits (Items p s (trees xs)))
items_without_size p s n xs r h1 h2 h3 = grind (arith, count-trees)

pub entries_without_size : (p : ℕ) (s : Size) (n : ℕ) (xs : List (Tree × Tree)) (r : Bool) → n ≡ length xs → r ≡ false → (IsTrue r ↔ SizeFits s n) → (IsTrue r ↔ Fits (Pairs p s (entries xs)))
entries_without_size p s n xs r h1 h2 h3 = grind (arith, count_entries-entries)
