-- A device of the proofs: a code for trees, by which they are told apart. A tree is the list of its marks, children first. No definition cites it.
use Rattle.std.specs.Prelude.{◌≡◌, ◌⊎◌, ◌∷◌}
use Rattle.cborn_model.specs.Common.{ℕ, List, [], refl, inl, inr, ◌∙◌, Coded, code_by, coded×, coded⊎, coded_ℕ, coded_list, Width, Size}
use base.Stored.{coded_unit}
use Rattle.cborn_model.specs.declared.nodes.Chunk.{Chunk}
use Rattle.cborn_model.specs.contracts.heads.Width as width
use Rattle.cborn_model.specs.contracts.heads.Size as size
use Rattle.cborn_model.specs.contracts.nodes.Chunk as chunk
use Rattle.cborn_model.specs.Tree.{Tree, Uint, Nint, Bytes, Text, ByteChunks, TextChunks, Items, Pairs, Tagged, Simple, Trees, no_item, more, Entries, no_entry, entry}

abbrev Number : Type 0
Number = Width × ℕ

abbrev String : Type 0
String = Width × List ℕ

-- what a node without children says
abbrev Leaf : Type 0
Leaf = Number ⊎ (Number ⊎ (String ⊎ (String ⊎ (List Chunk ⊎ (List Chunk ⊎ ℕ)))))

-- what a mark says: a leaf with its place, or what is made of the marks before it
abbrev Mark : Type 0
Mark =
    (ℕ × Leaf) ⊎ ((ℕ × Size) ⊎ ((ℕ × Size) ⊎ ((ℕ × (Width × ℕ)) ⊎ (Unit {0} ⊎ (Unit {0} ⊎ (Unit {0} ⊎ Unit {0}))))))

abbrev leaf_mark : ℕ → Leaf → Mark
leaf_mark p l = inl (p, l)

abbrev items_mark : ℕ → Size → Mark
items_mark p s = inr (inl (p, s))

abbrev pairs_mark : ℕ → Size → Mark
pairs_mark p s = inr (inr (inl (p, s)))

abbrev tagged_mark : ℕ → Width → ℕ → Mark
tagged_mark p w n = inr (inr (inr (inl (p, (w, n)))))

abbrev no_item_mark : Mark
no_item_mark = inr (inr (inr (inr (inl tt))))

abbrev more_mark : Mark
more_mark = inr (inr (inr (inr (inr (inl tt)))))

abbrev no_entry_mark : Mark
no_entry_mark = inr (inr (inr (inr (inr (inr (inl tt))))))

abbrev entry_mark : Mark
entry_mark = inr (inr (inr (inr (inr (inr (inr tt))))))

-- the marks of a tree, before the marks k
abbrev mutual
  marks : Tree → List Mark → List Mark
  marks (Uint p w n) k = leaf_mark p (inl (w, n)) ∷ k
  marks (Nint p w n) k = leaf_mark p (inr (inl (w, n))) ∷ k
  marks (Bytes p w b) k = leaf_mark p (inr (inr (inl (w, b)))) ∷ k
  marks (Text p w b) k = leaf_mark p (inr (inr (inr (inl (w, b))))) ∷ k
  marks (ByteChunks p cs) k = leaf_mark p (inr (inr (inr (inr (inl cs))))) ∷ k
  marks (TextChunks p cs) k = leaf_mark p (inr (inr (inr (inr (inr (inl cs)))))) ∷ k
  marks (Simple p n) k = leaf_mark p (inr (inr (inr (inr (inr (inr n)))))) ∷ k
  marks (Items p s ts) k = marks_all ts (items_mark p s ∷ k)
  marks (Pairs p s es) k = marks_entries es (pairs_mark p s ∷ k)
  marks (Tagged p w n t) k = marks t (tagged_mark p w n ∷ k)

  marks_all : Trees → List Mark → List Mark
  marks_all no_item k = no_item_mark ∷ k
  marks_all (more t ts) k = marks t (marks_all ts (more_mark ∷ k))

  marks_entries : Entries → List Mark → List Mark
  marks_entries no_entry k = no_entry_mark ∷ k
  marks_entries (entry a b es) k = marks a (marks b (marks_entries es (entry_mark ∷ k)))

module _ {A : Type 0} where
  abbrev first : A → List A → A
  first d [] = d
  first d (x ∷ xs) = x

  abbrev rest : List A → List A
  rest [] = []
  rest (x ∷ xs) = xs

abbrev leaf : ℕ → Leaf → Tree
leaf p (inl x) = Uint p x.0 x.1
leaf p (inr (inl x)) = Nint p x.0 x.1
leaf p (inr (inr (inl x))) = Bytes p x.0 x.1
leaf p (inr (inr (inr (inl x)))) = Text p x.0 x.1
leaf p (inr (inr (inr (inr (inl x))))) = ByteChunks p x
leaf p (inr (inr (inr (inr (inr (inl x)))))) = TextChunks p x
leaf p (inr (inr (inr (inr (inr (inr x)))))) = Simple p x

abbrev tree_first : List Tree → Tree
tree_first a = first (Simple 0 0) a

-- the tree that marks make, next to the trees, lists and pairs that were made before
abbrev made : List Mark → List Tree → List Trees → List Entries → Tree
made [] a b c = tree_first a
made (inl m ∷ ms) a b c = made ms (leaf m.0 m.1 ∷ a) b c
made (inr (inl m) ∷ ms) a b c = made ms (Items m.0 m.1 (first no_item b) ∷ a) (rest b) c
made (inr (inr (inl m)) ∷ ms) a b c = made ms (Pairs m.0 m.1 (first no_entry c) ∷ a) b (rest c)
made (inr (inr (inr (inl m))) ∷ ms) a b c = made ms (Tagged m.0 m.1.0 m.1.1 (tree_first a) ∷ rest a) b c
made (inr (inr (inr (inr (inl m)))) ∷ ms) a b c = made ms a (no_item ∷ b) c
made (inr (inr (inr (inr (inr (inl m))))) ∷ ms) a b c =
    made ms (rest a) (more (tree_first a) (first no_item b) ∷ rest b) c
made (inr (inr (inr (inr (inr (inr (inl m)))))) ∷ ms) a b c = made ms a b (no_entry ∷ c)
made (inr (inr (inr (inr (inr (inr (inr m)))))) ∷ ms) a b c =
    made ms (rest (rest a)) b (entry (tree_first (rest a)) (tree_first a) (first no_entry c) ∷ rest c)

mutual
  pub made-marks : (t : Tree) (k : List Mark) (a : List Tree) (b : List Trees) (c : List Entries) → made (marks t k) a b c ≡ made k (t ∷ a) b c
  made-marks (Uint p w n) k a b c = refl
  made-marks (Nint p w n) k a b c = refl
  made-marks (Bytes p w x) k a b c = refl
  made-marks (Text p w x) k a b c = refl
  made-marks (ByteChunks p cs) k a b c = refl
  made-marks (TextChunks p cs) k a b c = refl
  made-marks (Simple p n) k a b c = refl
  made-marks (Items p s ts) k a b c = made-marks_all ts (items_mark p s ∷ k) a b c
  made-marks (Pairs p s es) k a b c = made-marks_entries es (pairs_mark p s ∷ k) a b c
  made-marks (Tagged p w n t) k a b c = made-marks t (tagged_mark p w n ∷ k) a b c

  made-marks_all : (ts : Trees) (k : List Mark) (a : List Tree) (b : List Trees) (c : List Entries) → made (marks_all ts k) a b c ≡ made k a (ts ∷ b) c
  made-marks_all no_item k a b c = refl
  made-marks_all (more t ts) k a b c =
      made-marks t (marks_all ts (more_mark ∷ k)) a b c ∙ made-marks_all ts (more_mark ∷ k) (t ∷ a) b c

  made-marks_entries : (es : Entries) (k : List Mark) (a : List Tree) (b : List Trees) (c : List Entries) → made (marks_entries es k) a b c ≡ made k a b (es ∷ c)
  made-marks_entries no_entry k a b c = refl
  made-marks_entries (entry x y es) k a b c =
      made-marks x (marks y (marks_entries es (entry_mark ∷ k))) a b c ∙ made-marks y (marks_entries es (entry_mark ∷ k)) (x ∷ a) b c ∙ made-marks_entries es (entry_mark ∷ k) (y ∷ x ∷ a) b c

abbrev leaf_code : Coded Leaf
leaf_code =
    let number : Coded Number = coded× width.the_row.coded coded_ℕ in
    let string : Coded String = coded× width.the_row.coded (coded_list coded_ℕ) in
    let chunks : Coded (List Chunk) = coded_list chunk.the_row.coded in
    coded⊎ number (coded⊎ number (coded⊎ string (coded⊎ string (coded⊎ chunks (coded⊎ chunks coded_ℕ)))))

abbrev mark_code : Coded Mark
mark_code =
    let unit : Coded (Unit {0}) = coded_unit in
    coded⊎ (coded× coded_ℕ leaf_code)
    (coded⊎ (coded× coded_ℕ size.the_row.coded)
    (coded⊎ (coded× coded_ℕ size.the_row.coded)
    (coded⊎ (coded× coded_ℕ (coded× width.the_row.coded coded_ℕ))
    (coded⊎ unit (coded⊎ unit (coded⊎ unit unit))))))

abbrev pub tree_code : Coded Tree
tree_code =
    code_by (List Mark) (coded_list mark_code) (λ t. marks t []) (λ ms. made ms [] [] []) (λ t. made-marks t [] [] [] [])
