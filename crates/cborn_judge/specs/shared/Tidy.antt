-- A device of the proofs: a node that is spelled deterministically, by recursion. No public contract cites it.
use Rattle.std.specs.Prelude.{◌≡◌, ◌⊎◌, ◌∷◌}
use Rattle.cborn_judge.specs.Common.{ℕ, List, [], length, ⊤, Ordering, least, IsByteString, Rising, spelled, Tree, Uint, Nint, Bytes, Text, ByteChunks, TextChunks, Items, Pairs, Tagged, Simple, Trees, no_item, more, Entries, no_entry, entry, count, count_entries, Size, Fixed, Endless, Entry, keys}
use Rattle.cborn_judge.specs.Defects.{IsLoose}

-- what each pair spells
abbrev pub spelled_pairs : Entries → List Entry
spelled_pairs no_entry = []
spelled_pairs (entry k v es) = (spelled k, spelled v) ∷ spelled_pairs es

abbrev pub SizeIsTidy : Size → ℕ → Type 0
SizeIsTidy (Fixed w) n = w ≡ least n
SizeIsTidy Endless n = ⊥

module _ (order : List ℕ → List ℕ → Ordering) where
  abbrev mutual
    pub IsTidy : Tree → Type 0
    IsTidy (Uint p w n) = w ≡ least n
    IsTidy (Nint p w n) = w ≡ least n
    IsTidy (Bytes p w b) = w ≡ least (length b)
    IsTidy (Text p w b) = w ≡ least (length b)
    IsTidy (ByteChunks p cs) = ⊥
    IsTidy (TextChunks p cs) = ⊥
    IsTidy (Items p s ts) = SizeIsTidy s (count ts) × AllTidy ts
    IsTidy (Pairs p s es) = SizeIsTidy s (count_entries es) × EntriesTidy es × Rising order (keys (spelled_pairs es))
    IsTidy (Tagged p w n t) = (w ≡ least n) × IsTidy t × ((b : List ℕ) → (n ≡ 2) ⊎ (n ≡ 3) → IsByteString t b → IsLoose b → ⊥)
    IsTidy (Simple p n) = ⊤

    pub AllTidy : Trees → Type 0
    AllTidy no_item = ⊤
    AllTidy (more t ts) = IsTidy t × AllTidy ts

    pub EntriesTidy : Entries → Type 0
    EntriesTidy no_entry = ⊤
    EntriesTidy (entry k v es) = IsTidy k × IsTidy v × EntriesTidy es
