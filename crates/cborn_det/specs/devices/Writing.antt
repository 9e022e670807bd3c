-- A device of the proofs: what the parts of the encoder leave at the end of a buffer. No definition and no public contract cites it; the contracts of the crate's own functions do.
use Rattle.std.specs.Prelude.{◌≡◌, ◌++◌}
use Rattle.cborn_det.specs.Common.{ℕ, List, map, length, Result, MatchResult, Ordering, Bor, Value}
use Rattle.cborn_det.specs.Appending.{Appends}
use Rattle.cborn_det.specs.Det.{Entry, joined, Det}

-- new is old, followed by something
abbrev pub BeginsWith : List ℕ → List ℕ → Type 0
BeginsWith old new = (x : List ℕ) × (new ≡ old ++ x)

-- on success new is old, followed by a list of which P holds; otherwise it still begins with old
abbrev pub Writes : {A E : Type 0} → Result A E → (List ℕ → Type 0) → List ℕ → List ℕ → Type 0
Writes result P old new = MatchResult result (λ _. Appends P old new) (λ _. BeginsWith old new)

-- new is old, followed by the encodings of the pair's key and value, which have these lengths
abbrev pub AppendsPair : (List ℕ → List ℕ → Ordering) → Value × Value → ℕ × ℕ → List ℕ → List ℕ → Type 0
AppendsPair order p lengths old new =
    (e : Entry) × Det order p.0 e.0 × Det order p.1 e.1 × (lengths.0 ≡ length e.0) × (lengths.1 ≡ length e.1) × (new ≡ (old ++ e.0) ++ e.1)

-- how many bytes an entry's key and value have
abbrev pub lengths_of : Entry → ℕ × ℕ
lengths_of e = (length e.0, length e.1)

-- the bytes are those of the entries one after another, and these the lengths of their keys and values
abbrev pub IsWritten : List Entry → List (ℕ × ℕ) → List ℕ → Type 0
IsWritten es lengths b = (lengths ≡ map lengths_of es) × (b ≡ joined es)

-- entries that lie in a buffer
abbrev pub entries_of : List (Bor (List ℕ) × Bor (List ℕ)) → List Entry
entries_of = map (λ e. (e.0.now, e.1.now))
