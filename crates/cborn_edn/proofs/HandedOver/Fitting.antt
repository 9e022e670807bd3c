-- What is whole after an event fits its heads.
use Rattle.std.specs.Prelude.{◌≡◌, ◌<◌, ◌^◌, ◌∷◌, ◌++◌, if◌then◌else◌}
use Rattle.cborn_edn.proofs.Common.{sym, ℕ, List, [], length, Bool, true, Some, None, arith, AreBytes, Width, StringKind, OfBytes, OfText, WidthFits, holds, least, Tree, trees, entries, Fits, FitsAll, FitsEntries, ChunksFit, Opening, Partial, put, paired, chunks_of, chunks_tree, built, AreStrings, Ends, Event, OpeningFits, FitsSoFar, AreFew, Comes, ByteNode as Bytes, TextNode as Text, least_holds, count-trees, count_entries-entries, EventFits, ap, ◌∙◌, Option, and_parts, ltb-true, is_simple_value, Mark, MeaningError, is_small, argument_of, width, number_errors, tag_errors, simple_errors, first_error, is_none, Notes, IsTrue}
use Rattle.cborn_edn.specs.devices.Events.{after}
use Rattle.cborn_edn.proofs.Meaning.NoError.{no_left, no_right, nil_is, width_fits, tag_small}
use Rattle.std.proofs.lemmas.Bool.Decides.{nat_tests}
use Rattle.cborn_edn.proofs.Meaning.Earliest.{none_first}

pub fits_last : (ts : List Tree) (t : Tree) → FitsAll (trees ts) → Fits t → FitsAll (trees (ts ++ (t ∷ [])))
fits_last [] t h k = (k, tt)
fits_last (u ∷ ts) t h k = (h.0, fits_last ts t h.1 k)

fits_put : (f : Partial) (t : Tree) → FitsSoFar f → Fits t → FitsSoFar (put f t)
fits_put f t h1 h2 = grind (arith, fits_last)

ended_fits : (w : Width) (k : ℕ) → k < 2 ^ 64 → WidthFits (if holds w k then w else least k) k
ended_fits w k h1 = grind arith

paired_fit : (ts : List Tree) → FitsAll (trees ts) → FitsEntries (entries (paired ts))
paired_fit [] h = tt
paired_fit (k ∷ []) h = tt
paired_fit (k ∷ v ∷ ts) h = (h.0, h.1.0, paired_fit ts h.1.1)

chunks_fit : (k : StringKind) (ts : List Tree) → AreStrings k ts → FitsAll (trees ts) → ChunksFit (chunks_of ts)
chunks_fit k [] s h = tt
chunks_fit OfBytes (Bytes p w x ∷ ts) s h = (h.0, chunks_fit OfBytes ts s.1 h.1)
chunks_fit OfText (Text p w x ∷ ts) s h = (h.0, chunks_fit OfText ts s.1 h.1)
chunks_fit OfBytes (_ ∷ ts) s h = absurd s.0
chunks_fit OfText (_ ∷ ts) s h = absurd s.0

chunked_fits : (p : ℕ) (k : StringKind) (ts : List Tree) → AreStrings k ts → FitsAll (trees ts) → Fits (chunks_tree p k (chunks_of ts))
chunked_fits p k ts h1 h2 = grind (arith, chunks_fit)

built_fits : (o : Opening) (ts : List Tree) → Ends o ts → AreFew o ts → OpeningFits o → FitsAll (trees ts) → Fits (built o ts)
built_fits o ts h1 h2 h3 h4 = grind (arith, chunked_fits, count-trees, count_entries-entries, ended_fits, paired_fit)

-- LAW: what is whole after an event fits
pub fits_after : (event : Event) (p : ℕ) (x : List ℕ) (f : Partial) → EventFits event x → AreBytes x → length x < 2 ^ 64 → Comes event f → FitsSoFar f → FitsSoFar (after event p x f)
fits_after event p x f h1 h2 h3 h4 h5 = grind (arith, built_fits, fits_put, least_holds)

-- What fits its width, since it is handed over only without a meaning error.

abbrev first_of : Option MeaningError → List MeaningError
first_of None = []
first_of (Some s) = s ∷ []

is_first : (o : Option MeaningError) → o ≡ first_error (first_of o)
is_first o = grind arith

-- there is none, if the first is none
pub none_shown : (new : Option MeaningError) (l : List MeaningError) → is_none new ≡ true → new ≡ first_error l → l ≡ []
none_shown new l none e = nil_is l (sym (none_first l) ∙ ap is_none (sym e) ∙ none)

module _ (old new : Option MeaningError) (none : is_none new ≡ true) where
  -- no meaning error was noted, before or last
  none_after : (before l : List MeaningError) → old ≡ first_error before → Notes old new l → before ++ l ≡ []
  none_after before l e noted = none_shown new (before ++ l) none (noted before e)

  pub none_new : (l : List MeaningError) → Notes old new l → l ≡ []
  none_new l noted = no_right (first_of old) l (none_after (first_of old) l (is_first old) noted)

  pub number_fits : (p : ℕ) (b : Bool) (n : ℕ) (m : Mark) → is_small b n ≡ true → Notes old new (number_errors p b n m) → WidthFits (width m (argument_of b n)) (argument_of b n)
  number_fits p b n m h1 h2 = grind (arith, ltb-true, none_new, width_fits)

  pub tag_fits : (p : ℕ) (m : Mark) (n : ℕ) → Notes old new (tag_errors p m n) → (n < 2 ^ 64) × WidthFits (width m n) n
  tag_fits p m n noted = let t = tag_small p m n (none_new (tag_errors p m n) noted) in (t.0, width_fits p m n t.0 t.1)

  pub simple_fits : (p q : ℕ) (b : Bool) (n : ℕ) (m : Mark) → Notes old new (simple_errors p q b n m) → IsTrue (is_simple_value n) × (n < 256)
  simple_fits p q b n m h1 = grind (arith, and_parts, nat_tests, no_left, none_new)
