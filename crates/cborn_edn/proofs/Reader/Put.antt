-- What is shown after a number, a word or the number of a simple value.
use Rattle.std.specs.Prelude.{◌≡◌, ◌∷◌, ◌++◌}
use Rattle.cborn_edn.proofs.Common.{arith, refl, ap, ◌∙◌, ℕ, List, length, Bool, Option, Speller, Mark, simple_errors, MeaningError, first_error, Notes, Span, Here, Writer, noted, noted_stack, phase_of, stack_in, level_of, count_of, brackets_of, arounds_of, bytes_around, string_in, chunks_in, bytes_open, Shows, IsOpenAt, Wants, wanting, Holds, states_around, AllHanded, Reads, Stack, State, wants, Level}

-- a leaf was taken, which changes neither what is open nor the pieces
pub leaf_shown : {here : Here} {w left : Writer} {written more : List ℕ} (s u : State) (new : Option MeaningError) → left ≡ record w { pieces = left.pieces; spellers = left.spellers; error = new } → more ≡ written → stack_in s ≡ stack_in u → string_in s ≡ string_in u → chunks_in s ≡ chunks_in u → bytes_open s ≡ bytes_open u
    → IsOpenAt left.simple u → new ≡ first_error (noted u) → Shows here w written s → Shows (record here { phase = phase_of u }) left more u
leaf_shown s u new same kept stack string chunks bytes simple noted e = record {
  phase = refl;
  level = e.level ∙ ap level_of stack;
  count = e.count ∙ ap count_of stack;
  brackets = ap (λ (x : Writer). x.brackets) same ∙ e.brackets ∙ ap brackets_of stack;
  around = ap (λ (x : Writer). x.around) same ∙ e.around ∙ ap arounds_of stack;
  string = ap (λ (x : Writer). x.string) same ∙ e.string ∙ string;
  chunks = ap (λ (x : Writer). x.chunks) same ∙ e.chunks ∙ chunks;
  simple = simple;
  error = ap (λ (x : Writer). x.error) same ∙ noted;
  start = ap (λ (x : Writer). x.start) same ∙ e.start ∙ ap (λ x. length (bytes_around x)) stack;
  pieces = kept ∙ e.pieces ∙ bytes;
}

-- a bracket was opened, in which an item is wanted
pub opened_read : {h k : Holds} {here : Here} {w : Writer} (st inner : Stack) (level : Level) (place : ℕ) (m : Mark) (new : Option MeaningError) (spellers : List Speller) → wanting inner ≡ Wants → level_of inner ≡ level → count_of inner ≡ 0 → brackets_of inner ≡ record { place = place; count = count_of st; level = level_of st; mark = m } ∷ brackets_of st → arounds_of inner ≡ arounds_of st → bytes_around inner ≡ bytes_around st
    → new ≡ first_error (noted_stack inner) → (next : Here) (left : Writer) → next ≡ record { at = here.at; count = 0; phase = Wants; level = level } → left ≡ record w { brackets = record { place = place; count = here.count; level = here.level; mark = m } ∷ w.brackets; error = new; spellers = spellers }
    → AllHanded k spellers (wants inner ∷ states_around inner) → Reads h here w w.pieces.items (wants st) → Reads k next left left.pieces.items (wants inner)
opened_read st inner level place m new spellers h1 h2 h3 h4 h5 h6 h7 next left h8 h9 h10 h11 = grind arith

-- the meaning errors of a simple value
pub simple_noted : (old new : Option MeaningError) (st : Stack) (s a : Span) (opened place : ℕ) (n : Bool) (x : ℕ) (m : Mark) → opened ≡ s.start → place ≡ a.start → old ≡ first_error (noted_stack st) → Notes old new (simple_errors opened place n x m) → new ≡ first_error (noted_stack st ++ simple_errors s.start a.start n x m)
simple_noted old new st s a opened place n x m o p e noted = noted (noted_stack st) e ∙ (λ i. first_error (noted_stack st ++ simple_errors (o i) (p i) n x m))
