-- What is shown before the bracket that ends a row or a map.
use Rattle.std.specs.Prelude.{◌≡◌, ◌+◌, ◌<◌, ◌^◌, ◌∷◌, ◌++◌}
use Rattle.cborn_edn.specs.declared.states.Level.TheVariants.{Value}
use Rattle.cborn_edn.proofs.Common.{Wants, refl, ap, ◌∙◌, ℕ, suc, List, length, None, append_assoc, arith, Tree, Trees, more, Entries, no_entry, entry, count, count_entries, Mark, first_error, snoc, snoc_entry, nodes_in, entries_in, faults_in, faults_of_fields, Span, Item, row, RowBefore, after_row, Content, pairs, PairsBefore, after_pairs, Fields, MeaningError, Around, Here, OpenBracket, Writer, Phase, WantsMore, noted_stack, noted_nest, level_of, bracket, brackets_of, brackets_nest, arounds_of, arounds_nest, bytes_around, bytes_around_nest, Shows, content_state, fields_state, entries_at, no_node, Stack, in_row, in_key, in_value, Nest, has, wants, State, stack_in, string_in, chunks_in, bytes_open, phase_of, count_of, wanting, noted, Key}

pub count-snoc : (ts : Trees) (t : Tree) → count (snoc ts t) ≡ suc (count ts)
count-snoc no_node t = refl
count-snoc (more u ts) t = ap suc (count-snoc ts t)

pub count-snoc_entry : (es : Entries) (k v : Tree) → count_entries (snoc_entry es k v) ≡ suc (count_entries es)
count-snoc_entry no_entry k v = refl
count-snoc_entry (entry l w es) k v = ap suc (count-snoc_entry es k v)

pub row_level : (n : Nest) (b d : RowBefore) → level_of (in_row n b) ≡ level_of (in_row n d)
row_level n b d = grind arith

pub entries_few : (p : Phase) (n : ℕ) → n < 2 ^ 63 → entries_at p n < 2 ^ 64
entries_few p n h1 = grind arith

-- what is shown where a row or a map of k items or pairs ends
pub record AtEnd (here : Here) (writer : Writer) (written : List ℕ) (k : ℕ) (brackets_then : List OpenBracket) (around_then : List Around) (es : List MeaningError) (x : List ℕ) : Type 0 where
  pub count : entries_at here.phase here.count ≡ k
  pub brackets : writer.brackets ≡ brackets_then
  pub around : writer.around ≡ around_then
  pub string : writer.string ≡ None
  pub chunks : writer.chunks ≡ None
  pub error : writer.error ≡ first_error es
  pub start : writer.start ≡ length x
  pub pieces : written ≡ x

at_end : {here : Here} {writer : Writer} {written : List ℕ} {k : ℕ} {es : List MeaningError} (s : State) → Shows here writer written s → string_in s ≡ None → chunks_in s ≡ None → entries_at (phase_of s) (count_of (stack_in s)) ≡ k → noted s ≡ es → bytes_open s ≡ bytes_around (stack_in s)
    → AtEnd here writer written k (brackets_of (stack_in s)) (arounds_of (stack_in s)) es (bytes_around (stack_in s))
at_end s e no_joint no_chunks size same bytes = record {
  count = (λ i. entries_at (e.phase i) (e.count i)) ∙ size;
  brackets = e.brackets;
  around = e.around;
  string = e.string ∙ no_joint;
  chunks = e.chunks ∙ no_chunks;
  error = e.error ∙ ap first_error same;
  start = e.start;
  pieces = e.pieces ∙ bytes;
}

abbrev pub InContent : Here → Writer → List ℕ → Nest → Content → Type 0
InContent here writer written n c = AtEnd here writer written (count (nodes_in c)) (brackets_nest n) (arounds_nest n) (noted_nest n ++ faults_in c) (bytes_around_nest n)

abbrev pub InFields : Here → Writer → List ℕ → Stack → Span → Mark → Fields → Type 0
InFields here writer written st s m f = AtEnd here writer written (count_entries (entries_in f)) (bracket st s.start m ∷ brackets_of st) (arounds_of st) (noted_stack st ++ faults_of_fields f) (bytes_around st)

pub in_content : (here : Here) (writer : Writer) (written : List ℕ) (n : Nest) (c : Content) → Shows here writer written (content_state n c) → InContent here writer written n c
in_content here writer written n c h1 = grind (arith, append_assoc, count-snoc)

pub in_fields : (here : Here) (writer : Writer) (written : List ℕ) (st : Stack) (s : Span) (m : Mark) (f : Fields) → Shows here writer written (fields_state st s m f) → InFields here writer written st s m f
in_fields here writer written st s m f h1 = grind (arith, append_assoc, count-snoc_entry)

-- a comma was taken
kept_comma : {here next : Here} {w : Writer} {written : List ℕ} (st to : Stack) (i : Item) → next.phase ≡ wanting to → next.level ≡ level_of to → next.count ≡ count_of to → brackets_of st ≡ brackets_of to → arounds_of st ≡ arounds_of to → bytes_around st ≡ bytes_around to → noted (has st i) ≡ noted (wants to) → Shows here w written (has st i) → Shows next w written (wants to)
kept_comma st to i phase level size brackets around bytes same e = record {
  phase = phase;
  level = level;
  count = size;
  brackets = e.brackets ∙ brackets;
  around = e.around ∙ around;
  string = e.string;
  chunks = e.chunks;
  simple = tt;
  error = e.error ∙ ap first_error same;
  start = e.start ∙ ap length bytes;
  pieces = e.pieces ∙ bytes;
}

pub comma_shown : (here next : Here) (w : Writer) (written : List ℕ) (n : Nest) (b : RowBefore) (i : Item) (a : Span) → next.phase ≡ WantsMore → next.level ≡ here.level → next.count ≡ here.count + 1 → Shows here w written (has (in_row n b) i) → Shows next w written (wants (in_row n (after_row (row b i) a)))
comma_shown here next w written n b i a h1 h2 h3 h4 = grind (arith, append_assoc, count-snoc, kept_comma, row_level)

pub pair_comma_shown : (here next : Here) (w : Writer) (written : List ℕ) (st : Stack) (s c a : Span) (m : Mark) (b : PairsBefore) (k v : Item) → next.phase ≡ WantsMore → next.level ≡ Key → next.count ≡ here.count + 1 → Shows here w written (has (in_value st s m b k c) v) → Shows next w written (wants (in_key st s m (after_pairs (pairs b k c v) a)))
pair_comma_shown here next w written st s c a m b k v h1 h2 h3 h4 = grind (arith, append_assoc, count-snoc_entry, kept_comma)

pub colon_shown : (here next : Here) (w : Writer) (written : List ℕ) (st : Stack) (s c : Span) (m : Mark) (b : PairsBefore) (k : Item) → next.phase ≡ Wants → next.level ≡ Value → next.count ≡ here.count → Shows here w written (has (in_key st s m b) k) → Shows next w written (wants (in_value st s m b k c))
colon_shown here next w written st s c m b k p l q e = kept_comma (in_key st s m b) (in_value st s m b k c) k p l (q ∙ e.count) refl refl refl refl e
