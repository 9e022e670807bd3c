-- What is shown while a string is built, and after it.
use Rattle.std.specs.Prelude.{◌≡◌, ◌-◌, ◌∷◌, ◌++◌, ◌&&◌}
use Rattle.cborn_edn.proofs.Common.{refl, sym, ap, ◌∙◌, subst, ℕ, List, length, take, drop, Bool, true, false, Option, Some, None, append-nil, append_assoc, arith, take-append_seam, drop-append_seam, length-append, take_rest, same_Some, Speller, Mark, MeaningError, StringKind, OfText, Str, is_nil, same_kind, string_errors, chunk_errors, piece_errors, first_error, Notes, Span, Piece, Pieces, Strings, strings, StringsBefore, after_strings, string, chunked, str, kind_in, faults_of_pieces, faults_of_strings, Here, Writer, Joint, Chunks, Has, Builds, WantsChunk, noted, strings_noted, noted_stack, noted_home, stack_of, bytes_around, bytes_around_home, bytes_before, piece_bytes, pieces_bytes, joint, kind_before, kind_or, Shows, piece_of, Holds, states_around, AllHanded, Reads, Stack, Home, as_item, as_chunk, has, builds, wants_chunk, with_piece, at_home, State, stack_in, string_in, chunks_in, bytes_open, IsOpenAt, level_of, count_of, brackets_of, arounds_of, phase_of}
use Rattle.cborn_edn.proofs.Reader.Joints.{known_joint}
use Rattle.cborn_edn.proofs.Reader.Showing.{Standing, standing, first_joint, bytes_same, piece_str}

-- the bytes with one more piece, which may be the first
bytes_with : (l : List ℕ) (o : Option Pieces) (p : Piece) → (l ++ bytes_before o) ++ piece_bytes p ≡ l ++ pieces_bytes (with_piece o p)
bytes_with l o p = grind (arith, append-nil, append_assoc)

module _ (here : Here) (w : Writer) (h : Home) (k : StringKind) (place : ℕ) (m : Mark) (q : Bool) (a : Span) (x base : List ℕ) (p : place ≡ a.start) (e : w.pieces.items ≡ base ++ x) where
  abbrev pub the_piece : Piece
  the_piece = piece_of k a q x m

  -- with one more piece, which may be the first
  added : (o : Option Pieces) (j : Joint) (new : Option MeaningError) → Standing here w h o base → j ≡ joint (str (with_piece o the_piece)) → new ≡ first_error (noted_home h ++ faults_of_pieces (with_piece o the_piece)) → Shows (record here { phase = Builds }) (record w { string = Some j; error = new }) w.pieces.items (builds h (with_piece o the_piece))
  added o j new s is notes = record {
    phase = refl;
    level = s.home.level;
    count = s.home.count;
    brackets = s.home.brackets;
    around = s.home.around;
    string = ap Some is;
    chunks = s.home.chunks;
    simple = tt;
    error = notes;
    start = s.home.start ∙ ap length (sym (bytes_same h));
    pieces = e ∙ (λ i. s.pieces i ++ sym (piece_str k a q x m).0 i) ∙ bytes_with (bytes_around_home h) o the_piece;
  }

  pub first_added : (o : Option Pieces) (lone : Bool) → w.string ≡ None → (k ≡ OfText → q ≡ true) → ((y : List ℕ) → length w.pieces.items - w.start ≡ length y → lone ≡ (q && is_nil y)) → Shows here w base (at_home h o)
      → Shows (record here { phase = Builds }) (record w { string = Some (record { kind = k; place = place; mark = m; mark_place = place; lone = lone; known = true }) }) w.pieces.items (builds h (with_piece o the_piece))
  first_added o lone h1 h2 h3 h4 = grind (arith, added, append-nil, first_joint, length-append, piece_str, standing)

  pub next_added : (o : Option Pieces) (j : Joint) (new : Option MeaningError) → w.string ≡ Some j → ((s t : Str) → j ≡ joint s → k ≡ t.kind → place ≡ t.place → Notes w.error new (piece_errors s t)) → Shows here w base (at_home h o)
      → Shows (record here { phase = Builds }) (record w { string = Some (record { kind = j.kind; place = j.place; mark = m; mark_place = place; lone = false; known = j.known }); error = new }) w.pieces.items (builds h (with_piece o the_piece))
  next_added o j new h1 h2 h3 = grind (arith, added, append_assoc, known_joint, piece_str, same_Some, standing)

-- the kind of the chunks
kind_first : (b : StringsBefore) (ps : Pieces) → kind_or (kind_before b) (str ps).kind ≡ kind_in (strings b ps)
kind_first b ps = grind arith

pub same_same : (k : StringKind) → same_kind k k ≡ true
same_same k = grind arith

-- the meaning errors of one more chunk
more_noted : (l : List MeaningError) (b : StringsBefore) (ps : Pieces) (k : StringKind) → k ≡ kind_in (strings b ps) → l ++ strings_noted b ++ faults_of_pieces ps ++ chunk_errors k (str ps) ≡ l ++ faults_of_strings (strings b ps)
more_noted l b ps k h1 = grind (arith, append-nil, append_assoc, same_same)

-- where a string is open
module _ {here : Here} {w : Writer} {h : Home} {ps : Pieces} (e : Shows here w w.pieces.items (builds h ps)) where
  from : w.start ≡ length (bytes_around_home h)
  from = e.start ∙ ap length (bytes_same h)

  pub joint_shown : (j : Joint) → w.string ≡ Some j → j ≡ joint (str ps)
  joint_shown j is = same_Some _ _ (sym is ∙ e.string)

  -- its bytes are those of its pieces
  pub content_shown : (all : List ℕ) → all ≡ w.pieces.items → take (length all - w.start) (drop w.start all) ≡ pieces_bytes ps
  content_shown all same = take_rest all w.start ∙ (λ i. drop (from i) ((same ∙ e.pieces) i)) ∙ drop-append_seam (bytes_around_home h) (pieces_bytes ps)

  -- and the pieces before them stay
  around_shown : take w.start w.pieces.items ≡ bytes_around (stack_of h)
  around_shown = (λ i. take (from i) (e.pieces i)) ∙ take-append_seam (bytes_around_home h) (pieces_bytes ps) ∙ sym (bytes_same h)

pub item_noted : (st : Stack) (ps : Pieces) (j : Joint) (old new : Option MeaningError) → j ≡ joint (str ps) → Notes old new (string_errors j.lone (str ps)) → old ≡ first_error (noted (builds (as_item st) ps)) → new ≡ first_error (noted (has st (string ps)))
item_noted st ps j old new is notes e = subst (λ (y : Joint). Notes old new (string_errors y.lone (str ps))) is notes (noted_stack st ++ faults_of_pieces ps) e ∙ ap first_error (append_assoc (noted_stack st) (faults_of_pieces ps) (string_errors (str ps).lone (str ps)))

-- a string ended, and its pieces were dropped
ended_read : (h : Holds) (here : Here) (w left : Writer) (home : Home) (ps : Pieces) (u : State) (spellers : List Speller) (cs : Option Chunks) (new : Option MeaningError) → left ≡ record w { pieces = left.pieces; spellers = spellers; string = None; chunks = cs; error = new } → left.pieces.items ≡ take w.start w.pieces.items
    → stack_of home ≡ stack_in u → None ≡ string_in u → cs ≡ chunks_in u → bytes_around (stack_of home) ≡ bytes_open u → IsOpenAt left.simple u → new ≡ first_error (noted u) → Shows here w w.pieces.items (builds home ps) → AllHanded h spellers (u ∷ states_around (stack_in u)) → Reads h (record here { phase = phase_of u }) left left.pieces.items u
ended_read h here w left home ps u spellers cs new same kept stack no_joint same_chunks same_bytes simple notes e handed = record {
  shows = record {
    phase = refl;
    level = e.level ∙ ap level_of stack;
    count = e.count ∙ ap count_of stack;
    brackets = ap (λ (x : Writer). x.brackets) same ∙ e.brackets ∙ ap brackets_of stack;
    around = ap (λ (x : Writer). x.around) same ∙ e.around ∙ ap arounds_of stack;
    string = ap (λ (x : Writer). x.string) same ∙ no_joint;
    chunks = ap (λ (x : Writer). x.chunks) same ∙ same_chunks;
    simple = simple;
    error = ap (λ (x : Writer). x.error) same ∙ notes;
    start = ap (λ (x : Writer). x.start) same ∙ e.start ∙ ap (λ x. length (bytes_around x)) stack;
    pieces = kept ∙ around_shown e ∙ same_bytes;
  };
  handed = subst (λ (x : Writer). AllHanded h x.spellers (u ∷ states_around (stack_in u))) (sym same) handed;
}

pub item_read : (h : Holds) (here : Here) (w left : Writer) (st : Stack) (ps : Pieces) (spellers : List Speller) (new : Option MeaningError) → left ≡ record w { pieces = left.pieces; spellers = spellers; string = None; error = new } → left.pieces.items ≡ take w.start w.pieces.items
    → let u = has st (string ps) in new ≡ first_error (noted u) → Shows here w w.pieces.items (builds (as_item st) ps) → AllHanded h spellers (u ∷ states_around st) → Reads h (record here { phase = Has }) left left.pieces.items u
item_read h here w left st ps spellers new same kept notes e handed = ended_read h here w left (as_item st) ps (has st (string ps)) spellers w.chunks new same kept refl refl e.chunks refl tt notes e handed

-- the chunks before it, and their kind with it
pub chunks_open : {here : Here} {w : Writer} (st : Stack) (s : Span) (b : StringsBefore) (ps : Pieces) → Shows here w w.pieces.items (builds (as_chunk st s b) ps) → (cs : Chunks) → w.chunks ≡ Some cs → cs ≡ record { place = s.start; kind = kind_before b }
chunks_open st s b ps e cs is = same_Some _ _ (sym is ∙ e.chunks)

pub kind_shown : (p : ℕ) (b : StringsBefore) (ps : Pieces) (cs : Chunks) (j : Joint) (k : StringKind) → cs ≡ record { place = p; kind = kind_before b } → j ≡ joint (str ps) → k ≡ kind_or cs.kind j.kind → k ≡ kind_in (strings b ps)
kind_shown p b ps cs j k are is e = e ∙ (λ i. kind_or (are i).kind (is i).kind) ∙ kind_first b ps

pub chunk_noted : (st : Stack) (s a : Span) (b : StringsBefore) (ps : Pieces) (k : StringKind) (old new : Option MeaningError) → k ≡ kind_in (strings b ps) → Notes old new (chunk_errors k (str ps)) → old ≡ first_error (noted (builds (as_chunk st s b) ps)) → new ≡ first_error (noted (wants_chunk st s (after_strings (strings b ps) a)))
chunk_noted st s a b ps k old new kind notes e = notes (noted_stack st ++ strings_noted b ++ faults_of_pieces ps) e ∙ ap first_error (more_noted (noted_stack st) b ps k kind)

pub chunk_read : (h : Holds) (here : Here) (w left : Writer) (st : Stack) (s a : Span) (b : StringsBefore) (ps : Pieces) (spellers : List Speller) (place : ℕ) (k : StringKind) (new : Option MeaningError) → left ≡ record w { pieces = left.pieces; spellers = spellers; string = None; chunks = Some (record { place = place; kind = Some k }); error = new } → left.pieces.items ≡ take w.start w.pieces.items
    → let u = wants_chunk st s (after_strings (strings b ps) a) in place ≡ s.start → k ≡ kind_in (strings b ps) → new ≡ first_error (noted u) → Shows here w w.pieces.items (builds (as_chunk st s b) ps) → AllHanded h spellers (u ∷ states_around st) → Reads h (record here { phase = WantsChunk }) left left.pieces.items u
chunk_read h here w left st s a b ps spellers place k new same kept at kind notes e handed =
    ended_read h here w left (as_chunk st s b) ps (wants_chunk st s (after_strings (strings b ps) a)) spellers (Some (record { place = place; kind = Some k })) new same kept refl refl (λ i. Some (record { place = at i; kind = Some (kind i) })) refl tt notes e handed

pub chunks_shown : (here : Here) (w : Writer) (st : Stack) (s a e : Span) (ss : Strings) (spellers : List Speller) → Shows here w w.pieces.items (wants_chunk st s (after_strings ss a)) → Shows (record here { phase = Has }) (record w { spellers = spellers; chunks = None }) w.pieces.items (has st (chunked s ss e))
chunks_shown here w st s a e ss spellers shows = record { phase = refl; level = shows.level; count = shows.count; brackets = shows.brackets; around = shows.around; string = shows.string; chunks = refl; simple = tt; error = shows.error; start = shows.start; pieces = shows.pieces }
