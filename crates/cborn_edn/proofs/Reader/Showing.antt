-- What is shown, moved from one state of the machine to the next.
use Rattle.std.specs.Prelude.{◌≡◌, ◌∷◌, ◌++◌, ◌&&◌}
use Rattle.cborn_edn.proofs.Common.{arith, refl, sym, ap, ◌∙◌, subst, ℕ, List, [], length, Bool, true, Option, append-nil, Mark, StringKind, OfBytes, OfText, is_nil, first_error, Span, Piece, Pieces, piece, also, str_of, str, faults_of_piece, Here, Writer, Joint, Speller, Holds, AllHanded, noted_home, pieces_noted, stack_of, level_of, count_of, brackets_of, brackets_home, arounds_of, arounds_home, bytes_around, bytes_around_home, piece_bytes, pieces_bytes, bytes_before, string_at, joint, Shows, piece_of, Home, State, at_home}
use Rattle.cborn_edn.specs.devices.Kept.{chunks_of}
pub use Rattle.cborn_edn.proofs.Meaning.Earliest.{none_noted as same_errors}

pub moved : (next n : Here) (left l : Writer) (u : State) → next ≡ n → left ≡ l → Shows n l l.pieces.items u → Shows next left left.pieces.items u
moved next n left l u e f h = subst (λ (w : Writer). Shows next w w.pieces.items u) (sym f) (subst (λ (x : Here). Shows x l l.pieces.items u) (sym e) h)

-- what was handed over, where the spellers and the states around are the same
pub same_around : (h : Holds) (ps qs : List Speller) (s : State) (ss ts : List State) → qs ≡ ps → ss ≡ ts → AllHanded h ps (s ∷ ss) → AllHanded h qs (s ∷ ts)
same_around h ps qs s ss ts e f t = subst (λ (l : List Speller). AllHanded h l (s ∷ ts)) (sym e) (subst (λ (l : List State). AllHanded h ps (s ∷ l)) f t)

-- what is shown around a string
pub record AtHome (here : Here) (writer : Writer) (h : Home) : Type 0 where
  pub level : here.level ≡ level_of (stack_of h)
  pub count : here.count ≡ count_of (stack_of h)
  pub brackets : writer.brackets ≡ brackets_of (stack_of h)
  pub around : writer.around ≡ arounds_of (stack_of h)
  pub chunks : writer.chunks ≡ chunks_of h
  pub start : writer.start ≡ length (bytes_around_home h)

pub brackets_same : (h : Home) → brackets_of (stack_of h) ≡ brackets_home h
brackets_same h = grind arith

pub arounds_same : (h : Home) → arounds_of (stack_of h) ≡ arounds_home h
arounds_same h = grind arith

pub bytes_same : (h : Home) → bytes_around (stack_of h) ≡ bytes_around_home h
bytes_same h = grind arith

-- before a piece of a string, which may be the first
pub record Standing (here : Here) (writer : Writer) (h : Home) (o : Option Pieces) (written : List ℕ) : Type 0 where
  pub home : AtHome here writer h
  pub string : writer.string ≡ string_at o
  pub error : writer.error ≡ first_error (noted_home h ++ pieces_noted o)
  pub pieces : written ≡ bytes_around_home h ++ bytes_before o

pub standing : (here : Here) (writer : Writer) (h : Home) (o : Option Pieces) (written : List ℕ) → Shows here writer written (at_home h o) → Standing here writer h o written
standing here writer h o written h1 = grind (arith, append-nil, same_errors)

-- what the string of one piece is
pub piece_str : (k : StringKind) (a : Span) (q : Bool) (x : List ℕ) (m : Mark) → let p = piece_of k a q x m in let t = str_of p in (piece_bytes p ≡ x) × (faults_of_piece p ≡ []) × (t.known ≡ true) × (t.mark ≡ m) × (t.mark_place ≡ a.start) × (k ≡ t.kind) × (a.start ≡ t.place)
piece_str OfBytes a q x m = (refl, refl, refl, refl, refl, refl, refl)
piece_str OfText a q x m = (refl, refl, refl, refl, refl, refl, refl)

-- the first piece, where it is lone if it is an empty quote
pub first_joint : (k : StringKind) (a : Span) (q lone : Bool) (x : List ℕ) (m : Mark) (place : ℕ) → place ≡ a.start → (k ≡ OfText → q ≡ true) → lone ≡ (q && is_nil x)
    → let j : Joint = record { kind = k; place = place; mark = m; mark_place = place; lone = lone; known = true } in j ≡ joint (str_of (piece_of k a q x m))
first_joint OfBytes a q lone x m place p t l = λ i. record { kind = OfBytes; place = p i; mark = m; mark_place = p i; lone = l i; known = true }
first_joint OfText a q lone x m place p t l =
    let quote : lone ≡ (true && is_nil x) = l ∙ ap (λ b. b && is_nil x) (t refl) in
    λ i. record { kind = OfText; place = p i; mark = m; mark_place = p i; lone = quote i; known = true }

-- what a string is, where nothing embedded in it has a meaning error
and_known : (a b : Bool) → (a && b) ≡ true → (a ≡ true) × (b ≡ true)
and_known a b h1 = grind arith

known_piece : (p : Piece) → (str_of p).known ≡ true → piece_bytes p ≡ (str_of p).bytes
known_piece p h1 = grind arith

pub known_bytes : (ps : Pieces) → (str ps).known ≡ true → pieces_bytes ps ≡ (str ps).bytes
known_bytes (piece p) e = known_piece p e
known_bytes (also ps p) e = let k = and_known (str ps).known (str_of p).known e in λ i. known_bytes ps k.0 i ++ known_piece p k.1 i
