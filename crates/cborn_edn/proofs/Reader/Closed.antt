-- What is shown after a bracket that opens, and after one that ends.
use Rattle.std.specs.Prelude.{◌≡◌, ◌∷◌, ◌++◌, if◌then◌else◌}
use Rattle.cborn_edn.proofs.Common.{arith, refl, sym, ap, ◌∙◌, subst, ℕ, List, [], length, Bool, true, false, Option, Some, None, append-nil, append_assoc, Tree, trees, spelled_all, top, no_part, OfBytes, IsWritten, Speller, Mark, Absent, MeaningError, is_nil, Str, joined, piece_errors, size_errors, first_error, earlier, is_none, Notes, listed_trees, trees-listed, Span, Item, embedded, Pieces, Content, Fields, no_item, str, str_of, nodes_in, faults, faults_in, faults_of_pieces, noted_stack, noted_home, stack_of, stack_in, bracket, brackets_of, brackets_home, around, arounds_of, arounds_home, bytes_around, bytes_around_home, bytes_before, piece_bytes, pieces_bytes, joint, Shows, content_state, fields_state, entries_at, states_around, states_around_nest, Handed, IsSpelled, Here, Writer, OpenBracket, Around, Joint, Has, Builds, Wants, Stack, in_row, Nest, in_embed, Home, State, wants, has, builds, with_piece, at_home, Embedded}
use Rattle.cborn_edn.proofs.Meaning.NoError.{nil_is}
use Rattle.cborn_edn.proofs.Meaning.Earliest.{earlier_noted, none_first}
use Rattle.cborn_edn.proofs.Reader.Showing.{brackets_same, arounds_same, bytes_same, standing}
use Rattle.cborn_edn.proofs.Reader.Rows.{AtEnd, InContent, in_content}
use Rattle.cborn_edn.proofs.HandedOver.Silent.{listed_snoc}

-- the innermost bracket is taken off
abbrev pub Shut : Here → Writer → Here → Writer → OpenBracket → Type 0
Shut here w next mid f = (g : OpenBracket) (gs : List OpenBracket) → w.brackets ≡ g ∷ gs → (f ≡ g) × (mid ≡ record w { brackets = gs }) × (next ≡ record here { count = g.count; phase = Has; level = g.level })

-- the states around what ends
pub content_states : (n : Nest) (c : Content) → states_around (stack_in (content_state n c)) ≡ states_around_nest n
content_states n c = grind arith

pub fields_states : (st : Stack) (s : Span) (m : Mark) (c : Fields) → states_around (stack_in (fields_state st s m c)) ≡ states_around st
fields_states st s m c = grind arith

-- a bracket ends, and the item i is whole
pub closed : (here next : Here) (w mid : Writer) (new : Option MeaningError) (ps : List Speller) (f : OpenBracket) (st : Stack) (p k : ℕ) (m : Mark) (es : List MeaningError) (i : Item) → AtEnd here w w.pieces.items k (bracket st p m ∷ brackets_of st) (arounds_of st) es (bytes_around st) → Shut here w next mid f
    → new ≡ first_error (noted_stack st ++ faults i) → Shows next (record mid { error = new; spellers = ps }) mid.pieces.items (has st i)
closed here next w mid new ps f st p k m es i h1 h2 h3 = grind arith

-- an array or a map ends, and what is wrong with its indicator is noted
pub closed_sized : (here next : Here) (w mid : Writer) (new : Option MeaningError) (ps : List Speller) (f : OpenBracket) (n : ℕ) (st : Stack) (p k : ℕ) (m : Mark) (es : List MeaningError) (i : Item) → AtEnd here w w.pieces.items k (bracket st p m ∷ brackets_of st) (arounds_of st) (noted_stack st ++ es) (bytes_around st)
    → Shut here w next mid f → n ≡ entries_at here.phase here.count → Notes mid.error new (size_errors f.place f.mark n) → faults i ≡ es ++ size_errors p m k → Shows next (record mid { error = new; spellers = ps }) mid.pieces.items (has st i)
closed_sized here next w mid new ps f n st p k m es i h1 h2 h3 h4 h5 = grind (arith, append_assoc, closed)

-- a `<<` opens
pub embed_kept : (here next : Here) (w left : Writer) (ps : List Speller) (h : Home) (o : Option Pieces) (a : Span) (place from : ℕ) (all : List Around) → place ≡ a.start → from ≡ length w.pieces.items → all ≡ record { start = w.start; string = w.string; chunks = w.chunks; error = w.error } ∷ w.around
    → next ≡ record here { count = 0; phase = Wants; level = Embedded } → left ≡ record w { start = from; brackets = record { place = place; count = here.count; level = here.level; mark = Absent } ∷ w.brackets; around = all; spellers = ps; string = None; chunks = None; error = None }
    → Shows here w w.pieces.items (at_home h o) → Shows next left left.pieces.items (wants (in_row (in_embed h o a) no_item))
embed_kept here next w left ps h o a place from all p n k f l e =
    let q = standing here w h o w.pieces.items e in
    record {
      phase = ap (λ (y : Here). y.phase) f;
      level = ap (λ (y : Here). y.level) f;
      count = ap (λ (y : Here). y.count) f;
      brackets = ap (λ (y : Writer). y.brackets) l ∙ (λ i. record { place = p i; count = q.home.count i; level = q.home.level i; mark = Absent } ∷ (q.home.brackets ∙ brackets_same h) i);
      around = ap (λ (y : Writer). y.around) l ∙ k ∙ (λ i. record { start = q.home.start i; string = q.string i; chunks = q.home.chunks i; error = q.error i } ∷ (q.home.around ∙ arounds_same h) i);
      string = ap (λ (y : Writer). y.string) l;
      chunks = ap (λ (y : Writer). y.chunks) l;
      simple = tt;
      error = ap (λ (y : Writer). y.error) l;
      start = ap (λ (y : Writer). y.start) l ∙ n ∙ ap length q.pieces;
      pieces = ap (λ (y : Writer). y.pieces.items) l ∙ q.pieces;
    }

-- what a speller wrote of a `<<` without a meaning error
pub content_spelled : (p : Speller) (h : Home) (o : Option Pieces) (s : Span) (c : Content) → Handed (IsWritten p) (content_state (in_embed h o s) c) → faults_in c ≡ [] → IsWritten p (top (listed_trees (nodes_in c))) no_part
content_spelled p h o s c h1 h2 = grind (arith, listed_snoc)

-- it has none, if none was noted in it
pub content_known : (here next : Here) (w mid : Writer) (f : OpenBracket) (h : Home) (o : Option Pieces) (s : Span) (c : Content) → Shut here w next mid f → Shows here w w.pieces.items (content_state (in_embed h o s) c) → is_none mid.error ≡ true → faults_in c ≡ []
content_known here next w mid f h o s c h1 h2 h3 = grind (arith, in_content, nil_is, none_first)

pub spelled_innermost : (all : List Speller) (p : Speller) (ps : List Speller) (s : State) → all ≡ p ∷ ps → IsSpelled all s → Handed (IsWritten p) s
spelled_innermost all p ps s e t = subst (λ (l : List Speller). IsSpelled l s) e t

one_head : {A : Type 0} (x y : A) (xs ys : List A) → x ∷ xs ≡ y ∷ ys → (x ≡ y) × (xs ≡ ys)
one_head x y xs ys e = (cc, cc)

-- a bracket that was taken off, put back
pub reopened : (here : Here) (w : Writer) (f : OpenBracket) → Shut here (record w { brackets = f ∷ w.brackets }) (record here { count = f.count; phase = Has; level = f.level }) w f
reopened here w f = λ g gs e. let d = one_head f g w.brackets gs e in (d.0, λ i. record w { brackets = d.1 i }, λ i. record here { count = (d.0 i).count; phase = Has; level = (d.0 i).level })

-- what a string with one more piece is, which is embedded
pub record Rejoined (before : Option Joint) (opened : ℕ) (known : Bool) (m : Mark) (place : ℕ) (old new : Option MeaningError) (j : Joint) : Type 0 where
  pub alone : (t : Str) → before ≡ None → t.kind ≡ OfBytes → t.place ≡ opened → t.lone ≡ false → t.known ≡ known → t.mark ≡ m → t.mark_place ≡ place → (j ≡ joint t) × (new ≡ old)
  pub more : (s t : Str) → before ≡ Some (joint s) → t.kind ≡ OfBytes → t.place ≡ opened → t.known ≡ known → t.mark ≡ m → t.mark_place ≡ place → (j ≡ joint (joined s t)) × Notes old new (piece_errors s t)

pub record Embeds (here next : Here) (w mid left : Writer) (f : OpenBracket) (x : Around) (j : Joint) (p : Speller) (sure : Bool) (m : Mark) (place : ℕ) : Type 0 where
  pub shut : Shut here w next mid f
  pub known : sure ≡ is_none mid.error
  pub popped : mid.around ≡ x ∷ left.around
  pub joint : Rejoined x.string f.place sure m place (earlier x.error mid.error) left.error j
  pub brackets : left.brackets ≡ mid.brackets
  pub chunks : left.chunks ≡ x.chunks
  pub start : left.start ≡ x.start
  pub string : left.string ≡ Some j
  pub pieces : (ts : List Tree) → (sure ≡ true → IsWritten p (top ts) no_part) → left.pieces.items ≡ mid.pieces.items ++ (if sure then spelled_all (trees ts) else [])

module _ (here next last : Here) (w mid left : Writer) (f : OpenBracket) (x : Around) (j : Joint) (p : Speller) (sure : Bool) (m : Mark) (place : ℕ) (k : Embeds here next w mid left f x j p sure m place) (same : last ≡ record next { phase = Builds }) (h : Home) (s a : Span) (c : Content) (from : place ≡ a.start) where
  -- what is kept after the bracket and what was kept around it were taken off
  record Left (o : Option Pieces) : Type 0 where
    opened : f ≡ bracket (stack_of h) s.start Absent
    stood : x ≡ around h o
    outer : left.around ≡ arounds_home h
    inner : mid.error ≡ first_error (faults_in c)
    back : next ≡ record here { count = (bracket (stack_of h) s.start Absent).count; phase = Has; level = (bracket (stack_of h) s.start Absent).level }
    brackets : left.brackets ≡ brackets_of (stack_of h)
    sure_is : is_nil (faults_in c) ≡ sure
    pieces : left.pieces.items ≡ (bytes_around_home h ++ bytes_before o) ++ piece_bytes (embedded s c a m)

  what_left : (o : Option Pieces) → Handed (IsWritten p) (content_state (in_embed h o s) c) → InContent here w w.pieces.items (in_embed h o s) c → Left o
  what_left o t q =
      let d = k.shut (bracket (stack_of h) s.start Absent) (brackets_home h) q.brackets in
      let u = one_head x (around h o) left.around (arounds_home h) (sym k.popped ∙ ap (λ (y : Writer). y.around) d.1 ∙ q.around) in
      let error : mid.error ≡ first_error (faults_in c) = ap (λ (y : Writer). y.error) d.1 ∙ q.error in
      let known : is_nil (faults_in c) ≡ sure = sym (none_first (faults_in c)) ∙ ap is_none (sym error) ∙ sym k.known in
      let nodes = nodes_in c in
      record {
        opened = d.0;
        stood = u.0;
        outer = u.1;
        inner = error;
        back = d.2;
        brackets = k.brackets ∙ ap (λ (y : Writer). y.brackets) d.1 ∙ sym (brackets_same h);
        sure_is = known;
        pieces = k.pieces (listed_trees nodes) (λ e. content_spelled p h o s c t (nil_is (faults_in c) (known ∙ e)))
            ∙ (λ i. (ap (λ (y : Writer). y.pieces.items) d.1 ∙ q.pieces) i ++ (if sym known i then spelled_all (trees-listed nodes i) else []));
      }

  -- the parts that are the same with and without pieces before
  shown : (ps : Pieces) (o : Option Pieces) → Left o → j ≡ joint (str ps) → left.error ≡ first_error (noted_home h ++ faults_of_pieces ps) → left.pieces.items ≡ bytes_around_home h ++ pieces_bytes ps → Shows last left left.pieces.items (builds h ps)
  shown ps o l e n q = record {
    phase = ap (λ (y : Here). y.phase) same;
    level = ap (λ (y : Here). y.level) same ∙ ap (λ (y : Here). y.level) l.back;
    count = ap (λ (y : Here). y.count) same ∙ ap (λ (y : Here). y.count) l.back;
    brackets = l.brackets;
    around = l.outer ∙ sym (arounds_same h);
    string = k.string ∙ ap Some e;
    chunks = k.chunks ∙ ap (λ (y : Around). y.chunks) l.stood;
    simple = tt;
    error = n;
    start = k.start ∙ ap (λ (y : Around). y.start) l.stood ∙ ap length (sym (bytes_same h));
    pieces = q;
  }

  closed_first : Handed (IsWritten p) (content_state (in_embed h None s) c) → Shows here w w.pieces.items (content_state (in_embed h None s) c) → Shows last left left.pieces.items (builds h (with_piece None (embedded s c a m)))
  closed_first z e =
      let l = what_left None z (in_content here w w.pieces.items (in_embed h None s) c e) in
      let t = str_of (embedded s c a m) in
      let d = k.joint.alone t (ap (λ (y : Around). y.string) l.stood) refl (sym (ap (λ (y : OpenBracket). y.place) l.opened)) refl l.sure_is refl (sym from) in
      let noted : Notes x.error left.error (faults_in c) = earlier_noted x.error left.error mid.error (faults_in c) l.inner d.1 in
      shown (with_piece None (embedded s c a m)) None l d.0
      (noted (noted_home h ++ []) (ap (λ (y : Around). y.error) l.stood) ∙ ap (λ y. first_error (y ++ faults_in c)) (append-nil (noted_home h)))
      (l.pieces ∙ ap (λ y. y ++ piece_bytes (embedded s c a m)) (append-nil (bytes_around_home h)))

  closed_more : (ps : Pieces) → Handed (IsWritten p) (content_state (in_embed h (Some ps) s) c) → Shows here w w.pieces.items (content_state (in_embed h (Some ps) s) c) → Shows last left left.pieces.items (builds h (with_piece (Some ps) (embedded s c a m)))
  closed_more ps z e =
      let l = what_left (Some ps) z (in_content here w w.pieces.items (in_embed h (Some ps) s) c e) in
      let t = str_of (embedded s c a m) in
      let d = k.joint.more (str ps) t (ap (λ (y : Around). y.string) l.stood) refl (sym (ap (λ (y : OpenBracket). y.place) l.opened)) l.sure_is refl (sym from) in
      let noted : Notes x.error (earlier x.error mid.error) (faults_in c) = earlier_noted x.error (earlier x.error mid.error) mid.error (faults_in c) l.inner refl in
      shown (with_piece (Some ps) (embedded s c a m)) (Some ps) l d.0
      (d.1 (noted_home h ++ faults_of_pieces ps ++ faults_in c) (noted (noted_home h ++ faults_of_pieces ps) (ap (λ (y : Around). y.error) l.stood))
      ∙ ap first_error (append_assoc (noted_home h ++ faults_of_pieces ps) (faults_in c) (piece_errors (str ps) t) ∙ append_assoc (noted_home h) (faults_of_pieces ps) (faults_in c ++ piece_errors (str ps) t)))
      (l.pieces ∙ append_assoc (bytes_around_home h) (pieces_bytes ps) (piece_bytes (embedded s c a m)))

  pub closed_embed : (o : Option Pieces) → Handed (IsWritten p) (content_state (in_embed h o s) c) → Shows here w w.pieces.items (content_state (in_embed h o s) c) → Shows last left left.pieces.items (builds h (with_piece o (embedded s c a m)))
  closed_embed o h1 h2 = grind (arith, closed_first, closed_more)
