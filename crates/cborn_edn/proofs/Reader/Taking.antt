-- Frequent tokens, taken without the lexer: the reader goes on as the machine of tokens does.
use Rattle.std.specs.Prelude.{◌≡◌, ◌^◌, ◌<◌, ◌≤◌, ◌∷◌, ◌⊎◌}
use Rattle.cborn_edn.proofs.Common.{has_number, sized_end, separator_of, opening, after_opening, phase_of, refl, sym, ap, ◌∙◌, subst, ℕ, List, [], length, Bool, true, false, Some, arith, inl, inr, AreBytes, IsUtf8, TokensBetween, class_of, Kind, Class, Number, Text, Mark, Absent, Profile, Token, reach, Span, Item, Pieces, piece, string, StringsBefore, IsTokenAt, IsTextAt, NoPieceAt, Here, Writer, IsModest, AreModest, Holds, Reads, MayEnd, Taken, is_some, IsReadTo, Reached, text as piece_text, Stack, Home, as_item, as_chunk, State, wants, has, builds, wants_number, step_by, open_levels, comma_at, comma_in, forbids, few, between_modest, utf8_bytes}
use Rattle.cborn_lex.proofs.WholeTexts.Progress.{inside}
use Rattle.cborn_lex.specs.declared.classes.Kind.TheVariants as kinds
use Rattle.cborn_edn.specs.declared.states.Phase.TheVariants as phases
use Rattle.cborn_edn.proofs.Reader.Counts.{shown_few, brackets_levels}
use Rattle.cborn_edn.proofs.Reader.Going.{goes_on, skips, free_none, tight_free}
use Rattle.cborn_edn.proofs.Reader.Settling.{settled}
use Rattle.cborn_edn.proofs.Reader.Stepping.{read_at}
use Rattle.cborn_edn.proofs.Reader.Turning.{is_has, is_wants, is_builds, is_wants_number, is_has_number, item_home, chunk_home}

-- a token between two offsets of a text
abbrev token_at : ℕ → ℕ → Class → Token
token_at at stop c = record { start = at; stop = stop; class = c }

abbrev span_at : ℕ → ℕ → Span
span_at at stop = record { start = at; stop = stop }

-- LAW: an integer of 64 bits needs no level of its own
pub number_low : (l limit : ℕ) (n : Bool) (v : ℕ) (m : Mark) → v < 2 ^ 64 → l ≤ limit → reach l (Number n v m) ≤ limit
number_low l limit n v m h1 h2 = grind arith

-- the bracket that ends an array or a map has no content, and no level of its own
pub sized_kind : (m : Bool) → (k : Kind) × (sized_end m ≡ class_of k 0 [])
sized_kind true = (kinds.MapClose, refl)
sized_kind false = (kinds.ArrayClose, refl)

pub sized_low : (m : Bool) (l limit : ℕ) → reach l (sized_end m) ≤ limit
sized_low m l limit = grind arith

pub separator_low : (m : Bool) (l limit : ℕ) → reach l (separator_of m) ≤ limit
separator_low m l limit = grind arith

-- a bracket that opens
pub opened_by : (m : Bool) (st : Stack) (a : Span) (k : Mark) → step_by (wants st) (opening m k) a ≡ Some (wants (after_opening m st a k))
opened_by m st a k = grind arith

pub opened_free : (m : Bool) (st : Stack) (k : Mark) → comma_in st (opening m k) ≡ 0
opened_free m st k = grind arith

pub opened_low : (m : Bool) (k : Mark) (l limit : ℕ) → l < limit → reach l (opening m k) ≤ limit
opened_low m k l limit h1 = grind arith

pub opened_wants : (m : Bool) (st : Stack) (a : Span) (k : Mark) → phase_of (wants (after_opening m st a k)) ≡ phases.Wants
opened_wants m st a k = grind arith

-- LAW: a token isn't empty
pub beyond : (p : Profile) (text : List ℕ) (at stop : ℕ) (c : Class) → IsTokenAt p text at stop c → at < stop
beyond p text at stop c h = omega (arith, few p text at stop (token_at at stop c ∷ []) h)

-- on, and something was taken
pub went : {A : Type 0} {m n : ℕ} {ok : Bool} → A × (m < n) → A × (m ≤ n) × (ok ≡ true → m < n)
went (a, further) = (a, omega (arith, further), λ e. further)

-- what is known of a token
pub modest_at : (p : Profile) (text : List ℕ) (at stop : ℕ) (c : Class) → AreBytes text → IsTokenAt p text at stop c → IsModest c
modest_at p text at stop c are tok = (between_modest p text at stop (token_at at stop c ∷ []) are tok).0

module _ {h : Holds} {p : Profile} {limit : ℕ} {text : List ℕ} {here : Here} {w : Writer} (r : IsReadTo h p limit text here w) where
  -- LAW: on with white space and comments
  pub skipped : (stop : ℕ) → TokensBetween p text here.at stop [] → IsReadTo h p limit text (record here { at = stop }) w × (here.at ≤ stop)
  skipped stop h1 = grind (arith, inside, read_at, skips)

  pub skipped_to : (next : Here) → next ≡ record here { at = next.at } → TokensBetween p text here.at next.at [] → IsReadTo h p limit text next w × (here.at ≤ next.at)
  skipped_to next e white = let s = skipped next.at white in (subst (λ (x : Here). IsReadTo h p limit text x w) (sym e) s.0, s.1)

  -- the state that is shown, by an equal one
  pub shown_as : (s : State) → s ≡ r.state → Reads h here w w.pieces.items s
  shown_as s e = subst (λ (v : State). Reads h here w w.pieces.items v) (sym e) r.shows

  pub wanted : (here.phase ≡ phases.Wants) ⊎ (here.phase ≡ phases.WantsMore) → (st : Stack) × (wants st ≡ r.state)
  wanted (inl q) = is_wants r.state (inl (sym r.shows.shows.phase ∙ q))
  wanted (inr q) = is_wants r.state (inr (sym r.shows.shows.phase ∙ q))

  pub may_end : (here.phase ≡ phases.Has) ⊎ (here.phase ≡ phases.Wants) → MayEnd r.state
  may_end h1 = grind arith

  pub few_here : here.count < 2 ^ 63
  few_here = omega (arith, r.small, r.inside, shown_few p limit text here w w.pieces.items r.state r.reached r.shows.shows)

  token_found : {x : List ℕ} → x ≡ text → (c : Class) (stop : ℕ) → ((q : Profile) → IsTokenAt q x here.at stop c) → IsTokenAt p text here.at stop c
  token_found same c stop found = subst (λ (y : List ℕ). IsTokenAt p y here.at stop c) same (found p)

  pub modest_found : {x : List ℕ} → x ≡ text → (c : Class) (stop : ℕ) → ((q : Profile) → IsTokenAt q x here.at stop c) → IsModest c
  modest_found same c stop found = modest_at p text here.at stop c (utf8_bytes text r.utf8) (token_found same c stop found)

  -- pieces of a string
  pub pieced : here.phase ≡ phases.Builds → is_some w.chunks ≡ false → (st : Stack) × (ps : Pieces) × (builds (as_item st) ps ≡ r.state) × Reads h here w w.pieces.items (builds (as_item st) ps)
  pieced q none =
      let b = is_builds r.state (sym r.shows.shows.phase ∙ q) in
      let k = item_home b.0 (ap is_some (sym (shown_as (builds b.0 b.1) b.2).shows.chunks) ∙ none) in
      let is = ap (λ (x : Home). builds x b.1) k.1 ∙ b.2 in
      (k.0, b.1, is, shown_as (builds (as_item k.0) b.1) is)

  -- pieces of a chunk
  pub chunked : here.phase ≡ phases.Builds → is_some w.chunks ≡ true → (st : Stack) × (at : Span) × (b : StringsBefore) × (ps : Pieces) × (builds (as_chunk st at b) ps ≡ r.state) × Reads h here w w.pieces.items (builds (as_chunk st at b) ps)
  chunked q some =
      let b = is_builds r.state (sym r.shows.shows.phase ∙ q) in
      let k = chunk_home b.0 (ap is_some (sym (shown_as (builds b.0 b.1) b.2).shows.chunks) ∙ some) in
      let is = ap (λ (x : Home). builds x b.1) k.3 ∙ b.2 in
      (k.0, k.1, k.2, b.1, is, shown_as (builds (as_chunk k.0 k.1 k.2) b.1) is)

  module _ {k : Holds} {x : List ℕ} (same : x ≡ text) (c : Class) (stop : ℕ) (found : (q : Profile) → IsTokenAt q x here.at stop c) (next : Here) (left : Writer) where
    -- LAW: on with a token
    taken : (u : State) → step_by r.state c (span_at here.at stop) ≡ Some u → Reads k next left left.pieces.items u → forbids p (comma_at r.state c) ≡ false → reach (open_levels r.state) c ≤ limit → IsReadTo k p limit text (record next { at = stop }) left × (here.at < stop)
    taken u is e free low =
        let between : TokensBetween p text here.at stop (token_at here.at stop c ∷ []) = (token_found same c stop found) in
        let modest : AreModest (token_at here.at stop c ∷ []) = (modest_found same c stop found, tt) in
        (record { utf8 = r.utf8; small = r.small; inside = (inside p text here.at stop (token_at here.at stop c ∷ []) r.inside between).1; state = u; reached = goes_on p limit text here.at r.state r.reached stop (token_at here.at stop c) u between modest is free low; shows = read_at next left left.pieces.items u stop e }, (beyond p text here.at stop c (token_found same c stop found)))

    -- from the state that is shown
    pub taken_from : (s u : State) → s ≡ r.state → step_by s c (span_at here.at stop) ≡ Some u → Reads k next left left.pieces.items u → forbids p (comma_at s c) ≡ false → reach (open_levels s) c ≤ limit → IsReadTo k p limit text (record next { at = stop }) left × (here.at < stop)
    taken_from s u h1 h2 h3 h4 h5 = grind (arith, taken)

    -- LAW: where an item is wanted
    pub item_taken : (here.phase ≡ phases.Wants) ⊎ (here.phase ≡ phases.WantsMore) → (v : Stack → State) → ((st : Stack) → step_by (wants st) c (span_at here.at stop) ≡ Some (v st)) → ((st : Stack) → Reads h here w w.pieces.items (wants st) → Reads k next left left.pieces.items (v st)) → ((st : Stack) → comma_in st c ≡ 0)
        → reach (length w.brackets) c ≤ limit → IsReadTo k p limit text (record next { at = stop }) left × (here.at < stop)
    item_taken q v is leads bare low =
        let i = wanted q in
        let e = shown_as (wants i.0) i.1 in
        taken_from (wants i.0) (v i.0) i.1 (is i.0) (leads i.0 e) (ap (forbids p) (bare i.0) ∙ free_none p) (subst (λ l. reach l c ≤ limit) (ap length e.shows.brackets ∙ brackets_levels (wants i.0)) low)

    -- LAW: where an item is wanted, or was read last
    pub end_taken : (kind : Kind) → c ≡ class_of kind 0 [] → (ok : Bool) → ok ≡ true → (here.phase ≡ phases.Has) ⊎ (here.phase ≡ phases.Wants) → (MayEnd r.state → Reads h here w w.pieces.items r.state → Taken k ok r.state c (span_at here.at stop) next left) → reach (open_levels r.state) c ≤ limit → IsReadTo k p limit text (record next { at = stop }) left × (here.at < stop)
    end_taken kind is ok e q f low = let t = subst (λ b. Taken k b r.state c (span_at here.at stop) next left) e (f (may_end q) r.shows) in taken t.0 t.1 t.2 free low
      where
        not_more : (here.phase ≡ phases.Has) ⊎ (here.phase ≡ phases.Wants) → here.phase ≡ phases.WantsMore → ⊥
        not_more (inl h) e = let bad : phases.Has ≡ phases.WantsMore = sym h ∙ e in cc
        not_more (inr h) e = let bad : phases.Wants ≡ phases.WantsMore = sym h ∙ e in cc

        free : forbids p (comma_at r.state c) ≡ false
        free = ap (λ (y : Class). forbids p (comma_at r.state y)) is ∙ tight_free p r.state kind 0 [] (λ e. not_more q (r.shows.shows.phase ∙ e))

    -- LAW: after an item
    pub after_taken : here.phase ≡ phases.Has → (ok : Bool) → ok ≡ true → ((st : Stack) (i : Item) → Reads h here w w.pieces.items (has st i) → Taken k ok (has st i) c (span_at here.at stop) next left) → ((l : ℕ) → reach l c ≤ limit) → IsReadTo k p limit text (record next { at = stop }) left × (here.at < stop)
    after_taken q ok e f low =
        let i = is_has r.state (sym r.shows.shows.phase ∙ q) in
        let t = subst (λ b. Taken k b (has i.0 i.1) c (span_at here.at stop) next left) e (f i.0 i.1 (shown_as (has i.0 i.1) i.2)) in
        taken_from (has i.0 i.1) t.0 i.2 t.1 t.2 (free_none p) (low (open_levels (has i.0 i.1)))

    -- LAW: where the number in `simple(..)` is wanted
    pub number_taken : here.phase ≡ phases.WantsNumber → (v : Stack → Span → State) → ((st : Stack) (s : Span) → step_by (wants_number st s) c (span_at here.at stop) ≡ Some (v st s)) → ((st : Stack) (s : Span) → Reads h here w w.pieces.items (wants_number st s) → Reads k next left left.pieces.items (v st s)) → reach (length w.brackets) c ≤ limit
        → IsReadTo k p limit text (record next { at = stop }) left × (here.at < stop)
    number_taken q v is leads low =
        let i = is_wants_number r.state (sym r.shows.shows.phase ∙ q) in
        let e = shown_as (wants_number i.0 i.1) i.2 in
        taken_from (wants_number i.0 i.1) (v i.0 i.1) i.2 (is i.0 i.1) (leads i.0 i.1 e) (free_none p) (subst (λ l. reach l c ≤ limit) (ap length e.shows.brackets ∙ brackets_levels (wants_number i.0 i.1)) low)

  -- LAW: on with a text string in one piece
  pub text_taken : {k : Holds} {y x : List ℕ} → y ≡ text → (stop : ℕ) (t : IsTextAt p y here.at stop x) (next : Here) (left : Writer) → (here.phase ≡ phases.Wants) ⊎ (here.phase ≡ phases.WantsMore)
      → ((st : Stack) → IsUtf8 x → Reads h here w w.pieces.items (wants st) → Reads k next left left.pieces.items (has st (string (piece (piece_text (span_at here.at t.stop) x Absent))))) → IsReadTo k p limit text (record next { at = stop }) left × (here.at < stop)
  text_taken {k = k} {x = x} same stop found next left q reads =
      let i = wanted q in
      let st = i.0 in
      let t = subst (λ (z : List ℕ). IsTextAt p z here.at stop x) same found in
      let ps = piece (piece_text (span_at here.at t.stop) x Absent) in
      let token = token_at here.at t.stop (Text x Absent) in
      let between : TokensBetween p text here.at t.stop (token ∷ []) = t.token in
      let modest : AreModest (token ∷ []) = (modest_at p text here.at t.stop (Text x Absent) (utf8_bytes text r.utf8) t.token, tt) in
      let before = subst (λ (v : State). Reached p limit text here.at v) (sym i.1) r.reached in
      let string_read = goes_on p limit text here.at (wants st) before t.stop token (builds (as_item st) ps) between modest refl (free_none p) (omega arith) in
      let first = inside p text here.at t.stop (token ∷ []) r.inside between in
      let rest = inside p text t.stop stop [] first.1 t.white_space in (
        record {
          utf8 = r.utf8;
          small = r.small;
          inside = rest.1;
          state = has st (string ps);
          reached = settled p limit text stop st ps t.ends (skips p limit text t.stop (builds (as_item st) ps) string_read stop t.white_space);
          shows = read_at next left left.pieces.items (has st (string ps)) stop (reads st (t.utf8 r.utf8) (shown_as (wants st) i.1));
        },
        omega (arith, beyond p text here.at t.stop (Text x Absent) t.token, rest.0),
      )

  -- LAW: the pieces are whole
  pub whole : {k : Holds} (st : Stack) (ps : Pieces) → builds (as_item st) ps ≡ r.state → NoPieceAt text here.at → (next : Here) (left : Writer) → Reads k next left left.pieces.items (has st (string ps)) → IsReadTo k p limit text (record next { at = here.at }) left
  whole st ps is none next left e = record {
    utf8 = r.utf8;
    small = r.small;
    inside = r.inside;
    state = has st (string ps);
    reached = settled p limit text here.at st ps none (subst (λ (v : State). Reached p limit text here.at v) (sym is) r.reached);
    shows = read_at next left left.pieces.items (has st (string ps)) here.at e;
  }

  -- the number of a simple value
  pub simple_number : here.phase ≡ phases.HasNumber → (st : Stack) × (at : Span) × (b : Span) × (n : Bool) × (v : ℕ) × (m : Mark) × (has_number st at b n v m ≡ r.state)
  simple_number q = is_has_number r.state (sym r.shows.shows.phase ∙ q)
