-- One token that is read: the reader goes on, or refuses the text.
use Rattle.std.specs.Prelude.{◌≡◌, ◌^◌, ◌<◌, ◌≤◌, ◌∷◌, ◌++◌, ◌⊎◌}
use Rattle.cborn_edn.proofs.Common.{refl, sym, ap, ◌∙◌, subst, ℕ, List, [], length, Bool, false, Option, Some, None, arith, inl, inr, AreBytes, TokensBetween, HasNoTokenFrom, class_of, content_of, IsNextBareToken, BareToken, Profile, Token, LexFault, AreModest, EdnReason, UnexpectedToken, TooDeep, EdnFault, Refused, IsNoNotation, lexical, reach, Here, Writer, phase_of, Holds, Reads, Ready, Taken, Takes, is_trailing_comma, IsReadTo, Judged, State, open_levels, checked, few, between_modest}
use Rattle.cborn_lex.proofs.WholeTexts.Progress.{inside}
use Rattle.cborn_edn.proofs.Reader.Going.{goes_on, ends, unexpected, too_deep, not_trailing, trailing}
use Rattle.cborn_edn.proofs.Reader.Counts.{shown_few, brackets_levels}

pub same_read : {h : Holds} (here : Here) (w v : Writer) (out : List ℕ) (s : State) → Reads h here w out s → Reads h here (record w { pieces = v.pieces }) out s
same_read here w v out s e = record { shows = (record { phase = e.shows.phase; level = e.shows.level; count = e.shows.count; brackets = e.shows.brackets; around = e.shows.around; string = e.shows.string; chunks = e.shows.chunks; simple = e.shows.simple; error = e.shows.error; start = e.shows.start; pieces = e.shows.pieces }); handed = e.handed }

-- where the reader is in the text is no part of what is shown
pub read_at : {h : Holds} (next : Here) (left : Writer) (out : List ℕ) (u : State) (stop : ℕ) → Reads h next left out u → Reads h (record next { at = stop }) left out u
read_at next left out u stop h1 = grind arith

module _ (p : Profile) (text : List ℕ) (are : AreBytes text) (here : Here) (w : Writer) where
  -- a token that was read
  abbrev pub ReadToken : ℕ → Writer → BareToken → Type 0
  ReadToken n v t = (content : List ℕ) × TokensBetween p text here.at t.stop (record { start = t.start; stop = t.stop; class = class_of t.kind n content } ∷ []) × AreModest (record { start = t.start; stop = t.stop; class = class_of t.kind n content } ∷ []) × (v.pieces.items ≡ w.pieces.items ++ content_of (class_of t.kind n content))

  pub token_read : (o : Option BareToken) (n : ℕ) (v : Writer) (t : BareToken) → IsNextBareToken p text here.at o n w.pieces.items v.pieces.items → o ≡ Some t → ReadToken n v t
  token_read o n v t h1 h2 = grind (arith, between_modest)

module _ {h : Holds} (p : Profile) (limit : ℕ) (text : List ℕ) (are : AreBytes text) (here : Here) (w : Writer) (r : IsReadTo h p limit text here w) where
  -- with nothing left of the text
  pub last_read : (o : Option BareToken) (n : ℕ) (v : Writer) → IsNextBareToken p text here.at o n w.pieces.items v.pieces.items → o ≡ None → IsReadTo h p limit text (record here { at = length text }) (record w { pieces = v.pieces })
  last_read o n v h1 h2 = grind (arith, ends, inside, length, read_at, same_read)

  module _ (n : ℕ) (v : Writer) (t : BareToken) (i : ReadToken p text are here w n v t) where
    abbrev the_token : Token
    the_token = record { start = t.start; stop = t.stop; class = class_of t.kind n i.0 }

    -- it is ready to be taken in the state that is shown
    pub ready : length text < 2 ^ 63 → Ready h t.kind n here (record w { pieces = v.pieces }) r.state w.pieces.items (class_of t.kind n i.0)
    ready small = record {
      stands = record { content = i.0; class = refl; written = i.3 };
      shows = same_read here w v w.pieces.items r.state r.shows;
      few = omega (arith, small, r.inside, shown_few p limit text here w w.pieces.items r.state r.reached r.shows.shows);
      token = i.2.0;
    }

    pub further : here.at < t.stop
    further = omega (arith, few p text here.at t.stop (the_token ∷ []) i.1)

    pub stop_inside : t.stop ≤ length text
    stop_inside = (inside p text here.at t.stop (the_token ∷ []) r.inside i.1).1

    depth_is : (deep : ℕ) → ((x : List ℕ) → deep ≡ reach (length w.brackets) (class_of t.kind n x)) → deep ≡ reach (open_levels r.state) (class_of t.kind n i.0)
    depth_is deep d = d i.0 ∙ ap (λ l. reach l (class_of t.kind n i.0)) (ap length r.shows.shows.brackets ∙ brackets_levels r.state)

    module _ (k : Holds) (next : Here) (left : Writer) (ok bad : Bool) (deep : ℕ) (taken : (s : State) → Takes h k t.kind n t.start here (record w { pieces = v.pieces }) next left ok s) (small : length text < 2 ^ 63) (b : bad ≡ is_trailing_comma p here.phase t.kind) (d : (x : List ℕ) → deep ≡ reach (length w.brackets) (class_of t.kind n x)) where
      took : Taken k ok r.state (class_of t.kind n i.0) (record { start = t.start; stop = t.stop }) next left
      took = taken r.state w.pieces.items (class_of t.kind n i.0) (record { start = t.start; stop = t.stop }) refl (ready small)

      free : bad ≡ false → is_trailing_comma p (phase_of r.state) t.kind ≡ false
      free e = ap (λ st. is_trailing_comma p st t.kind) (sym r.shows.shows.phase) ∙ sym b ∙ e

      -- the reader goes on
      pub went_on : Judged bad ok deep limit None → IsReadTo k p limit text (record next { at = t.stop }) left
      went_on (f, g, low) =
          let q = subst (λ (q : Bool). Taken k q r.state (class_of t.kind n i.0) (record { start = t.start; stop = t.stop }) next left) g took in
          record {
            utf8 = r.utf8;
            small = r.small;
            inside = stop_inside;
            state = q.0;
            reached = goes_on p limit text here.at r.state r.reached t.stop the_token q.0 i.1 i.2 q.1 (not_trailing p r.state t.kind n i.0 (free f)) (omega (arith, depth_is deep d, low));
            shows = read_at next left left.pieces.items q.0 t.stop q.2;
          }

      -- the text is refused
      pub refusal : (why : EdnReason) (fault : EdnFault) → Judged bad ok deep limit (Some why)
          → ((more : List Token) × TokensBetween p text t.stop (length text) more × (fault ≡ Refused t.start why)) ⊎ ((stop : LexFault) × HasNoTokenFrom p text t.stop stop × (fault ≡ lexical stop)) → IsNoNotation p limit text fault
      refusal UnexpectedToken fault (inl e) f =
          unexpected p limit text here.at r.state r.reached the_token fault i.1 (trailing p limit r.state t.kind n t.start t.stop i.0 (ap (λ st. is_trailing_comma p st t.kind) (sym r.shows.shows.phase) ∙ sym b ∙ e)) f
      refusal UnexpectedToken fault (inr e) f =
          unexpected p limit text here.at r.state r.reached the_token fault i.1 (ap (checked p limit r.state the_token) (subst (λ (q : Bool). Taken k q r.state (class_of t.kind n i.0) (record { start = t.start; stop = t.stop }) next left) e took)) f
      refusal TooDeep fault (f, g, far) h =
          let q = subst (λ (q : Bool). Taken k q r.state (class_of t.kind n i.0) (record { start = t.start; stop = t.stop }) next left) g took in
          too_deep p limit text here.at r.state r.reached the_token q.0 fault i.1 q.1 (not_trailing p r.state t.kind n i.0 (free f)) (omega (arith, depth_is deep d, far)) h
      refusal _ fault e f = absurd e
