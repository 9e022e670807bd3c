-- A text that is read up to some place: on with one more token, or why not.
use Rattle.std.specs.Prelude.{◌≡◌, ◌+◌, ◌<◌, ◌≤◌, ◌∷◌, ◌++◌, ◌⊎◌}
use Rattle.cborn_edn.proofs.Common.{refl, sym, ap, ◌∙◌, subst, ℕ, List, [], length, Bool, true, false, cond, leb, Option, Some, None, append_assoc, append-nil, inl, inr, arith, max, le-leb, lt-leb, TokensBetween, HasNoTokens, HasNoTokenFrom, class_of, Kind, Class, Profile, Token, LexFault, AreModest, EdnReason, UnexpectedToken, TooDeep, EdnFault, Refused, Span, span, token, after_row, after_pairs, IsNoNotation, lexical, reach, Phase, WantsMore, phase_of, is_trailing_comma, Reached, ProfileOne as One, ProfileTwo as Two, in_row, in_key, at_top, in_array, in_embed, State, wants, start, step, step_by, held, open_levels, comma_at, Answer, forbids, checked, parse, joins, whole_text, whole_stop, stops}
use Rattle.cborn_lex.specs.declared.classes.Kind.TheVariants as kinds
use Rattle.cborn_lex.proofs.WholeTexts.Progress.{nothing}
use Rattle.cborn_edn.proofs.Grammar.Held.{deep, commas_held, After, Grows}
use Rattle.cborn_edn.proofs.Grammar.Grows.{grows}
use Rattle.cborn_edn.proofs.Grammar.Parser.{HasSyntaxError, Meets, parses}
use Rattle.cborn_edn.specs.devices.Reading.{is_closing}
use Rattle.cborn_edn.proofs.Reader.Modest.{modest_both}
use Rattle.cborn_edn.proofs.Reader.Turning.{apart}

pub begins : (profile : Profile) (limit : ℕ) (text : List ℕ) → Reached profile limit text 0 start
begins profile limit text = record { tokens = []; between = nothing profile text 0; modest = tt; held = refl; runs = λ t stop b more end. refl; stops = λ end. refl }

-- what is reported of a text with a lexical fault
lexical_reported : (profile : Profile) (limit : ℕ) (text : List ℕ) (e : LexFault) → HasNoTokens profile text e → IsNoNotation profile limit text (lexical e)
lexical_reported profile limit text e h1 = grind arith

clash : {A : Type 0} → true ≡ false → A
clash e = absurd (let bad : true ≡ false = e in cc)

one_state : (u v : State) → Some u ≡ Some v → u ≡ v
one_state u v e = cc

-- what the machine holds after one more token
pub held_more : (s u : State) (c : Class) (a : Span) → step_by s c a ≡ Some u → held u ≡ held s ++ (token a c ∷ [])
held_more s u c a e = go (step_by s c a) (grows s c a) e
  where
    go : (o : Option State) → After o (Grows (held s) (max (deep s) (reach (open_levels s) c)) (commas_held s + comma_at s c) (token a c)) → o ≡ Some u → held u ≡ held s ++ (token a c ∷ [])
    go None g f = absurd (let bad : None ≡ Some u = f in cc)
    go (Some v) g f = ap held (sym (one_state v u f)) ∙ g.0

-- what a token makes of the answer
abbrev pub after_token : Profile → ℕ → ℕ → Token → List Token → Option State → Bool → Answer
after_token profile limit end t more o b = elim o [ None ↦ HasSyntaxError t.start UnexpectedToken | Some u ↦ cond b (parse profile limit end more u) (HasSyntaxError t.start TooDeep) ]

module _ (profile : Profile) (limit : ℕ) (text : List ℕ) (at : ℕ) (s : State) (r : Reached profile limit text at s) where
  -- after one more token
  pub goes_on : (stop : ℕ) (t : Token) (u : State) → TokensBetween profile text at stop (t ∷ []) → AreModest (t ∷ []) → step s t ≡ Some u → forbids profile (comma_at s t.class) ≡ false → reach (open_levels s) t.class ≤ limit → Reached profile limit text stop u
  goes_on stop t u next modest takes free low =
      let here : checked profile limit s t (step s t) ≡ Some u = ap (checked profile limit s t) takes ∙ ap (λ b. cond b None (Some u)) free in
      let deep : leb (reach (open_levels s) t.class) limit ≡ true = le-leb _ _ low in
      let on : (more : List Token) (end : ℕ) → parse profile limit end ((r.tokens ++ (t ∷ [])) ++ more) start ≡ parse profile limit end more u = λ more end. ap (λ ts. parse profile limit end ts start) (append_assoc r.tokens (t ∷ []) more)
      ∙ (r.runs t stop next more end ∙ (ap (λ c. after_token profile limit end t more c (leb (reach (open_levels s) t.class) limit)) here ∙ ap (λ b. after_token profile limit end t more (Some u) b) deep)) in
      record {
        tokens = r.tokens ++ (t ∷ []);
        between = joins profile text 0 at stop r.tokens (t ∷ []) r.between next;
        modest = modest_both r.tokens (t ∷ []) r.modest modest;
        held = held_more s u t.class (span t) takes ∙ ap (λ l. l ++ (t ∷ [])) r.held;
        runs = λ v last b more end. on (v ∷ more) end;
        stops = λ end. ap (λ ts. parse profile limit end ts start) (sym (append-nil (r.tokens ++ (t ∷ [])))) ∙ on [] end;
      }

  -- after white space and comments
  pub skips : (stop : ℕ) → TokensBetween profile text at stop [] → Reached profile limit text stop s
  skips stop white = record {
    tokens = r.tokens;
    between = subst (TokensBetween profile text 0 stop) (append-nil r.tokens) (joins profile text 0 at stop r.tokens [] r.between white);
    modest = r.modest;
    held = r.held;
    runs = λ t last b. r.runs t last (joins profile text at stop last [] (t ∷ []) white b);
    stops = r.stops;
  }

  -- if only white space and comments are left
  pub ends : TokensBetween profile text at (length text) [] → Reached profile limit text (length text) s
  ends last = skips (length text) last

  pub stopped : (e : LexFault) → HasNoTokenFrom profile text at e → IsNoNotation profile limit text (lexical e)
  stopped e h = lexical_reported profile limit text e (whole_stop profile text e (stops profile text 0 at r.tokens e r.between h))

  -- a token that is refused; but a later lexical fault comes first
  syntax : (t : Token) (why : EdnReason) (fault : EdnFault) → TokensBetween profile text at t.stop (t ∷ []) → ((more : List Token) (end : ℕ) → parse profile limit end (r.tokens ++ (t ∷ more)) start ≡ HasSyntaxError t.start why)
      → ((more : List Token) × TokensBetween profile text t.stop (length text) more × (fault ≡ Refused t.start why)) ⊎ ((stop : LexFault) × HasNoTokenFrom profile text t.stop stop × (fault ≡ lexical stop)) → IsNoNotation profile limit text fault
  syntax t why fault next reported (inl (more, rest, f)) =
      let all = joins profile text 0 at (length text) r.tokens (t ∷ more) r.between (joins profile text at t.stop (length text) (t ∷ []) more next rest) in
      let met = subst (Meets profile limit (length text) (r.tokens ++ (t ∷ more))) (reported more (length text)) (parses profile limit (length text) (r.tokens ++ (t ∷ more))) in
      subst (IsNoNotation profile limit text) (sym f) (inl (r.tokens ++ (t ∷ more), whole_text profile text (r.tokens ++ (t ∷ more)) all, met))
  syntax t why fault next reported (inr (stop, h, f)) = subst (IsNoNotation profile limit text) (sym f) (stopped stop (stops profile text at t.stop (t ∷ []) stop next h))

  pub unexpected : (t : Token) (fault : EdnFault) → TokensBetween profile text at t.stop (t ∷ []) → checked profile limit s t (step s t) ≡ None
      → ((more : List Token) × TokensBetween profile text t.stop (length text) more × (fault ≡ Refused t.start UnexpectedToken)) ⊎ ((stop : LexFault) × HasNoTokenFrom profile text t.stop stop × (fault ≡ lexical stop)) → IsNoNotation profile limit text fault
  unexpected t fault next none h = syntax t UnexpectedToken fault next (λ more end. r.runs t t.stop next more end ∙ ap (λ c. after_token profile limit end t more c (leb (reach (open_levels s) t.class) limit)) none) h

  pub too_deep : (t : Token) (u : State) (fault : EdnFault) → TokensBetween profile text at t.stop (t ∷ []) → step s t ≡ Some u → forbids profile (comma_at s t.class) ≡ false → limit < reach (open_levels s) t.class
      → ((more : List Token) × TokensBetween profile text t.stop (length text) more × (fault ≡ Refused t.start TooDeep)) ⊎ ((stop : LexFault) × HasNoTokenFrom profile text t.stop stop × (fault ≡ lexical stop)) → IsNoNotation profile limit text fault
  too_deep t u fault next takes free far h =
      let here : checked profile limit s t (step s t) ≡ Some u = ap (checked profile limit s t) takes ∙ ap (λ b. cond b None (Some u)) free in
      let high : leb (reach (open_levels s) t.class) limit ≡ false = lt-leb _ _ far in
      syntax t TooDeep fault next (λ more end. r.runs t t.stop next more end ∙ ap (λ c. after_token profile limit end t more c (leb (reach (open_levels s) t.class) limit)) here ∙ ap (λ b. after_token profile limit end t more (Some u) b) high) h

pub free_none : (p : Profile) → forbids p 0 ≡ false
free_none p = grind arith

-- no bracket ends there after a comma
pub tight_free : (p : Profile) (s : State) (k : Kind) (n : ℕ) (x : List ℕ) → (phase_of s ≡ WantsMore → ⊥) → forbids p (comma_at s (class_of k n x)) ≡ false
tight_free p s k n x h1 = grind arith

-- the token is no bracket that ends after a comma
pub not_trailing : (p : Profile) (s : State) (k : Kind) (n : ℕ) (x : List ℕ) → is_trailing_comma p (phase_of s) k ≡ false → forbids p (comma_at s (class_of k n x)) ≡ false
not_trailing p s k n x h1 = grind arith

forbidden : (limit : ℕ) (s : State) (t : Token) (o : Option State) → forbids One (comma_at s t.class) ≡ true → checked One limit s t o ≡ None
forbidden limit s t o h1 = grind arith

-- the token is a bracket that ends after a comma
pub trailing : (p : Profile) (limit : ℕ) (s : State) (k : Kind) (n start stop : ℕ) (x : List ℕ) → is_trailing_comma p (phase_of s) k ≡ true → let t : Token = record { start = start; stop = stop; class = class_of k n x } in checked p limit s t (step s t) ≡ None
trailing Two limit s k n start stop x e = clash (sym e)
trailing One limit s k n start stop x e = go (phase_of s) refl e
  where
    t : Kind → Token
    t q = record { start = start; stop = stop; class = class_of q n x }

    more : (s : State) (k : Kind) → phase_of s ≡ WantsMore → is_closing k ≡ true → checked One limit s (t k) (step s (t k)) ≡ None
    more (wants (in_row m (after_row r z))) kinds.ArrayClose f g = forbidden limit (wants (in_row m (after_row r z))) (t kinds.ArrayClose) (step (wants (in_row m (after_row r z))) (t kinds.ArrayClose)) refl
    more (wants (in_row m (after_row r z))) (kinds.EmbedClose q) f g = forbidden limit (wants (in_row m (after_row r z))) (t (kinds.EmbedClose q)) (step (wants (in_row m (after_row r z))) (t (kinds.EmbedClose q))) refl
    more (wants (in_row at_top (after_row r z))) kinds.MapClose f g = refl
    more (wants (in_row (in_array st p m) (after_row r z))) kinds.MapClose f g = refl
    more (wants (in_row (in_embed h o p) (after_row r z))) kinds.MapClose f g = refl
    more (wants (in_row m (after_row r z))) _ f g = clash (sym g)
    more (wants (in_key st p m (after_pairs ps z))) kinds.MapClose f g = forbidden limit (wants (in_key st p m (after_pairs ps z))) (t kinds.MapClose) (step (wants (in_key st p m (after_pairs ps z))) (t kinds.MapClose)) refl
    more (wants (in_key st p m (after_pairs ps z))) kinds.ArrayClose f g = refl
    more (wants (in_key st p m (after_pairs ps z))) (kinds.EmbedClose q) f g = refl
    more (wants (in_key st p m (after_pairs ps z))) _ f g = clash (sym g)
    more _ k f g = apart _ _ f (λ q. omega arith)

    go : (st : Phase) → phase_of s ≡ st → is_trailing_comma One st k ≡ true → checked One limit s (t k) (step s (t k)) ≡ None
    go WantsMore f g = more s k f g
    go _ f g = clash (sym g)
