-- Tokens have at most one tree. Within the limit they have a tree or one syntax error, never both. A larger limit and profile 2 accept all that the others do.
use Rattle.std.specs.Prelude.{◌≡◌, ◌+◌, ◌≤◌, ◌∷◌, ◌++◌, ◌⊎◌}
use Rattle.cborn_edn.proofs.Common.{refl, ap, ◌∙◌, sym, subst, ℕ, List, [], Option, Some, None, append_assoc, append-nil, arith, inl, inr, max, Token, Profile, token, span, Input, tokens_of_input, depth_of_input, commas_of_input, AllowsCount, EdnReason, UnexpectedToken, UnexpectedEnd, TooDeep, Parse, HasTree, GoesOn, StopsAt, IsSyntaxError, reach, same_Some, ProfileOne, ProfileTwo, State, start, step, run, finish, held, open_levels, comma_at, IsText, Parsed}
use Rattle.cborn_edn.proofs.Grammar.Held.{run-append, run-none, deep, commas_held, After, Grows}
use Rattle.cborn_edn.proofs.Grammar.Takes.{then, whole, takes_input, finish-whole}
use Rattle.cborn_edn.proofs.Grammar.Grows.{grows}
use Rattle.cborn_edn.proofs.Grammar.Closes.{closes}
use Rattle.cborn_edn.proofs.Short.Rebuilt.{parsed, has_tree}

-- what the tokens lead to
abbrev pub Leads : List Token → State → Type 0
Leads ts s = run ts (Some start) ≡ Some s

pub takes_all : (t : Input) → Leads (tokens_of_input t) (whole t)
takes_all t = ap (λ l. run l (Some start)) (sym (append-nil (tokens_of_input t))) ∙ takes_input t []

-- LAW: tokens have at most one tree
pub one_tree : (p q : Profile) (ts : List Token) (t u : Input) → Parse p ts t → Parse q ts u → t ≡ u
one_tree p q ts t u g h =
    let same : Some (whole t) ≡ Some (whole u) = sym (takes_all t) ∙ ap (λ l. run l (Some start)) (g.is ∙ sym h.is) ∙ takes_all u in
    same_Some _ _ (sym (finish-whole t) ∙ ap finish (same_Some _ _ same) ∙ finish-whole u)

deep-whole : (t : Input) → deep (whole t) ≡ depth_of_input t
deep-whole t = grind arith

commas-whole : (t : Input) → commas_held (whole t) ≡ commas_of_input t
commas-whole t = grind arith

no_some : {A : Type 0} {x : A} {B : Type 0} → None ≡ Some x → B
no_some e = cc

-- what a run of the machine adds to what it holds
abbrev pub Ran : List Token → State → State → Type 0
Ran y s u = (held u ≡ held s ++ y) × (deep s ≤ deep u) × (commas_held s ≤ commas_held u)

pub ran : (y : List Token) (s u : State) → then y s ≡ Some u → Ran y s u
ran [] s u e = let same : s ≡ u = same_Some _ _ e in (ap held (sym same) ∙ sym (append-nil (held s)), omega (arith, ap deep same), omega (arith, ap commas_held same))
ran (t ∷ y) s u e = go (step s t) (grows s t.class (span t)) e (λ v. ran y v u)
  where
    go : (o : Option State) → After o (Grows (held s) (max (deep s) (reach (open_levels s) t.class)) (commas_held s + comma_at s t.class) (token (span t) t.class)) → run y o ≡ Some u
        → ((v : State) → then y v ≡ Some u → Ran y v u) → Ran (t ∷ y) s u
    go None g f rest = no_some (sym (run-none y) ∙ f)
    go (Some v) g f rest =
        let r = rest v f in
        (r.0 ∙ ap (λ l. l ++ y) g.0 ∙ append_assoc (held s) (t ∷ []) y, omega (arith, g.1, r.1), omega (arith, g.2, r.2))

pub held_by : (ts : List Token) (s : State) → Leads ts s → held s ≡ ts
held_by ts s e = (ran ts start s e).0

allows_less : (p : Profile) (m n : ℕ) → m ≤ n → AllowsCount p n → AllowsCount p m
allows_less p m n h1 h2 = grind arith

-- tokens that lead to a state within the profile and the limit
abbrev pub Good : Profile → ℕ → List Token → Type 0
Good p limit ts = (state : State) × Leads ts state × AllowsCount p (commas_held state) × (deep state ≤ limit)

pub good : (p : Profile) (limit : ℕ) (ts : List Token) → GoesOn p limit ts → Good p limit ts
good p limit ts (more, (us, l, h)) = led (parsed p limit (ts ++ more) us l h)
  where
    led : Parsed p limit (ts ++ more) us l → Good p limit ts
    led t = go (run ts (Some start)) refl (sym (run-append ts more (Some start)) ∙ ap (λ l. run l (Some start)) (sym t.parse.is) ∙ takes_all t.tree)
      where
        go : (o : Option State) → run ts (Some start) ≡ o → run more o ≡ Some (whole t.tree) → Good p limit ts
        go None e f = no_some (sym (run-none more) ∙ f)
        go (Some s) e f =
            let r = ran more s (whole t.tree) f in
            (s, e, allows_less p _ (commas_of_input t.tree) (omega (arith, r.2, commas-whole t.tree)) t.parse.allowed, omega (arith, r.1, deep-whole t.tree, t.shallow))

pub goes_on : (p : Profile) (limit : ℕ) (ts : List Token) → Good p limit ts → GoesOn p limit ts
goes_on p limit ts g =
    let c = closes g.0 in
    (c.0, has_tree p limit (ts ++ c.0) c.1 (record { is = c.2 ∙ ap (λ l. l ++ c.0) (held_by ts g.0 g.1); allowed = allows_less p _ _ c.4 g.2 }) (omega (arith, c.3, g.3)))

abbrev pub Ended : State → Input → Type 0
Ended s t = (tokens_of_input t ≡ held s) × (depth_of_input t ≡ deep s) × (commas_of_input t ≡ commas_held s)

abbrev pub IfTree : Option Input → (Input → Type 0) → Type 0
IfTree None P = Unit {0}
IfTree (Some t) P = P t

pub ends_tree : (s : State) → IfTree (finish s) (Ended s)
ends_tree s = grind arith

has_goes : (p : Profile) (limit : ℕ) (ts : List Token) → HasTree p limit ts → GoesOn p limit ts
has_goes p limit ts (us, l, h) = ([], (us, l, subst (λ x. IsText p limit x us l) (sym (append-nil ts)) h))

pub no_tree : (p : Profile) (limit : ℕ) (ts : List Token) (s : State) → Leads ts s → finish s ≡ None → HasTree p limit ts → ⊥
no_tree p limit ts s h1 h2 h3 = grind (arith, finish-whole, no_some, parsed, same_Some, takes_all, whole)

pub nothing_goes : (p : Profile) (limit : ℕ) (f : List Token) (t : Token) (s : State) → Leads f s → step s t ≡ None → GoesOn p limit (f ++ (t ∷ [])) → ⊥
nothing_goes p limit f t s e none g =
    let h = good p limit (f ++ (t ∷ [])) g in
    no_some (sym (run-append f (t ∷ []) (Some start) ∙ ap (run (t ∷ [])) e ∙ none) ∙ h.1)

pub leads_on : (f : List Token) (t : Token) (s u : State) → Leads f s → step s t ≡ Some u → Leads (f ++ (t ∷ [])) u
leads_on f t s u e next = run-append f (t ∷ []) (Some start) ∙ ap (run (t ∷ [])) e ∙ next

-- a run has one end
pub same_end : (ts : List Token) (s u : State) → Leads ts s → Leads ts u → s ≡ u
same_end ts s u e f = same_Some _ _ (sym e ∙ f)

module _ (p : Profile) (limit end : ℕ) where
  pub stops : (f y : List Token) (t : Token) (s : State) → Leads f s → AllowsCount p (commas_held s) → deep s ≤ limit → (GoesOn p limit (f ++ (t ∷ [])) → ⊥) → StopsAt p limit (f ++ (t ∷ y)) f t
  stops f y t s e a d never = record { y = y; split = refl; before = goes_on p limit f ((s, e, a, d)); here = never }

  -- if tokens go on, those that they begin with go on
  front_goes : (x y : List Token) → GoesOn p limit (x ++ y) → GoesOn p limit x
  front_goes x y g = (y ++ g.0, rw append_assoc at g.1)

  -- LAW: not both
  pub not_both : (ts : List Token) (q : ℕ) (r : EdnReason) → HasTree p limit ts → IsSyntaxError p limit end ts q r → ⊥
  not_both ts q r h1 h2 = grind (arith, append_assoc, front_goes, has_goes)

abbrev GoesOnAtAnyDepth : Profile → List Token → Type 0
GoesOnAtAnyDepth p ts = (limit : ℕ) × GoesOn p limit ts

-- two splits of one list
abbrev SplitsAs : (f g : List Token) (t u : Token) → Type 0
SplitsAs f g t u = ((f ≡ g) × (t ≡ u)) ⊎ (((w : List Token) × (g ≡ f ++ (t ∷ w))) ⊎ ((w : List Token) × (f ≡ g ++ (u ∷ w))))

more_split : (f g : List Token) (t u v x : Token) → v ≡ x → SplitsAs f g t u → SplitsAs (v ∷ f) (x ∷ g) t u
more_split f g t u v x h1 h2 = grind arith

head_same : {v x : Token} {a b : List Token} → v ∷ a ≡ x ∷ b → v ≡ x
head_same e = cc

splits : (f y g z : List Token) (t u : Token) → f ++ (t ∷ y) ≡ g ++ (u ∷ z) → SplitsAs f g t u
splits [] y [] z t u e = inl (refl, head_same e)
splits [] y (x ∷ g) z t u e = inr (inl (g, ap (λ l. l ∷ g) (sym (head_same e))))
splits (v ∷ f) y [] z t u e = inr (inr (f, ap (λ l. l ∷ f) (head_same e)))
splits (v ∷ f) y (x ∷ g) z t u e = more_split f g t u v x (head_same e) (splits f y g z t u (cc))

module _ (p : Profile) (limit : ℕ) (ts : List Token) where
  -- it stops at one token
  one_stop : (f g : List Token) (t u : Token) → StopsAt p limit ts f t → StopsAt p limit ts g u → (f ≡ g) × (t ≡ u)
  one_stop f g t u a b = go (splits f a.y g b.y t u (sym a.split ∙ b.split))
    where
      go : SplitsAs f g t u → (f ≡ g) × (t ≡ u)
      go (inl h) = h
      go (inr (inl (w, h))) = absurd (a.here (front_goes p limit 0 (f ++ (t ∷ [])) w (rw append_assoc (subst (GoesOn p limit) h b.before))))
      go (inr (inr (w, h))) = absurd (b.here (front_goes p limit 0 (g ++ (u ∷ [])) w (rw append_assoc (subst (GoesOn p limit) h a.before))))

  stop_goes_not : (f : List Token) (t : Token) → StopsAt p limit ts f t → GoesOn p limit ts → ⊥
  stop_goes_not f t s g = s.here (front_goes p limit 0 (f ++ (t ∷ [])) s.y (rw append_assoc (subst (GoesOn p limit) s.split g)))

  apart : (f g : List Token) (t u : Token) → (f ≡ g) × (t ≡ u) → GoesOnAtAnyDepth p (f ++ (t ∷ [])) → (GoesOnAtAnyDepth p (g ++ (u ∷ [])) → ⊥) → ⊥
  apart f g t u e h never = never (subst (GoesOnAtAnyDepth p) (ap (λ l. l ++ (t ∷ [])) e.0 ∙ ap (λ v. g ++ (v ∷ [])) e.1) h)

  place : (f g : List Token) (t u : Token) (i j : ℕ) → (f ≡ g) × (t ≡ u) → i ≡ t.start → j ≡ u.start → i ≡ j
  place f g t u i j e a b = a ∙ ap (λ (v : Token). v.start) e.1 ∙ sym b

  -- LAW: not two
  pub not_two : (end i j : ℕ) (r s : EdnReason) → IsSyntaxError p limit end ts i r → IsSyntaxError p limit end ts j s → (i ≡ j) × (r ≡ s)
  not_two end i j UnexpectedEnd UnexpectedEnd a b = (a.0 ∙ sym b.0, refl)
  not_two end i j UnexpectedEnd UnexpectedToken a b = absurd (stop_goes_not b.0 b.1 b.2 a.1)
  not_two end i j UnexpectedEnd TooDeep a b = absurd (stop_goes_not b.0 b.1 b.2 a.1)
  not_two end i j UnexpectedToken UnexpectedEnd a b = absurd (stop_goes_not a.0 a.1 a.2 b.1)
  not_two end i j TooDeep UnexpectedEnd a b = absurd (stop_goes_not a.0 a.1 a.2 b.1)
  not_two end i j UnexpectedToken UnexpectedToken a b = (place a.0 b.0 a.1 b.1 i j (one_stop a.0 b.0 a.1 b.1 a.2 b.2) a.3 b.3, refl)
  not_two end i j TooDeep TooDeep a b = (place a.0 b.0 a.1 b.1 i j (one_stop a.0 b.0 a.1 b.1 a.2 b.2) a.3 b.3, refl)
  not_two end i j TooDeep UnexpectedToken a b = absurd (apart a.0 b.0 a.1 b.1 (one_stop a.0 b.0 a.1 b.1 a.2 b.2) a.4 b.4)
  not_two end i j UnexpectedToken TooDeep a b = absurd (apart b.0 a.0 b.1 a.1 (one_stop b.0 a.0 b.1 a.1 b.2 a.2) b.4 a.4)
  not_two end i j UnexpectedEnd s a b = absurd b
  not_two end i j UnexpectedToken s a b = absurd b
  not_two end i j TooDeep s a b = absurd b
  not_two end i j r s a b = absurd a

-- LAW: larger limits and profile 2 accept no less
pub larger_limit : (p : Profile) (limit most : ℕ) (ts : List Token) → limit ≤ most → HasTree p limit ts → HasTree p most ts
larger_limit p limit most ts low (us, l, h) = let t = parsed p limit ts us l h in has_tree p most ts t.tree t.parse (omega (arith, t.shallow))

pub both_profiles : (ts : List Token) (t : Input) → Parse ProfileOne ts t → Parse ProfileTwo ts t
both_profiles ts t h = record { is = h.is; allowed = tt }
