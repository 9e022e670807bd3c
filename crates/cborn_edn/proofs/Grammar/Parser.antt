-- The machine with its tests of the profile and the limit is a parser: it answers the tree, or the syntax error.
use Rattle.std.specs.Prelude.{◌⊎◌, ◌≡◌, ◌+◌, ◌≤◌, ◌∷◌, ◌++◌, ◌<◌}
use Rattle.cborn_edn.proofs.Common.{HasTree, EdnReason, inl, inr, refl, ap, ◌∙◌, sym, subst, ℕ, List, [], Bool, true, false, Option, Some, None, append_assoc, append-nil, leb, cond, arith, max, leb-true, leb-false, Token, Profile, AllowsCount, token, span, Input, depth_of_input, UnexpectedToken, TooDeep, Parse, GoesOn, IsSyntaxError, reach, ProfileOne, ProfileTwo, State, start, step, finish, held, open_levels, comma_at}
use Rattle.cborn_edn.proofs.Grammar.Held.{deep, commas_held, After, Grows}
use Rattle.cborn_edn.proofs.Grammar.Grows.{grows}
use Rattle.cborn_edn.proofs.Short.Rebuilt.{has_tree}
use Rattle.cborn_edn.proofs.Grammar.OneTree.{Leads, Ended, IfTree, ends_tree, held_by, good, goes_on, nothing_goes, no_tree, leads_on, same_end, stops}
-- The parser that the code is. Its tests look at the next token and at what is open alone.

pub use Rattle.cborn_edn.specs.devices.Machine.{Answer, forbids, at_end, checked, parse, Whole, HasSyntaxError}

-- what an answer of the parser means
abbrev pub Meets : Profile → ℕ → ℕ → List Token → Answer → Type 0
Meets p limit end ts (Whole t) = Parse p ts t × (depth_of_input t ≤ limit)
Meets p limit end ts (HasSyntaxError q r) = IsSyntaxError p limit end ts q r

allows_more : (p : Profile) (m n : ℕ) → forbids p n ≡ false → AllowsCount p m → AllowsCount p (m + n)
allows_more p m n h1 h2 = grind arith

forbidden : (p : Profile) (m n : ℕ) → forbids p n ≡ true → AllowsCount p (m + n) → ⊥
forbidden p m n h1 h2 = grind arith

module _ (p : Profile) (limit end : ℕ) where
  pub parse_meets : (y f : List Token) (s : State) → Leads f s → AllowsCount p (commas_held s) → deep s ≤ limit → Meets p limit end (f ++ y) (parse p limit end y s)
  parse_meets [] f s e a d = go (finish s) refl (ends_tree s)
    where
      go : (o : Option Input) → finish s ≡ o → IfTree o (Ended s) → Meets p limit end (f ++ []) (at_end end o)
      go None none h = (refl, rw append-nil (goes_on p limit f ((s, e, a, d))), rw append-nil (no_tree p limit f s e none))
      go (Some t) some h = (record { is = h.0 ∙ held_by f s e ∙ sym (append-nil f); allowed = rw h.2 a }, omega (arith, h.1))
  parse_meets (t ∷ y) f s e a d = go (step s t) refl (grows s t.class (span t)) (λ u next b c. rw append_assoc at (parse_meets y (f ++ (t ∷ [])) u (leads_on f t s u e next) b c))
    where
      Goal : Answer → Type 0
      Goal = Meets p limit end (f ++ (t ∷ y))

      go : (o : Option State) → step s t ≡ o → After o (Grows (held s) (max (deep s) (reach (open_levels s) t.class)) (commas_held s + comma_at s t.class) (token (span t) t.class))
          → ((u : State) → step s t ≡ Some u → AllowsCount p (commas_held u) → deep u ≤ limit → Meets p limit end (f ++ (t ∷ y)) (parse p limit end y u))
          → Meets p limit end (f ++ (t ∷ y)) (elim (checked p limit s t o) [ None ↦ HasSyntaxError t.start UnexpectedToken | Some u ↦ cond (leb (reach (open_levels s) t.class) limit) (parse p limit end y u) (HasSyntaxError t.start TooDeep) ])
      go None none g rest = (f, t, stops p limit end f y t s e a d (nothing_goes p limit f t s e none), refl, λ h. nothing_goes p h.0 f t s e none h.1)
      go (Some u) next g rest = choose (forbids p (comma_at s t.class)) refl (leb (reach (open_levels s) t.class) limit) refl
        where
          deeper : (m : ℕ) → GoesOn p m (f ++ (t ∷ [])) → AllowsCount p (commas_held u) × (deep u ≤ m)
          deeper m h =
              let k = good p m (f ++ (t ∷ [])) h in
              let same : k.0 ≡ u = same_end (f ++ (t ∷ [])) k.0 u k.1 (leads_on f t s u e next) in
              (subst (λ v. AllowsCount p (commas_held v)) same k.2, omega (arith, ap deep same, k.3))

          choose : (b : Bool) → forbids p (comma_at s t.class) ≡ b → (c : Bool) → leb (reach (open_levels s) t.class) limit ≡ c
              → Meets p limit end (f ++ (t ∷ y)) (elim (cond b None (Some u)) [ None ↦ HasSyntaxError t.start UnexpectedToken | Some v ↦ cond c (parse p limit end y v) (HasSyntaxError t.start TooDeep) ])
          choose true bad c low =
              let never = λ (m : ℕ) (h : GoesOn p m (f ++ (t ∷ []))). forbidden p (commas_held s) (comma_at s t.class) bad (subst (AllowsCount p) g.2 (deeper m h).0) in
              (f, t, stops p limit end f y t s e a d (never limit), refl, λ h. never h.0 h.1)
          choose false fine true low = rest u next (subst (AllowsCount p) (sym g.2) (allows_more p _ _ fine a)) (omega (arith, g.1, leb-true _ _ low))
          choose false fine false low =
              let far : limit < reach (open_levels s) t.class = leb-false _ _ low in (
                f,
                t,
                stops p limit end f y t s e a d (λ h. omega (arith, g.1, (deeper limit h).1)),
                refl,
                (deep u, goes_on p (deep u) (f ++ (t ∷ [])) ((u, leads_on f t s u e next, subst (AllowsCount p) (sym g.2) (allows_more p _ _ fine a), omega arith))),
              )

  -- the parser's answer is the tree within the limit, or the syntax error
  pub parses : (ts : List Token) → Meets p limit end ts (parse p limit end ts start)
  parses ts = parse_meets ts [] start refl (none p) (omega arith)
    where
      none : (p : Profile) → AllowsCount p (commas_held start)
      none ProfileOne = omega arith
      none ProfileTwo = tt

  -- LAW: tokens have a tree within the limit, or a syntax error
  pub answered : (ts : List Token) → HasTree p limit ts ⊎ ((q : ℕ) × (r : EdnReason) × IsSyntaxError p limit end ts q r)
  answered ts = go (parse p limit end ts start) (parses ts)
    where
      go : (a : Answer) → Meets p limit end ts a → HasTree p limit ts ⊎ ((q : ℕ) × (r : EdnReason) × IsSyntaxError p limit end ts q r)
      go (Whole t) h = inl (has_tree p limit ts t h.0 h.1)
      go (HasSyntaxError q r) h = inr (q, r, h)
