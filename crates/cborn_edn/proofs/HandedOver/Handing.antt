-- One event is handed over: to the innermost speller, or to the visitor.
use Rattle.std.specs.Prelude.{◌≡◌, ◌∷◌, ◌<◌, ◌^◌}
use Rattle.cborn_edn.proofs.Common.{arith, refl, sym, ap, ◌∙◌, subst, ℕ, List, [], true, false, length, AreBytes, IsFree, IsWritten, Speller, is_nil, Event, Holds, Follows, Stack, in_row, in_key, in_value, in_tag, Nest, at_top, in_array, in_embed, State, nodes_before, noted, listed_trees, front_of, row_front, Handed, AllHanded, Hands, InnermostFollows, EventFits as Fits}
use Rattle.cborn_edn.proofs.HandedOver.Fitting.{fits_after}

-- what is true of each visitor is true of the innermost
pub stays : (h : Holds) (ps : List Speller) (s u : State) (ss : List State) → ((k : Holds) → Handed k s → Handed k u) → AllHanded h ps (s ∷ ss) → AllHanded h ps (u ∷ ss)
stays h [] s u [] f t = f h t
stays h [] s u (v ∷ ss) f t = t
stays h (p ∷ ps) s u ss f t = (f (IsWritten p) t.0, t.1)

-- after a meaning error nothing has to be held
pub silenced : (h : Holds) (ps : List Speller) (s u : State) (ss : List State) → (noted u ≡ [] → ⊥) → AllHanded h ps (s ∷ ss) → AllHanded h ps (u ∷ ss)
silenced h ps s u ss f = stays h ps s u ss (λ k t q. absurd (f q))

-- the event may be handed over with this content, which is bytes
abbrev pub MayCome : Event → List ℕ → Type 0
MayCome event x = Fits event x × AreBytes x × (length x < 2 ^ 64)

-- an event leads from one state to the next
pub followed : (h k : Holds) (event : Event) (place : ℕ) (x : List ℕ) (s u : State) → MayCome event x → Follows event place x h k → Hands event place x s u → Handed h s → Handed k u
followed h k event place x s u h1 h2 h3 h4 = grind (arith, fits_after)

-- outside of each `<<`
pub outside : (h k : Holds) (event : Event) (place : ℕ) (x : List ℕ) (s u : State) (ps : List Speller) (ss : List State) → is_nil ps ≡ true → MayCome event x → Follows event place x h k → Hands event place x s u → AllHanded h ps (s ∷ ss) → AllHanded k ps (u ∷ ss)
outside h k event place x s u [] [] e may f hands t = followed h k event place x s u may f hands t
outside h k event place x s u [] (v ∷ ss) e may f hands t = t
outside h k event place x s u (p ∷ ps) ss e may f hands t = absurd (let bad : false ≡ true = e in cc)

-- inside of one
pub inside : (h : Holds) (event : Event) (place : ℕ) (x : List ℕ) (s u : State) (ps qs : List Speller) (ss : List State) → is_nil ps ≡ false → MayCome event x → InnermostFollows event place x ps qs → Hands event place x s u → AllHanded h ps (s ∷ ss) → AllHanded h qs (u ∷ ss)
inside h event place x s u [] qs ss e may step hands t = absurd (let bad : true ≡ false = e in cc)
inside h event place x s u (p ∷ ps) qs ss e may step hands t = let d = step p ps refl in subst (λ (l : List Speller). AllHanded h l (u ∷ ss)) (sym d.1) (followed (IsWritten p) (IsWritten d.0) event place x s u may d.2 hands t.0, t.1)

-- the innermost took an event, and the others stay
pub taken : (event : Event) (place : ℕ) (x : List ℕ) (one other : Speller) (all rest new : List Speller) → all ≡ one ∷ rest → new ≡ other ∷ rest → Follows event place x (IsWritten one) (IsWritten other) → InnermostFollows event place x all new
taken event place x one other all rest new e f step p ps g =
    let same : one ∷ rest ≡ p ∷ ps = sym e ∙ g in
    let first : one ≡ p = cc in
    let others : rest ≡ ps = cc in
    (other, f ∙ ap (λ l. other ∷ l) others, subst (λ (y : Speller). Follows event place x (IsWritten y) (IsWritten other)) first step)

-- an item may be next in what is open
mutual
  pub free : (st : Stack) → IsFree (front_of st)
  free (in_row n b) = free_row n (listed_trees (nodes_before b))
  free (in_key st s m b) = let f = free st in ((f.0, f.1, tt), tt)
  free (in_value st s m b k c) = let f = free st in ((f.0, f.1, tt), tt)
  free (in_tag st s n m) = let f = free st in ((f.0, f.1, refl), tt)

  pub free_row : (n : Nest) (ts : _) → IsFree (row_front n ts)
  free_row at_top ts = (tt, tt)
  free_row (in_array st s m) ts = let f = free st in ((f.0, f.1, tt), tt)
  free_row (in_embed h o s) ts = (tt, tt)
