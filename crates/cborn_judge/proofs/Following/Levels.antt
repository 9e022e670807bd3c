-- What is known of a partial sequence once one more item begins, is whole, or is opened.
use Rattle.std.specs.Prelude.{◌≡◌, ◌∷◌, ◌++◌, ⊤}
use Rattle.cborn_judge.proofs.Common.{ℕ, suc, List, [], map, Bool, true, false, Option, None, Some, inl, inr, refl, sym, ap, ◌∙◌, subst, arith, append-nil, same_from_push, InArray, AtKey, puts, AllByRecursion, Ordering, Tree, Size, slice_range}
use Rattle.cborn_model.specs.Partial.{Partial, top, inside, Opening, an_array, a_map, a_tag, in_chunks, put, built, Ends, IsFree, Proper}
use Rattle.cborn_model.specs.Tree.{place}
use Rattle.cborn_judge.specs.declared.open_maps.OpenMap.{OpenMap}
use Rattle.cborn_judge.specs.devices.Rising.{key_before, fresh, RisesAbove, BeginsAt, Begins, TakesPair, IsRisingMap}
use Rattle.cborn_judge.specs.devices.Following.{opening_place, IsShort, IsPlace, IsDue, BeginsIn, IsOwn, IsTight, IsIn, IsNext, IsLevel, Knows, Leaves}

all_more : (P : Tree → Type 0) (ts : List Tree) (t : Tree) → AllByRecursion P ts → P t → AllByRecursion P (ts ++ t ∷ [])
all_more P [] t h p = (p, tt)
all_more P (u ∷ us) t h p = (h.0, all_more P us t h.1 p)

-- where nodes begin, and one more
places_more : (ts : List Tree) (t : Tree) (p : ℕ) → place t ≡ p → map place ts ++ p ∷ [] ≡ map place (ts ++ t ∷ []) ++ []
places_more [] t p e = ap (λ q. q ∷ []) (sym e)
places_more (u ∷ us) t p e = ap (λ l. place u ∷ l) (places_more us t p e)

-- a string fs a whole takes the place of a node
pub built_place : (o : Opening) (ts : List Tree) → place (built o ts) ≡ opening_place o
built_place (an_array p s c) ts = refl
built_place (a_map p s c) ts = refl
built_place (a_tag p w n) ts = refl
built_place (in_chunks p k) ts = grind arith

two_more : (ts : List Tree) (k v : Tree) (p q : ℕ) → place k ≡ p → place v ≡ q → map place ts ++ p ∷ q ∷ [] ≡ map place ((ts ++ k ∷ []) ++ v ∷ []) ++ []
two_more [] k v p q e i = ap (λ z. z ∷ q ∷ []) (sym e) ∙ ap (λ z. place k ∷ z ∷ []) (sym i)
two_more (u ∷ us) k v p q e i = ap (λ l. place u ∷ l) (two_more us k v p q e i)

-- an array or a tag
abbrev pub IsInner : Opening → Type 0
IsInner (an_array p s c) = ⊤
IsInner (a_tag p w n) = ⊤
IsInner o = ⊥

module _ (order : List ℕ → List ℕ → Ordering) (x : List ℕ) where
  map_began : (a : OpenMap) (before : Option (List ℕ)) (ps : List ℕ) (p : ℕ) (b : OpenMap) → IsRisingMap order x a before ps → Begins order x a p b → IsRisingMap order x b before (ps ++ p ∷ [])
  map_began a before [] p b (n, e) h =
      let g = subst (λ z. BeginsAt order x z a p b) n h in
      (ap (λ f. f.at_value) g, ap (λ f. f.key) g, ap (λ f. key_before x f.before) g ∙ e)
  map_began a before (k ∷ []) p b (n, e, f) h =
      let g = subst (λ z. BeginsAt order x z a p b) n h in
      let rises = subst (λ q. RisesAbove order before (slice_range x q p)) e (subst (λ s. RisesAbove order s (slice_range x a.key p)) f g.0) in
      (rises, (g.2, g.3 ∙ ap (λ q. Some (slice_range x q p)) e))
  map_began a before (k ∷ v ∷ ps) p b (r, h) g = (r, map_began a (Some (slice_range x k v)) ps p b h g)

  same_around : (a : OpenMap) (p : ℕ) (b : OpenMap) → Begins order x a p b → b.around ≡ a.around
  same_around a p b h = around_at a.at_value h where
    around_at : (v : Bool) → BeginsAt order x v a p b → b.around ≡ a.around
    around_at false g = ap (λ f. f.around) g
    around_at true g = g.1

  map_paired : (a : OpenMap) (before : Option (List ℕ)) (ps : List ℕ) (p q : ℕ) (b : OpenMap) → IsRisingMap order x a before ps → TakesPair order x a p q b → IsRisingMap order x b before (ps ++ p ∷ q ∷ [])
  map_paired a before [] p q b (v, e) (none, key) = (subst (λ s. RisesAbove order s (slice_range x p q)) e key.0, (key.2 ∙ none, key.3))
  map_paired a before (k ∷ []) p q b (v, e, f) (none, key) = let z : true ≡ false = sym v ∙ none in cc
  map_paired a before (k ∷ v ∷ ps) p q b (r, h) g = (r, map_paired a (Some (slice_range x k v)) ps p q b h g)

  abbrev Around : Partial → Opening → List OpenMap → OpenMap → ℕ → Type 0
  Around f o fs a n = Knows order x fs a n f (opening_place o ∷ [])

  -- no bytes of a bignum come next
  at_place : (f : Partial) → IsFree f → IsDue false f → IsPlace f
  at_place (top ts) free due = tt
  at_place (inside f (an_array q s c) ts) free due = tt
  at_place (inside f (a_map q s c) ts) free due = tt
  at_place (inside f (a_tag q w n) []) free (inl m) = let z : false ≡ true = m.1 in cc
  at_place (inside f (a_tag q w n) []) free (inr m) = (m.0, m.1)
  at_place (inside f (a_tag q w n) (t ∷ ts)) free due = let z : t ∷ ts ≡ [] = free.0.2 in cc
  at_place (inside f (in_chunks q k) ts) free due = tt

  level_began : (fs : List OpenMap) (a : OpenMap) (n : ℕ) (o : Opening) (ts : List Tree) (p : ℕ) (b : OpenMap) (K : List OpenMap → OpenMap → ℕ → Type 0)
      → IsLevel order x fs a n o (map place ts ++ []) K → BeginsIn order x n a p b → IsLevel order x fs b n o (map place ts ++ p ∷ []) K
  level_began fs a n (an_array q s c) ts p b K (m, e, around) h = (m, e, subst (λ z. K fs z m) (sym (subst (λ k. BeginsIn order x k a p b) e h)) around)
  level_began fs a n (a_tag q w t) ts p b K (m, e, around) h = (m, e, subst (λ z. K fs z m) (sym (subst (λ k. BeginsIn order x k a p b) e h)) around)
  level_began fs a n (a_map q s c) ts p b K (e, rising, (cs, d, is, around)) h =
      let g = subst (λ k. BeginsIn order x k a p b) e h in
      (e, map_began a None (map place ts) p b (subst (IsRisingMap order x a None) (append-nil (map place ts)) rising) g, (cs, d, is, subst (K cs d) (sym (same_around a p b g)) around))
  level_began fs a n (in_chunks q k) ts p b K level h = absurd level

  pub began : (fs : List OpenMap) (a : OpenMap) (n : ℕ) (f : Partial) (p : ℕ) (b : OpenMap) → Knows order x fs a n f [] → IsDue false f → IsFree f → BeginsIn order x n a p b → Knows order x fs b n f (p ∷ []) × IsPlace f
  began fs a n (top ts) p b known due free h = (known, tt)
  began fs a n (inside f o ts) p b (short, own, at, level) due free h = ((short, own, at, level_began fs a n o ts p b (Around f o) level h), at_place (inside f o ts) free due)

  pub whole : (fs : List OpenMap) (a : OpenMap) (n : ℕ) (f : Partial) (p : ℕ) (t : Tree) → Knows order x fs a n f (p ∷ []) → place t ≡ p → IsNext order x f t → Knows order x fs a n (put f t) []
  whole fs a n (top ts) p t (one, own) e h = (one, all_more (IsOwn order x) ts t own h)
  whole fs a n (inside f o ts) p t (short, own, at, level) e h = (short, all_more (IsIn order x o) ts t own h, at, subst (λ ps. IsLevel order x fs a n o ps (Around f o)) (places_more ts t p e) level)

  pub own_next : (f : Partial) (t : Tree) → IsPlace f → IsOwn order x t → IsNext order x f t
  own_next (top ts) t at h = h
  own_next (inside f (an_array p s c) ts) t at h = h
  own_next (inside f (a_map p s c) ts) t at h = h
  own_next (inside f (a_tag p w n) ts) t at h = (h, λ tag. absurd (elim tag [ inl e ↦ at.0 e | inr e ↦ at.1 e ]))
  own_next (inside f (in_chunks p k) ts) t at h = h

  -- once something is in a container, no bytes of a bignum are to come
  pub due_after : (f : Partial) (t : Tree) (m : Bool) → m ≡ false → IsDue m (put f t)
  due_after (top ts) t m e = e
  due_after (inside f (an_array p s c) ts) t m e = e
  due_after (inside f (a_map p s c) ts) t m e = e
  due_after (inside f (a_tag p w n) []) t m e = e
  due_after (inside f (a_tag p w n) (u ∷ us)) t m e = e
  due_after (inside f (in_chunks p k) ts) t m e = e

  -- nor once it has ended
  pub due_ended : (f : Partial) (o : Opening) (ts : List Tree) (m : Bool) → Ends o ts → IsDue m (inside f o ts) → m ≡ false
  due_ended f (an_array p s c) ts m ends due = due
  due_ended f (a_map p s c) ts m ends due = due
  due_ended f (a_tag p w n) [] m (t, e) due = let z : [] ≡ t ∷ [] = e in cc
  due_ended f (a_tag p w n) (t ∷ ts) m ends due = due
  due_ended f (in_chunks p k) ts m ends due = due

  pub opened : (fs : List OpenMap) (a : OpenMap) (n : ℕ) (f : Partial) (p : ℕ) (o : Opening) → Knows order x fs a n f (p ∷ []) → IsPlace f → opening_place o ≡ p → IsShort o → IsInner o → Knows order x fs a (suc n) (inside f o []) []
  opened fs a n f p (an_array q s c) k at e short i = (short, tt, at, (n, refl, subst (λ q. Knows order x fs a n f (q ∷ [])) (sym e) k))
  opened fs a n f p (a_tag q w t) k at e short i = (short, tt, at, (n, refl, subst (λ q. Knows order x fs a n f (q ∷ [])) (sym e) k))
  opened fs a n f p (a_map q s c) k at e short i = absurd i
  opened fs a n f p (in_chunks q s) k at e short i = absurd i

  pub map_opened : (fs : List OpenMap) (a : OpenMap) (n : ℕ) (f : Partial) (p : ℕ) (s : Size) (c : Option ℕ) → Knows order x fs a n f (p ∷ []) → IsPlace f → IsShort (a_map p s c) → Knows order x (fs ++ a ∷ []) (fresh n) 0 (inside f (a_map p s c) []) []
  map_opened fs a n f p s c k at short = (short, tt, at, (refl, (refl, refl), (fs, a, refl, k)))

  -- a string may be next where an item may, since nothing is known inside one of indefinite length
  pub free_of : (fs : List OpenMap) (a : OpenMap) (n : ℕ) (f : Partial) (ps : List ℕ) → Knows order x fs a n f ps → Proper f → IsFree f
  free_of fs a n (top ts) ps k proper = (proper, tt)
  free_of fs a n (inside f (an_array p s c) ts) ps k proper = (proper, tt)
  free_of fs a n (inside f (a_map p s c) ts) ps k proper = (proper, tt)
  free_of fs a n (inside f (a_tag p w t) ts) ps k proper = (proper, tt)
  free_of fs a n (inside f (in_chunks p s) ts) ps k proper = absurd k.0

  -- the bytes of a bignum come next
  pub magnitude : (fs : List OpenMap) (a : OpenMap) (n : ℕ) (f : Partial) (p : ℕ) → Knows order x fs a n f [] → IsFree f → IsDue true f → Knows order x fs a n f (p ∷ []) × ((t : Tree) → IsOwn order x t → IsTight order x t → IsNext order x f t)
  magnitude fs a n (top ts) p k free due = cc
  magnitude fs a n (inside f (an_array q s c) ts) p k free due = cc
  magnitude fs a n (inside f (a_map q s c) ts) p k free due = cc
  magnitude fs a n (inside f (a_tag q w t) []) p (short, own, at, level) free due = ((short, own, at, level), λ t h tight. (h, λ tag. tight))
  magnitude fs a n (inside f (a_tag q w t) (u ∷ us)) p k free due = let z : u ∷ us ≡ [] = free.0.2 in cc
  magnitude fs a n (inside f (in_chunks q s) ts) p k free due = absurd k.0

  -- what is around a container of which nothing is open inside it
  pub left : (fs : List OpenMap) (a : OpenMap) (n : ℕ) (o : Opening) (ps : List ℕ) (K : List OpenMap → OpenMap → ℕ → Type 0) (gs : List OpenMap) (g : OpenMap) (m : ℕ) → IsLevel order x fs a n o ps K → Leaves fs a n gs g m → K gs g m
  left fs a n (an_array p s c) ps K gs g m (l, e, around) h =
      let (i, j, k) = subst (λ z. Leaves fs a z gs g m) e h in
      subst (K gs g) (sym i) (subst (λ z. K gs z l) (sym k) (subst (λ z. K z a l) (sym j) around))
  left fs a n (a_tag p w t) ps K gs g m (l, e, around) h =
      let (i, j, k) = subst (λ z. Leaves fs a z gs g m) e h in
      subst (K gs g) (sym i) (subst (λ z. K gs z l) (sym k) (subst (λ z. K z a l) (sym j) around))
  left fs a n (a_map p s c) ps K gs g m (e, rising, (bs, b, is, around)) h =
      let (i, j) = subst (λ z. Leaves fs a z gs g m) e h in
      let same = same_from_push gs bs g b (sym j ∙ is) in
      subst (K gs g) (sym i) (subst (λ z. K gs z a.around) (sym same.1) (subst (λ z. K z b a.around) (sym same.0) around))
  left fs a n (in_chunks p k) ps K gs g m level h = absurd level

  pub closed : (fs : List OpenMap) (a : OpenMap) (n : ℕ) (gs : List OpenMap) (g : OpenMap) (m : ℕ) (f : Partial) (o : Opening) (ts : List Tree) → Knows order x fs a n (inside f o ts) [] → Leaves fs a n gs g m → IsOwn order x (built o ts) → Knows order x gs g m (put f (built o ts)) []
  closed fs a n gs g m f o ts (short, own, at, level) l h =
      whole gs g m f (opening_place o) (built o ts) (left fs a n o (map place ts ++ []) (Around f o) gs g m level l) (built_place o ts) (own_next f (built o ts) at h)

  -- a key and its value
  pub paired_leaves : (fs : List OpenMap) (a b : OpenMap) (n : ℕ) (f : Partial) (p q : ℕ) (k v : Tree) → AtKey f → Knows order x fs a n f [] → TakesPair order x a p q b → place k ≡ p → place v ≡ q → IsOwn order x k → IsOwn order x v → Knows order x fs b n (put (put f k) v) []
  paired_leaves fs a b n (inside f (a_map r s c) ts) p q k v at (short, own, free, (e, rising, (cs, d, is, around))) h ek ev ok ov =
      let us : List Tree = ts ++ k ∷ [] in
      let pairs = map_paired a None (map place ts) p q b (subst (IsRisingMap order x a None) (append-nil (map place ts)) rising) h in
      (short, all_more (IsOwn order x) us v (all_more (IsOwn order x) ts k own ok) ov, free, (e, subst (IsRisingMap order x b None) (two_more ts k v p q ek ev) pairs, (cs, d, is, subst (λ m. Knows order x cs d m f (r ∷ [])) (sym h.1.1) around)))
  paired_leaves fs a b n f p q k v at known h ek ev ok ov = absurd at

  -- several items of an array
  pub array_leaves : (fs : List OpenMap) (a : OpenMap) (n : ℕ) (f : Partial) (ts : List Tree) → InArray f → Knows order x fs a n f [] → AllByRecursion (IsOwn order x) ts → Knows order x fs a n (puts f ts) []
  array_leaves fs a n f [] at known own = known
  array_leaves fs a n (inside f (an_array r s c) us) (t ∷ ts) at (short, all, free, level) own =
      array_leaves fs a n (inside f (an_array r s c) (us ++ t ∷ [])) ts tt (short, all_more (IsOwn order x) us t all own.0, free, level) own.1
  array_leaves fs a n f (t ∷ ts) at known own = absurd at
