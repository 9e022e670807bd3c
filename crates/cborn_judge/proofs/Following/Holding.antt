-- What a follower holds after each head, and at the end.
use Rattle.std.specs.Prelude.{◌≡◌, ◌+◌, ◌∷◌, ◌++◌}
use Rattle.cborn_judge.proofs.Common.{ℕ, List, [], length, Bool, true, false, Option, Some, inl, inr, refl, sym, ap, ◌∙◌, subst, append-nil, append_assoc, AllByRecursion, Ordering, take, drop, take_at, drop_at, AreBytes, Size, Width, WidthFits, least, head_bytes, StringKind, OfBytes, OfText, Tree, place, trees, spelled_all, PlacedAll, Opening, Partial, top, inside, a_map, an_array, no_part, Ends, IsFree, Proper, built, put, puts, string_tree, AtKey, InArray, IsKeyOrder, AreEncodedAs, IsContent, IsLoose, IsByteString, Fixed}
use Rattle.cborn_model.specs.Partial.{part, CountFits}
use Rattle.cborn_judge.proofs.Following.Levels.{IsInner, began, whole, opened, map_opened, closed, due_after, due_ended, free_of, magnitude, own_next, paired_leaves, array_leaves}
use Rattle.cborn_judge.proofs.Following.Nodes.{string_own, built_own, items_own}
use Rattle.cborn_judge.specs.declared.followers.Follower.{Follower}
use Rattle.cborn_judge.specs.declared.open_maps.OpenMap.{OpenMap}
use Rattle.cborn_judge.specs.devices.Rising.{fresh, TakesPair}
use Rattle.cborn_judge.specs.devices.Following.{opening_place, outer, inner, BeginsIn, IsDue, IsPlace, IsShort, IsCounted, StandsAt, IsOwn, IsNext, Knows, IsHeld, Began, Entered, MapEntered, IsLeft, PairTaken, StringBegan}

pub counted_fits : (s : Size) (c : Option ℕ) → IsCounted s c → CountFits s c → (n : ℕ) × (s ≡ Fixed (least n)) × (c ≡ Some n) × WidthFits (least n) n
counted_fits s c (n, e, i) fits = (n, e, i, subst {A = Size × Option ℕ} (λ z. CountFits z.0 z.1) (λ j. (e j, i j)) fits)

pub short_tag : (w : Width) (n : ℕ) → WidthFits w n → w ≡ least n → (w ≡ least n) × WidthFits (least n) n
short_tag w n fits e = (e, subst (λ v. WidthFits v n) e fits)

-- where a key comes next no bytes of a bignum do
key_due : (f : Partial) → AtKey f → (m : Bool) → IsDue m f → m ≡ false
key_due (inside f (a_map p s c) ts) at m due = due
key_due f at m due = absurd at

items_due : (f : Partial) (ts : List Tree) → InArray f → (m : Bool) → IsDue m f → IsDue m (puts f ts)
items_due f [] at m due = due
items_due (inside f (an_array p s c) us) (t ∷ ts) at m due = items_due (inside f (an_array p s c) (us ++ t ∷ [])) ts tt m due
items_due f (t ∷ ts) at m due = absurd at

module _ {O I : Type 0} {most : ℕ} (order : List ℕ → List ℕ → Ordering) (x : List ℕ) (v k : Follower O I most) (f : Partial) where
  -- what is known once an item began, as which these are open
  item_began : (p : ℕ) (fs : List OpenMap) (a : OpenMap) → (v.bytes.now ≡ x) × (Knows order x (outer v) (inner v) v.inside f [] × IsDue v.magnitude f) → v.magnitude ≡ false → IsFree f → BeginsIn order v.bytes.now v.inside (inner v) p a → fs ≡ outer v
      → Knows order x fs a v.inside f (p ∷ []) × IsPlace f
  item_began p fs a (is, known) none free begins same =
      subst (λ gs. Knows order x gs a v.inside f (p ∷ []) × IsPlace f) (sym same) (began order x (outer v) (inner v) v.inside f p a known.0 (subst (λ m. IsDue m f) none known.1) free (subst (λ y. BeginsIn order y v.inside (inner v) p a) is begins))

  pub leaf_held : (p : ℕ) (sound : Bool) (t : Tree) → Began order v k p sound → IsHeld order x v f no_part → IsFree f → place t ≡ p → (sound ≡ true → IsOwn order x t) → IsHeld order x k (put f t) no_part
  leaf_held p sound t b h free e own d =
      let (kept, good, none, due, within, same, begins) = b d in
      let g = item_began p (outer k) (inner k) (h kept.0) none free begins same in
      (ap (λ b. b.now) kept.1 ∙ (h kept.0).0, (whole order x (outer k) (inner k) k.inside f p t (subst (λ n. Knows order x (outer k) (inner k) n f (p ∷ [])) (sym within) g.0) e (own_next order x f t g.1 (own good)), due_after order x f t k.magnitude due))

  pub entered_held : (p : ℕ) (sound m : Bool) (o : Opening) → Entered order v k p sound m → IsHeld order x v f no_part → IsFree f → opening_place o ≡ p → (sound ≡ true → IsShort o) → IsInner o → IsDue m (inside f o []) → IsHeld order x k (inside f o []) no_part
  entered_held p sound m o b h free e short inner_one due d =
      let (kept, good, none, is, within, same, begins) = b d in
      let g = item_began p (outer k) (inner k) (h kept.0) none free begins same in (
        ap (λ b. b.now) kept.1 ∙ (h kept.0).0,
        (subst (λ n. Knows order x (outer k) (inner k) n (inside f o []) []) (sym within) (opened order x (outer k) (inner k) v.inside f p o g.0 g.1 e (short good) inner_one), subst (λ z. IsDue z (inside f o [])) (sym is) due),
      )

  pub map_held : (p : ℕ) (sound : Bool) (s : Size) (c : Option ℕ) → MapEntered order v k p sound → IsHeld order x v f no_part → IsFree f → (sound ≡ true → IsShort (a_map p s c)) → IsHeld order x k (inside f (a_map p s c) []) no_part
  map_held p sound s c b h free short d =
      let (kept, good, none, due, within, innermost, (a, more, begins)) = b d in
      let g = item_began p (outer v) a (h kept.0) none free begins refl in
      let o = map_opened order x (outer v) a v.inside f p s c g.0 g.1 (short good) in (
        ap (λ b. b.now) kept.1 ∙ (h kept.0).0,
        (subst (λ n. Knows order x (outer k) (inner k) n (inside f (a_map p s c) []) []) (sym within) (subst (λ z. Knows order x (outer k) z 0 (inside f (a_map p s c) []) []) (sym innermost) (subst (λ fs. Knows order x fs (fresh v.inside) 0 (inside f (a_map p s c) []) []) (sym more) o)), due),
      )

  pub closed_held : IsKeyOrder order → (o : Opening) (ts : List Tree) → IsLeft v k → IsHeld order x v (inside f o ts) no_part → Ends o ts → IsHeld order x k (put f (built o ts)) no_part
  closed_held laws o ts l h ends d =
      let (kept, due, leaves) = l d in
      let (is, before) = h kept.0 in
      let known = before.0 in (
        ap (λ b. b.now) kept.1 ∙ is,
        (
          closed order x (outer v) (inner v) v.inside (outer k) (inner k) k.inside f o ts known leaves (built_own order x laws (outer v) (inner v) v.inside o ts (λ bs b m. Knows order x bs b m f (opening_place o ∷ [])) ends known.0 known.1 known.3),
          due_after order x f (built o ts) k.magnitude (due ∙ due_ended order x f o ts v.magnitude ends before.1),
        ),
      )

  -- a string with the content y began, as which it stands in the input
  pub string_began : (p : ℕ) (s : StringKind) (w : Width) (y : List ℕ) → StringBegan order v k p s w y → WidthFits w (length y) → IsHeld order x v f no_part → Proper f → k.departed ≡ false
      → (k.bytes.now ≡ x) × Knows order x (outer k) (inner k) k.inside f (p ∷ []) × (k.magnitude ≡ false) × ((b : List ℕ) → length b ≡ length y → (StandsAt order x (string_tree p s w b) → y ≡ b) → IsNext order x f (string_tree p s w b))
  string_began p s w y b fits h proper d =
      let (kept, due, within, same, short, how) = b d in
      let held = h kept.0 in
      let is = held.0 in
      let known = held.1.0 in
      let free = free_of order x (outer v) (inner v) v.inside f [] known proper in
      let own : (b : List ℕ) → length b ≡ length y → (StandsAt order x (string_tree p s w b) → IsContent s b) → IsOwn order x (string_tree p s w b) =
      λ b e content. string_own order x p s w b (subst (WidthFits w) (sym e) fits) (short ∙ ap least (sym e)) content in
      let keep : Knows order x (outer k) (inner k) v.inside f (p ∷ []) → Knows order x (outer k) (inner k) k.inside f (p ∷ []) = subst (λ n. Knows order x (outer k) (inner k) n f (p ∷ [])) (sym within) in
      elim how [
        | inl (e, bytes, tight, one) ↦
            let m = magnitude order x (outer v) (inner v) v.inside f p known free (subst (λ z. IsDue z f) e held.1.1) in (
              ap (λ b. b.now) kept.1 ∙ is,
              keep (subst (λ z. Knows order x (outer k) z v.inside f (p ∷ [])) (sym one) (subst (λ z. Knows order x z (inner v) v.inside f (p ∷ [])) (sym same) m.0)),
              due,
              λ b e at. m.1 (string_tree p s w b) (own b e (λ st. subst (λ z. IsContent z b) (sym bytes) tt)) (λ st. (b, subst (λ z. IsByteString (string_tree p z w b) b) (sym bytes) refl, λ loose. tight (subst IsLoose (sym (at st)) loose))),
            )
        | inr (none, content, begins) ↦
            let m = item_began p (outer k) (inner k) held none free begins same in
            (ap (λ b. b.now) kept.1 ∙ is, keep m.0, due, λ b e at. own_next order x f (string_tree p s w b) m.1 (own b e (λ st. subst (IsContent s) (at st) content)))
      ]

-- the content of a string in the input
stands_after : (x front h b rest : List ℕ) (p n l : ℕ) → x ≡ (front ++ (h ++ b)) ++ rest → p ≡ length front → length h ≡ n → length b ≡ l → take l (drop n (drop p x)) ≡ b
stands_after x front h b rest p n l e i j k =
    let before : drop p x ≡ (h ++ b) ++ rest = ap (drop p) (e ∙ append_assoc front (h ++ b) rest) ∙ drop_at front ((h ++ b) ++ rest) p (sym i) in
    ap (take l) (ap (drop n) (before ∙ append_assoc h b rest) ∙ drop_at h (b ++ rest) n j) ∙ take_at b rest l k

content_stands : (order : List ℕ → List ℕ → Ordering) (x : List ℕ) (p : ℕ) (s : StringKind) (w : Width) (b : List ℕ) (n l : ℕ) → ((m i : ℕ) → length (head_bytes m w i) ≡ n) → length b ≡ l → StandsAt order x (string_tree p s w b) → take l (drop n (drop p x)) ≡ b
content_stands order x p OfBytes w b n l long e s = stands_after x s.front (head_bytes 2 w (length b)) b s.rest p n l s.is s.placed (long 2 (length b)) e
content_stands order x p OfText w b n l long e s = stands_after x s.front (head_bytes 3 w (length b)) b s.rest p n l s.is s.placed (long 3 (length b)) e

module _ {O I : Type 0} {most : ℕ} (order : List ℕ → List ℕ → Ordering) (x : List ℕ) (v k : Follower O I most) (f : Partial) (p : ℕ) (s : StringKind) (w : Width) (y : List ℕ) (b : StringBegan order v k p s w y) (fits : WidthFits w (length y)) (h : IsHeld order x v f no_part) (proper : Proper f) where
  string_place : (k : StringKind) → place (string_tree p k w y) ≡ p
  string_place OfBytes = refl
  string_place OfText = refl

  pub string_held : IsHeld order x k (put f (string_tree p s w y)) no_part
  string_held d =
      let g = string_began order x v k f p s w y b fits h proper d in
      (g.0, (whole order x (outer k) (inner k) k.inside f p (string_tree p s w y) g.1 (string_place s) (g.3 y refl (λ st. refl)), due_after order x f (string_tree p s w y) k.magnitude g.2))

  -- its content is to come, after a head of n bytes
  pub part_held : (n l : ℕ) → ((m i : ℕ) → length (head_bytes m w i) ≡ n) → length y ≡ l → y ≡ take l (drop n (drop p v.bytes.now)) → IsHeld order x k f (part p s w l [])
  part_held n l long len is d =
      let g = string_began order x v k f p s w y b fits h proper d in
      let same : v.bytes.now ≡ x = (h (b d).0.0).0 in
      (g.0, (g.1, g.2, λ c e. g.3 c (e ∙ sym len) (λ st. is ∙ ap (λ z. take l (drop n (drop p z))) same ∙ content_stands order x p s w c n l long e st)))

module _ {O I : Type 0} {most : ℕ} (order : List ℕ → List ℕ → Ordering) (x : List ℕ) (v k : Follower O I most) (f : Partial) where
  -- the value begins where its key ends
  pub pair_held : (p n : ℕ) (a b : Tree) → PairTaken order v k p n → IsHeld order x v f no_part → AtKey f → place a ≡ p → place b ≡ p + n → IsOwn order x a → IsOwn order x b → IsHeld order x k (put (put f a) b) no_part
  pair_held p n a b taken h at ea eb oa ob d =
      let (kept, due, within, same, pair) = taken d in
      let (is, before) = h kept.0 in
      let leaves = paired_leaves order x (outer v) (inner v) (inner k) v.inside f p (p + n) a b at before.0 (subst (λ z. TakesPair order z (inner v) p (p + n) (inner k)) is pair) ea eb oa ob in (
        ap (λ b. b.now) kept.1 ∙ is,
        (
          subst (λ n. Knows order x (outer k) (inner k) n (put (put f a) b) []) (sym within) (subst (λ fs. Knows order x fs (inner k) v.inside (put (put f a) b) []) (sym same) leaves),
          due_after order x (put f a) b k.magnitude (due ∙ key_due f at v.magnitude before.1),
        ),
      )

  pub items_held : (ts : List Tree) → IsHeld order x v f no_part → InArray f → AllByRecursion (IsOwn order x) ts → IsHeld order x v (puts f ts) no_part
  items_held ts h at own d = let (is, known) = h d in (is, (array_leaves order x (outer v) (inner v) v.inside f ts at known.0 own, items_due f ts at v.magnitude known.1))

-- At the end all that is whole are the encodings of what it means.
pub own_encodings : {O I : Type 0} {most : ℕ} (order : List ℕ → List ℕ → Ordering) (x : List ℕ) (v : Follower O I most) (ts : List Tree) → v.departed ≡ false → IsHeld order x v (top ts) no_part → AreBytes x → spelled_all (trees ts) ≡ x → PlacedAll 0 (trees ts) → AreEncodedAs order ts x
own_encodings order x v ts d h all e placed =
    subst (AreEncodedAs order ts) e (items_own order x all ts [] [] (h d).1.0.1 (sym e ∙ sym (append-nil (spelled_all (trees ts)))) placed)
