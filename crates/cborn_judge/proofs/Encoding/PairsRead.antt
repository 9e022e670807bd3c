-- Pairs that lie in a buffer are read where their marks say.
use Rattle.std.specs.Prelude.{◌≡◌, ◌+◌, ◌-◌, ◌<◌, ◌≤◌, ◌∷◌, ◌++◌, ◌==◌}
use Rattle.cborn_judge.proofs.Common.{ℕ, inl, inr, List, [], length, map, take, drop, refl, sym, ap, ◌∙◌, subst, arith, append_assoc, take_at, drop_at, length-append, Bool, true, false, true≢false, flat_map, AllByRecursion, eqb-true, take-add, drop-drop, take-append-drop, AreBytes, joined, Row, row_entries, Mark, AreMarked, between, key_of, pair_of, row_of, IsIn, bytes-left, bytes-right, get_or, set, get_or-map, length-map, map-set, set_at, get_or-append_seam}
use Rattle.cborn_judge.proofs.SameKeys.{LieBefore}

pub marked_read : (b y : List ℕ) (rows : List Row) (ms : List Mark) (p : ℕ) → p ≡ length y → b ≡ y ++ joined (row_entries rows) → AreMarked p rows ms → map (row_of b) ms ≡ rows
marked_read b y [] [] p q e a = refl
marked_read b y (r ∷ rows) (m ∷ ms) p q e a =
    let k : List ℕ = r.1 in
    let v : List ℕ = r.2 in
    let beyond : List ℕ = joined (row_entries rows) in
    let here : drop p b ≡ k ++ (v ++ beyond) = ap (drop p) e ∙ drop_at y ((k ++ v) ++ beyond) p (sym q) ∙ append_assoc k v beyond in
    let apart : b ≡ (y ++ k) ++ (v ++ beyond) = e ∙ ap (λ z. y ++ z) (append_assoc k v beyond) ∙ sym (append_assoc y k (v ++ beyond)) in
    let after : drop (p + length k) b ≡ v ++ beyond = ap (drop (p + length k)) apart ∙ drop_at (y ++ k) (v ++ beyond) (p + length k) (omega (arith, q, length-append y k)) in
    let one : (p + length k) - p ≡ length k = omega arith in
    let two : (p + length k + length v) - (p + length k) ≡ length v = omega arith in
    let key : between p (p + length k) b ≡ k = (λ i. take (one i) (here i)) ∙ take_at k (v ++ beyond) (length k) refl in
    let value : between (p + length k) (p + length k + length v) b ≡ v = (λ i. take (two i) (after i)) ∙ take_at v beyond (length v) refl in
    let row : row_of b m ≡ r = ap (row_of b) a.0 ∙ (λ i. (r.0, key i, value i)) in
    let rest : map (row_of b) ms ≡ rows =
    marked_read b (y ++ (k ++ v)) rows ms (p + length k + length v) (omega (arith, q, length-append y (k ++ v), length-append k v)) (e ∙ sym (append_assoc y (k ++ v) beyond)) a.1 in
    λ i. row i ∷ rest i
marked_read b y _ _ p q e a = absurd a

-- each begins at this place or after it
marked_from : (rows : List Row) (ms : List Mark) (p : ℕ) (z : Mark) → AreMarked p rows ms → IsIn z ms → p ≤ z.1
marked_from (r ∷ rows) (m ∷ ms) p z a (inl e) = let f : z.1 ≡ p = ap (λ (x : Mark). x.1) (e ∙ a.0) in omega arith
marked_from (r ∷ rows) (m ∷ ms) p z a (inr i) = let f = marked_from rows ms (p + length r.1 + length r.2) z a.1 i in omega arith
marked_from [] [] p z a i = absurd i
marked_from _ _ p z a i = absurd a

abbrev pub is_filled : List ℕ → Bool
is_filled [] = false
is_filled (b ∷ bs) = true

pub filled : (k : List ℕ) → (k ≡ [] → ⊥) → is_filled k ≡ true
filled [] n = absurd (n refl)
filled (b ∷ bs) n = refl

pub not_empty : (k : List ℕ) → is_filled k ≡ true → k ≡ [] → ⊥
not_empty k f e = true≢false (sym f ∙ ap is_filled e)

some_long : (k : List ℕ) → is_filled k ≡ true → 0 < length k
some_long k h1 = grind (arith, true≢false)

abbrev pub begin_of : Mark → ℕ
begin_of m = m.1

-- one whose key isn't empty begins before those after it
pub marked_rise : (b : List ℕ) (rows : List Row) (ms : List Mark) (p : ℕ) → map (row_of b) ms ≡ rows → AreMarked p rows ms → LieBefore is_filled (key_of b) begin_of ms
marked_rise b [] [] p e a = tt
marked_rise b (r ∷ rows) (m ∷ ms) p e a =
    let row : row_of b m ≡ r = cc in
    let rest : map (row_of b) ms ≡ rows = cc in
    let key : key_of b m ≡ r.1 = ap (λ (x : Row). x.1) row in
    let begin : m.1 ≡ p = ap (λ (x : Mark). x.1) a.0 in (
      (λ z i f. let from = marked_from rows ms (p + length r.1 + length r.2) z a.1 i in let long = some_long r.1 (ap is_filled (sym key) ∙ f) in omega arith),
      marked_rise b rows ms (p + length r.1 + length r.2) rest a.1,
    )
marked_rise b _ _ p e a = absurd a

-- a pair is its key and its value
abbrev pub IsSplit : List ℕ → Mark → Type 0
IsSplit b m = pair_of b m ≡ between m.1 m.2 b ++ between m.2 m.3 b

split_at : (b : List ℕ) (s m e : ℕ) → s ≤ m → m ≤ e → between s e b ≡ between s m b ++ between m e b
split_at b s m e l k =
    let whole : e - s ≡ (m - s) + (e - m) = omega arith in
    let from : drop (m - s) (drop s b) ≡ drop m b = drop-drop (m - s) s b ∙ ap (λ n. drop n b) (omega arith) in
    ap (λ n. take n (drop s b)) whole ∙ take-add (m - s) (e - m) (drop s b) ∙ ap (λ z. between s m b ++ take (e - m) z) from

pub marked_split : (b : List ℕ) (rows : List Row) (ms : List Mark) (p : ℕ) → AreMarked p rows ms → AllByRecursion (IsSplit b) ms
marked_split b [] [] p a = tt
marked_split b (r ∷ rows) (m ∷ ms) p a = (
  subst (IsSplit b) (sym a.0) (split_at b p (p + length r.1) (p + length r.1 + length r.2) (omega arith) (omega arith)),
  marked_split b rows ms (p + length r.1 + length r.2) a.1,
)
marked_split b _ _ p a = absurd a

pub all_split : (b : List ℕ) (ms : List Mark) → AllByRecursion (IsSplit b) ms → flat_map (pair_of b) ms ≡ joined (row_entries (map (row_of b) ms))
all_split b [] h = refl
all_split b (m ∷ ms) h = let rest = all_split b ms h.1 in λ i. h.0 i ++ rest i

pub empty : (k : List ℕ) → length k == 0 ≡ true → k ≡ []
empty [] e = refl
empty (b ∷ bs) e = absurd (let f : length (b ∷ bs) ≡ 0 = eqb-true (length (b ∷ bs)) 0 e in omega arith)

pub bytes_between : (b : List ℕ) (s e : ℕ) → AreBytes b → AreBytes (between s e b)
bytes_between b s e h =
    let after : AreBytes (drop s b) = bytes-right (take s b) (drop s b) (subst AreBytes (sym (take-append-drop s b)) h) in
    bytes-left (take (e - s) (drop s b)) (drop (e - s) (drop s b)) (subst AreBytes (sym (take-append-drop (e - s) (drop s b))) after)

-- ---- the mark of the last pair is read and written

module _ {X Y : Type 0} (f : X → Y) (xs : List X) (n : ℕ) (ms : List Y) (y : Y) (long : n ≡ length xs) (e : map f xs ≡ ms ++ y ∷ []) where
  here : length ms ≡ n - 1
  here = let l = ap length e in omega (arith, long, l, length-map xs f, length-append ms (y ∷ []))

  pub last_read : (d : X) → f (get_or xs (n - 1) d) ≡ y
  last_read d =
      let l = ap length e in
      sym (get_or-map f xs (n - 1) d y (omega (arith, long, l, length-map xs f, length-append ms (y ∷ [])))) ∙ (λ j. get_or (e j) (sym here j) y) ∙ get_or-append_seam ms y [] y

  pub last_written : (x : X) (z : Y) → f x ≡ z → map f (set xs (n - 1) x) ≡ ms ++ z ∷ []
  last_written x z u = map-set f xs (n - 1) x ∙ (λ j. set (e j) (n - 1) (u j)) ∙ set_at ms y [] z (n - 1) here
