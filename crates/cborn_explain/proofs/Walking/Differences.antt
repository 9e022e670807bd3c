-- Where two inputs first differ, the same path leads in both.
use Rattle.std.specs.Prelude.{◌≡◌, ◌+◌, ◌^◌, ◌<◌, ◌≤◌, ◌∷◌, ◌++◌}
use Rattle.cborn_explain.proofs.Common.{sym, ap, ◌∙◌, subst, ℕ, zero, suc, List, [], length, take, drop, get_or, inl, inr, arith, length-append, cases_lt, length-take-le, take-append-drop, take_all, take_more, take-append_seam, Level, Step, path_of, place_at, IsWalked, EndsAt, LeadsTo, DifferFirstAt, up_to_key, LeadsToDifference}
use Rattle.cborn_explain.proofs.Walking.Levels.{some_path, front_ends}
use Rattle.cborn_explain.proofs.Walking.Whole.{near, walk_leads}

-- shorter fronts of what is the same are the same
pub nearer : (k n : ℕ) (x y : List ℕ) → k ≤ n → n ≤ length x → n ≤ length y → take n x ≡ take n y → take k x ≡ take k y
nearer k n x y below ours theirs same = sym (near k n x below ours) ∙ ap (take k) same ∙ near k n y below theirs

front_too : (n : ℕ) (x y g z : List ℕ) → n ≤ length x → n ≤ length y → take n x ≡ take n y → x ≡ g ++ z → length g ≤ n → y ≡ g ++ drop (length g) y
front_too n x y g z ours theirs same whole up =
    let is : take (length g) y ≡ g = sym (nearer (length g) n x y up ours theirs same) ∙ ap (take (length g)) whole ∙ take-append_seam g z in
    sym (take-append-drop (length g) y) ∙ ap (λ l. l ++ drop (length g) y) is

pub leads_too : (n : ℕ) (x y : List ℕ) (path : List Step) → n ≤ length x → n ≤ length y → take n x ≡ take n y → LeadsTo x n path → LeadsTo y n path
leads_too n x y path ours theirs same (f, z, whole, up, ends, longest) = (
  f,
  drop (length f) y,
  front_too n x y f z ours theirs same whole up,
  up,
  ends,
  λ g r other is low at. longest g (drop (length g) x) other (front_too n y x g r theirs ours (sym same) is low) low at,
)

last_of : (f g : List ℕ) (a b : ℕ) → f ++ a ∷ [] ≡ g ++ b ∷ [] → a ≡ b
last_of [] [] a b e = cc
last_of [] (c ∷ g) a b e = absurd (omega (arith, ap length e, length-append g (b ∷ [])))
last_of (c ∷ f) [] a b e = absurd (omega (arith, ap length e, length-append f (a ∷ [])))
last_of (c ∷ f) (d ∷ g) a b e = last_of f g a b (rest e)
  where
    rest : {x y : List ℕ} → c ∷ x ≡ d ∷ y → x ≡ y
    rest e = cc

last_same : (n : ℕ) (x y : List ℕ) → n < length x → n < length y → take (n + 1) x ≡ take (n + 1) y → get_or x n 0 ≡ get_or y n 0
last_same n x y ours theirs e = last_of (take n x) (take n y) (get_or x n 0) (get_or y n 0) (sym (take_more x n 0 ours) ∙ e ∙ take_more y n 0 theirs)

-- the first byte that isn't the same in both
pub differ_first : (n : ℕ) (x y : List ℕ) → n ≤ length x → n ≤ length y → take n x ≡ take n y → (n < length x → n < length y → get_or x n 0 ≡ get_or y n 0 → ⊥) → (n ≡ length x → n ≡ length y → ⊥) → DifferFirstAt x y n
differ_first n x y h1 h2 h3 h4 h5 = grind (arith, cases_lt, inl, inr, last_same, length, length-take-le, take, take_all)

some_key : (path : List Step) (k : ℕ) → 0 < length path → take k path ≡ up_to_key path → 0 < k
some_key [] k some e = absurd (omega (arith, some))
some_key (s ∷ path) zero some e = cc
some_key (s ∷ path) (suc k) some e = omega arith

pub difference_led : (x y : List ℕ) (n at k : ℕ) (ls : List Level) (path : List Step) → length x < 2 ^ 64 → DifferFirstAt x y n → IsWalked x n at ls → take k (path_of ls) ≡ up_to_key (path_of ls) → path ≡ take k (path_of ls)
    → LeadsToDifference x y (place_at ls k at) path
difference_led x y n at k ls path short (ours, theirs, same, more) w key is =
    let some = some_key (path_of ls) k (subst (λ l. 0 < length (path_of l)) w.kept (some_path w.partial)) key in
    let leads = walk_leads x n at ls short w in
    let ends = subst (λ l. (place_at l k at ≤ at) × EndsAt (take (place_at l k at) x) (take k (path_of l))) w.kept (front_ends x w.partial at k short w.opened some) in
    let here = subst (EndsAt (take (place_at ls k at) x)) (sym is) ends.1 in
    let below : place_at ls k at ≤ n = omega (arith, ends.0, w.low) in
    (n, path_of ls, (ours, theirs, same, more), leads, leads_too n x y (path_of ls) ours theirs same leads, is ∙ key, below, here, subst (λ f. EndsAt f path) (nearer (place_at ls k at) n x y below ours theirs same) here)
