-- What is found by a loop over marks that looks at the hints for the keys first.
use Rattle.std.specs.Prelude.{◌≡◌, ◌+◌, ◌-◌, ◌<◌, ◌≤◌, ◌⊎◌, ◌∷◌, ◌++◌, ◌==◌, ◌*◌, ◌/◌, ◌^◌}
use Rattle.cborn_judge.proofs.Common.{ℕ, suc, inl, inr, List, [], length, get_or, set, nat_lt, add-one, map, take, refl, sym, ap, ◌∙◌, subst, arith, true, false, true≢false, Option, None, Some, Ordering, Less, AllByRecursion, take-set, take_more_set, get_or-set_same, length-set, ltb-true, map-set_same, AreBytes, IsEarliest, defect_rank, KeyOrder, FindsDefect, Tells, Mark, key_of, all_keyed, IsFall, last_filled, FallAt, FallsIn, Met, AreHinted, AreHintedBy, is_above, is_lt, ⊤, drop, IsPermutation, IsKeyOrder, All_moved, All-same, All-append, All-take, All-drop, All-from_recursion, recursion_from_All, All-from_get_or, get_or-take, get_or-drop, length-take, zero, pow-suc, mul-le-mul_right, Equal, IfSome, nat_cmp_is, nat_cmp, ordering_then, cases_lt, le-ltb, bytewise, length_first, order_of, front_of, length_hint, hint_of, lt-ltb}
use Rattle.cborn_judge.specs.declared.defects.Defect.{Defect}
use Rattle.cborn_model.specs.declared.orders.KnownOrder.{KnownOrder}
use Rattle.cborn_model.specs.declared.orders.KnownOrder.TheVariants as known
use Rattle.cborn_judge.proofs.Encoding.PairsRead.{empty, bytes_between}
use Rattle.cborn_judge.proofs.Encoding.PairsMet.{IsMet, met-take_more}

pub none_first : {X : Type 0} (key : X → ℕ × ℕ) (o : Option X) → IsEarliest key o None o
none_first key None = refl
none_first key (Some x) = refl

pub all_more : {X : Type 0} (P : X → Type 0) (xs : List X) (x : X) → AllByRecursion P xs → P x → AllByRecursion P (xs ++ x ∷ [])
all_more P [] x h p = (p, tt)
all_more P (y ∷ xs) x h p = (h.0, all_more P xs x h.1 p)

-- What a look at a key at a higher place than x would find comes after x.
pub fall_after : (order : List ℕ → List ℕ → Ordering) (k l : List ℕ) (place : ℕ) (x : Defect) → x.place < place → (o : Option Defect) × FindsDefect (FallAt order k l place) o × IsEarliest (λ d. (d.place, defect_rank d.reason)) (Some x) o (Some x)
fall_after order [] l place x less = (None, λ p r f. f.1.0 refl, refl)
fall_after order (b ∷ k) [] place x less = (None, λ p r f. f.1.1 refl, refl)
fall_after order (b ∷ k) (c ∷ l) place x less = go (order (b ∷ k) (c ∷ l)) refl
  where
    found : (order (b ∷ k) (c ∷ l) ≡ Less → ⊥) → (o : Option Defect) × FindsDefect (FallAt order (b ∷ k) (c ∷ l) place) o × IsEarliest (λ d. (d.place, defect_rank d.reason)) (Some x) o (Some x)
    found high = (
      Some (record { place = place; reason = KeyOrder }),
      record { is = (refl, ((λ e. cc), (λ e. cc), refl, high)); first = λ q s f. inr (sym f.1.2, omega (arith, ap defect_rank f.0)) },
      (inl refl, inr (refl, omega arith), inl less),
    )

    go : (e : Ordering) → order (b ∷ k) (c ∷ l) ≡ e → (o : Option Defect) × FindsDefect (FallAt order (b ∷ k) (c ∷ l) place) o × IsEarliest (λ d. (d.place, defect_rank d.reason)) (Some x) o (Some x)
    go Less e = (None, λ p r f. f.1.3 e, refl)
    go n e = found (λ is. cc)

module _ {S : Type 0} (seen : S → Mark) (hinted : S → ℕ) (b : List ℕ) where
  module _ (order : List ℕ → List ℕ → Ordering) (hint : List ℕ → ℕ) where
    abbrev FallsMet : List S → List ℕ → Option Defect → Type 0
    FallsMet ss = IsMet (IsFall order) last_filled defect_rank (λ d. d.place) (λ d. d.reason) KeyOrder (all_keyed b (map seen ss))

    -- what a loop has done that writes hints, and remembers the last of the first i keys that has an encoding, its hint, and the first fall
    pub record FallsPassed (old now : List S) (i : ℕ) (before : List ℕ) (last : ℕ) (first : Option Defect) : Type 0 where
      pub kept : map seen now ≡ map seen old
      pub hints : AreHintedBy hinted seen hint b (take i now)
      pub last_hint : last ≡ hint before
      pub bytes : AreBytes before
      pub met : FallsMet (take i now) before first

    -- by its hint the next key is above the last, or both are compared
    abbrev pub Looks : List ℕ → List ℕ → ℕ → ℕ → Option Defect → Option Defect → Type 0
    Looks before key last place first next = ((last < hint key) × (next ≡ first)) ⊎ ((o : Option Defect) × FindsDefect (FallAt order before key place) o × IsEarliest (λ d. (d.place, defect_rank d.reason)) first o next)

    -- the next key is remembered if it has an encoding
    abbrev pub Remembers : List ℕ → List ℕ → ℕ → List ℕ → ℕ → Type 0
    Remembers before key last next after = ((length key == 0 ≡ false) × (next ≡ key) × (after ≡ hint key)) ⊎ ((length key == 0 ≡ true) × (next ≡ before) × (after ≡ last))

    next_filled : (before key : List ℕ) → length key == 0 ≡ false → last_filled before key ≡ key
    next_filled before key h1 = grind (arith, true≢false)

    remembers : (before key : List ℕ) (last : ℕ) (next : List ℕ) (after : ℕ) → last ≡ hint before → Remembers before key last next after → (next ≡ last_filled before key) × (after ≡ hint next)
    remembers before key last next after h1 h2 = grind (arith, empty, next_filled)

    no_fall : Tells order hint → (before key : List ℕ) (place : ℕ) → AreBytes before → AreBytes key → hint before < hint key → FindsDefect (FallAt order before key place) None
    no_fall tells before key place h i l p r f = f.1.3 (tells before key h i l)

    filled_bytes : (c d : List ℕ) → AreBytes c → AreBytes d → AreBytes (last_filled c d)
    filled_bytes c [] x y = x
    filled_bytes c (d ∷ ds) x y = y

    pub falls_passed : Tells order hint → (old now : List S) (i : ℕ) (d t : S) (m : Mark) (before key next : List ℕ) (last after : ℕ) (first found : Option Defect)
        → i < length now → m ≡ seen (get_or now i d) → key ≡ key_of b m → AreBytes key → seen t ≡ seen (get_or now i d) → hinted t ≡ hint key
        → FallsPassed old now i before last first → Looks before key last m.0 first found → Remembers before key last next after
        → FallsPassed old (set now i t) (i + 1) next after found
    falls_passed tells old now i d t m before key next last after first found l q k bs u h p look r = record {
      kept = map-set_same seen now i t d u ∙ p.kept;
      hints = subst (AreHintedBy hinted seen hint b) (sym (take_more_set now i t l)) (all_more (λ x. hinted x ≡ hint (key_of b (seen x))) (take i now) t p.hints (h ∙ ap hint (k ∙ ap (key_of b) (q ∙ sym u))));
      last_hint = rest.1;
      bytes = subst AreBytes (sym rest.0) (filled_bytes before key p.bytes bs);
      met = subst (λ z. FallsMet (take (i + 1) (set now i t)) z found) (sym rest.0) (elim look [
        | inl skip ↦ step None (no_fall tells before key m.0 p.bytes bs (omega (arith, skip.0, p.last_hint))) (subst (IsEarliest (λ d. (d.place, defect_rank d.reason)) first None) (sym skip.1) (none_first (λ d. (d.place, defect_rank d.reason)) first))
        | inr o ↦ step o.0 o.1 o.2
      ]);
    }
      where
        rest : (next ≡ last_filled before key) × (after ≡ hint next)
        rest = remembers before key last next after p.last_hint r

        step : (o : Option Defect) → FindsDefect (FallAt order before key m.0) o → IsEarliest (λ d. (d.place, defect_rank d.reason)) first o found → FallsMet (take (i + 1) (set now i t)) (last_filled before key) found
        step o f g =
            met-take_more (IsFall order) last_filled defect_rank (λ d. d.place) (λ d. d.reason) KeyOrder seen b (set now i t) i t m before key first o found
            (omega (arith, l, length-set now i t)) (sym (get_or-set_same now i t t l)) (q ∙ sym u) k (subst (λ z. FallsMet z before first) (sym (take-set now i t)) p.met) f g

    -- ---- keys that rise

    -- each key is above the one before it
    abbrev AreAbove : List ℕ → List S → Type 0
    AreAbove k [] = ⊤
    AreAbove k (s ∷ ss) = (order k (key_of b (seen s)) ≡ Less) × AreAbove (key_of b (seen s)) ss

    low_next : (k key : List ℕ) → (k ≡ []) ⊎ (order k key ≡ Less) → (last_filled k key ≡ []) ⊎ ((last_filled k key ≡ key) ⊎ (order (last_filled k key) key ≡ Less))
    low_next k key h1 = grind arith

    none_met : IsKeyOrder order → (k before : List ℕ) (ss : List S) (p : ℕ) → (k ≡ []) ⊎ ((k ≡ before) ⊎ (order k before ≡ Less)) → AreAbove before ss → Met (IsFall order) last_filled k (all_keyed b (map seen ss)) p → ⊥
    none_met laws k before [] p low h m = m
    none_met laws k before (s ∷ ss) p low h m =
        let key = key_of b (seen s) in
        let next : (k ≡ []) ⊎ (order k key ≡ Less) = elim low [
          | inl e ↦ inl e
          | inr r ↦ inr (elim r [ inl e ↦ subst (λ z. order z key ≡ Less) (sym e) h.0 | inr l ↦ laws.along k before key l h.0 ])
        ] in
        elim m [
          | inl f ↦ elim next [ inl e ↦ f.0 e | inr l ↦ f.3 l ]
          | inr r ↦ none_met laws (last_filled k key) key ss p (low_next k key next) h.1 r
        ]

    less_is : (o : Ordering) → true ≡ is_lt o → o ≡ Less
    less_is o h1 = grind (arith, true≢false)

    above_by : Tells order hint → AreBytes b → (s t : S) → hinted s ≡ hint (key_of b (seen s)) → hinted t ≡ hint (key_of b (seen t)) → true ≡ is_above hinted seen order b s t → order (key_of b (seen s)) (key_of b (seen t)) ≡ Less
    above_by h1 h2 s t h3 h4 h5 = grind (arith, bytes_between, is_lt, less_is, ltb-true, nat_lt)

    above_from : Tells order hint → AreBytes b → (s : S) (ss : List S) → AreHintedBy hinted seen hint b (s ∷ ss)
        → ((k : ℕ) (d : S) → k + 1 < length (s ∷ ss) → true ≡ is_above hinted seen order b (get_or (s ∷ ss) k d) (get_or (s ∷ ss) (k + 1) d)) → AreAbove (key_of b (seen s)) ss
    above_from tells bytes s [] a h = tt
    above_from tells bytes s (t ∷ ss) a h = (
      above_by tells bytes s t a.0 a.1.0 (h 0 s (omega arith)),
      above_from tells bytes t ss a.1 (λ k d e. rw add-one (rw add-one at (h (suc k) d (omega (arith, e))))),
    )

    pub none_fall : IsKeyOrder order → Tells order hint → AreBytes b → (ss : List S) → AreHintedBy hinted seen hint b ss
        → ((k : ℕ) (d : S) → k + 1 < length ss → true ≡ is_above hinted seen order b (get_or ss k d) (get_or ss (k + 1) d)) → FindsDefect (FallsIn order b (map seen ss)) None
    none_fall laws tells bytes [] a h p r f = f.1
    none_fall laws tells bytes (s ∷ ss) a h p r f =
        let key = key_of b (seen s) in
        elim f.1 [
          | inl g ↦ g.0 refl
          | inr m ↦ none_met laws (last_filled [] key) key ss p (low_next [] key (inl refl)) (above_from tells bytes s ss a h) m
        ]

-- ---- marks that are rearranged

pub hinted_moved : {S : Type 0} (seen : S → Mark) (hinted : S → ℕ) (b : List ℕ) (order : List ℕ → List ℕ → Ordering) (ss ts : List S) → IsPermutation ss ts → AreHinted hinted seen order b ss → AreHinted hinted seen order b ts
hinted_moved seen hinted b order ss ts p (hint, tells, a) = (hint, tells, All_moved (λ s. hinted s ≡ hint (key_of b (seen s))) ss ts p a)

-- those of a run of equal hints

module _ {S : Type 0} (seen : S → Mark) (hinted : S → ℕ) (b : List ℕ) (hint : List ℕ → ℕ) (n : ℕ) where
  abbrev HaveHint : List S → Type 0
  HaveHint = AllByRecursion (λ s. hinted s ≡ n)

  abbrev IsHinted : S → Type 0
  IsHinted s = hinted s ≡ hint (key_of b (seen s))

  to_keys : (ss : List S) → AreHintedBy hinted seen hint b ss → HaveHint ss → AllByRecursion (λ m. n ≡ hint (key_of b m)) (map seen ss)
  to_keys [] a h = tt
  to_keys (s ∷ ss) a h = (sym h.0 ∙ a.0, to_keys ss a.1 h.1)

  from_keys : (ss : List S) → AllByRecursion (λ m. n ≡ hint (key_of b m)) (map seen ss) → HaveHint ss → AreHintedBy hinted seen hint b ss
  from_keys [] a h = tt
  from_keys (s ∷ ss) a h = (h.0 ∙ a.0, from_keys ss a.1 h.1)

  pub run_hinted : (start len : ℕ) (old part new : List S) → HaveHint (take len (drop start old)) → IsPermutation (map seen (take len (drop start old))) (map seen part) → HaveHint part → new ≡ take start old ++ (part ++ drop len (drop start old))
      → AreHintedBy hinted seen hint b old → AreHintedBy hinted seen hint b new
  run_hinted start len old part new h p k e a =
      let all = All-from_recursion IsHinted old a in
      let rest = All-drop IsHinted start old all in
      let run = recursion_from_All IsHinted (take len (drop start old)) (All-take IsHinted len (drop start old) rest) in
      let moved = All_moved (λ m. n ≡ hint (key_of b m)) (map seen (take len (drop start old))) (map seen part) p (to_keys (take len (drop start old)) run h) in
      let inside = All-from_recursion IsHinted part (from_keys part moved k) in
      recursion_from_All IsHinted new (All-same IsHinted new _ e (All-append IsHinted (take start old) _ (All-take IsHinted start old all) (All-append IsHinted part _ inside (All-drop IsHinted len (drop start old) rest))))

-- the marks from one index to another have one hint
abbrev pub AreOfOneHint : {S : Type 0} → (S → ℕ) → ℕ → ℕ → List S → Type 0
AreOfOneHint {S} hinted start last ss = (j : ℕ) (d : S) → start ≤ j → j ≤ last → last < length ss → hinted (get_or ss j d) ≡ hinted (get_or ss last d)

pub one_hint : {S : Type 0} (hinted : S → ℕ) (start last : ℕ) (ss : List S) → start ≤ last → last < length ss → AreOfOneHint hinted start last ss → (n : ℕ) × AllByRecursion (λ s. hinted s ≡ n) (take (last + 1 - start) (drop start ss))
one_hint hinted start last [] l m h = absurd (omega (arith, m))
one_hint {S} hinted start last (x ∷ xs) l m h = (hinted (get_or (x ∷ xs) last x), recursion_from_All (λ s. hinted s ≡ hinted (get_or (x ∷ xs) last x)) run (All-from_get_or (λ s. hinted s ≡ hinted (get_or (x ∷ xs) last x)) run x one))
  where
    run : List S
    run = take (last + 1 - start) (drop start (x ∷ xs))

    one : (i : ℕ) → i < length run → hinted (get_or run i x) ≡ hinted (get_or (x ∷ xs) last x)
    one i k =
        let most : i < last + 1 - start = omega (arith, k, length-take (last + 1 - start) (drop start (x ∷ xs))) in
        ap hinted (get_or-take (last + 1 - start) (drop start (x ∷ xs)) i x most ∙ get_or-drop start (x ∷ xs) i x) ∙ h (start + i) x (omega arith) (omega (arith, most, l)) m

-- ---- keys rise as their hints do, where these differ

front_below : (n : ℕ) (x : List ℕ) → AreBytes x → front_of n x < 256 ^ n
front_below zero x h = omega arith
front_below (suc n) [] h = let p = front_below n [] tt in let q : 0 < 256 ^ n = omega (arith, p) in rw (pow-suc) (omega (arith, q))
front_below (suc n) (b ∷ x) h =
    let low = front_below n x h.1 in
    let top : b * 256 ^ n ≤ 255 * 256 ^ n = mul-le-mul_right (256 ^ n) (let l : b ≤ 255 = omega (arith, h.0) in l) in
    rw (pow-suc) (omega (arith, low, top))

less_then : (a b : ℕ) (o : Ordering) → a < b → ordering_then (nat_cmp a b) o ≡ Less
less_then a b o l = ap (λ p. ordering_then p o) (sym (nat_cmp_is a b Less l))

same_then : (a b : ℕ) (o : Ordering) → a ≡ b → ordering_then (nat_cmp a b) o ≡ o
same_then a b o e = ap (λ p. ordering_then p o) (sym (nat_cmp_is a b Equal e))

-- what the high parts of two numbers say
higher : (a b p r s : ℕ) → a < b → r < p → a * p + r < b * p + s
higher a b p r s l h = let k : suc a * p ≤ b * p = mul-le-mul_right p l in omega (arith, k)

front_tells : (n : ℕ) → Tells bytewise (front_of n)
front_tells (suc n) [] (b ∷ l) h i m = refl
front_tells (suc n) (a ∷ k) (b ∷ l) h i m =
    elim (cases_lt a b) [
      | inl less ↦ less_then a b (bytewise k l) less
      | inr least ↦ elim (cases_lt b a) [
        | inl more ↦ absurd (let q = higher b a (256 ^ n) (front_of n l) (front_of n k) more (front_below n l i.1) in omega (arith, q, m))
        | inr as_much ↦
            let same : a ≡ b = omega arith in
            let high : a * 256 ^ n ≡ b * 256 ^ n = ap (λ z. z * 256 ^ n) same in
            same_then a b (bytewise k l) same ∙ front_tells n k l h.1 i.1 (omega (arith, high, m))
      ]
    ]
front_tells _ _ _ h i m = absurd (omega arith)

short_hint : (k : List ℕ) → length k < 255 → length_hint k ≡ length k * 2 ^ 56 + front_of 8 k / 256
short_hint k l = rw (lt-ltb (length k) 255 l) refl

long_hint : (k : List ℕ) → 255 ≤ length k → length_hint k ≡ 255 * 2 ^ 56
long_hint k l = rw (le-ltb (length k) 255 l) refl

rest_below : (k : List ℕ) → AreBytes k → front_of 8 k / 256 < 2 ^ 56
rest_below k h = let l = front_below 8 k h in omega (arith, l)

length_tells : Tells length_first length_hint
length_tells k l h i m =
    elim (cases_lt (length k) (length l)) [
      | inl less ↦ less_then (length k) (length l) (bytewise k l) less
      | inr least ↦ elim (cases_lt (length k) 255) [
        | inr long ↦ absurd (let e = long_hint k (omega arith) in elim (cases_lt (length l) 255) [ inl s ↦ (let f = short_hint l s in let r = rest_below l i in omega (arith, e, f, r, m)) | inr s ↦ (let f = long_hint l (omega arith) in omega (arith, e, f, m)) ])
        | inl short ↦
            let e = short_hint k short in
            let f = short_hint l (omega arith) in
            let r = rest_below l i in
            let same : length k ≡ length l = omega (arith, least, e, f, r, m) in
            same_then (length k) (length l) (bytewise k l) same ∙ front_tells 8 k l h i (omega (arith, e, f, same, m))
      ]
    ]

-- the hint by an order that is known, and 0 by others
pub hint_tells : (order : List ℕ → List ℕ → Ordering) (known : Option KnownOrder) → IfSome known (λ k. order ≡ order_of k) → Tells order (hint_of known)
hint_tells order None e = λ k l h i m. absurd (omega arith)
hint_tells order (Some known.Bytewise) e = subst (λ z. Tells z (front_of 8)) (sym e) (front_tells 8)
hint_tells order (Some known.LengthFirst) e = subst (λ z. Tells z length_hint) (sym e) length_tells
