-- Items of a slice, one by one: what is proper, and what is the same.
use Rattle.std.specs.Prelude.{◌≡◌, ◌+◌, ◌<◌, ◌∷◌, ◌++◌}
use Rattle.cborn_model.proofs.Common.{ℕ, zero, suc, List, [], map, length, get_or, refl, sym, ap, subst, ◌∙◌, arith, inl, inr, Item, item_value, pair_value, Value, dict, values_of, pairs_of, Same, SameValues, IsNew, HasNewKeys, IsProper, AreProper, HasProperPairs, HasPair, Gives, cases_lt, length-map, get_or_default, map-append}
use Rattle.cborn_model.proofs.Listed.Values.{pair_count-pairs_of, listed-pairs_of}
use Rattle.cborn_model.proofs.SameItems.Matching.{given_after, given_before, new_in_both, AllHave, matched, all_have, same_count}

abbrev pub values : List Item → List Value
values is = map item_value is

abbrev pub pairs : List (Item × Item) → List (Value × Value)
pairs ps = map pair_value ps

abbrev pub IsProperItem : Item → Type 0
IsProperItem i = IsProper (item_value i)

abbrev pub IsProperPair : Item × Item → Type 0
IsProperPair p = IsProper (item_value p.0) × IsProper (item_value p.1)

item_proper : (is : List Item) (n : ℕ) (x : Item) → n < length is → AreProper (values_of (values is)) → IsProperItem (get_or is n x)
item_proper [] n x l h = absurd (omega arith)
item_proper (i ∷ is) zero x l h = h.0
item_proper (i ∷ is) (suc n) x l h = item_proper is n x (omega arith) h.1

pub proper_item : (is : List Item) (n : ℕ) (x : Item) → n < length is → x ≡ get_or is n x → AreProper (values_of (values is)) → IsProper (item_value x)
proper_item is n x l e h = subst IsProperItem (sym e) (item_proper is n x l h)

pair_proper : (ps : List (Item × Item)) (n : ℕ) (x : Item × Item) → n < length ps → HasProperPairs (pairs_of (pairs ps)) → IsProperPair (get_or ps n x)
pair_proper [] n x l h = absurd (omega arith)
pair_proper (p ∷ ps) zero x l h = (h.0, h.1)
pair_proper (p ∷ ps) (suc n) x l h = pair_proper ps n x (omega arith) h.2

pub proper_pair : (ps : List (Item × Item)) (n : ℕ) (x : Item × Item) → n < length ps → x ≡ get_or ps n x → HasProperPairs (pairs_of (pairs ps)) → IsProper (item_value x.0) × IsProper (item_value x.1)
proper_pair ps n x l e h = subst IsProperPair (sym e) (pair_proper ps n x l h)

pub proper_parts : (ps qs : List (Item × Item)) → HasProperPairs (pairs_of (pairs (ps ++ qs))) → HasProperPairs (pairs_of (pairs ps)) × HasProperPairs (pairs_of (pairs qs))
proper_parts [] qs h = (tt, h)
proper_parts (p ∷ ps) qs h = let t = proper_parts ps qs h.2 in ((h.0, h.1, t.0), t.1)

-- ---- arrays

pub same_by_item : (is js : List Item) → length is ≡ length js → ((k : ℕ) (d : Item) → k < length is → Same (item_value (get_or is k d)) (item_value (get_or js k d))) → SameValues (values_of (values is)) (values_of (values js))
same_by_item [] [] e h = tt
same_by_item (i ∷ is) (j ∷ js) e h = (h 0 i (omega arith), same_by_item is js (omega arith) (λ k d l. h (suc k) d (omega arith)))
same_by_item _ _ e h = absurd (omega arith)

item_same : (is js : List Item) (n : ℕ) (x y : Item) → n < length is → n < length js → SameValues (values_of (values is)) (values_of (values js)) → Same (item_value (get_or is n x)) (item_value (get_or js n y))
item_same (i ∷ is) (j ∷ js) zero x y l m h = h.0
item_same (i ∷ is) (j ∷ js) (suc n) x y l m h = item_same is js n x y (omega arith) (omega arith) h.1
item_same _ _ n x y l m h = absurd (omega arith)

pub same_item : (is js : List Item) (n : ℕ) (x y : Item) → n < length is → n < length js → x ≡ get_or is n x → y ≡ get_or js n y → SameValues (values_of (values is)) (values_of (values js)) → Same (item_value x) (item_value y)
same_item is js n x y h1 h2 h3 h4 h5 = grind (arith, item_same)

pub same_length : (is js : List Item) → SameValues (values_of (values is)) (values_of (values js)) → length is ≡ length js
same_length [] [] h = refl
same_length (i ∷ is) (j ∷ js) h = ap suc (same_length is js h.1)
same_length _ _ h = absurd h

-- ---- maps

pub all_have_by_pair : (ps : List (Item × Item)) (qs : List (Value × Value)) → ((k : ℕ) (d : Item × Item) → k < length ps → HasPair (pair_value (get_or ps k d)) qs) → AllHave (pairs_of (pairs ps)) qs
all_have_by_pair [] qs h = tt
all_have_by_pair (p ∷ ps) qs h = (h 0 p (omega arith), all_have_by_pair ps qs (λ k d l. h (suc k) d (omega arith)))

pair_had : (ps : List (Item × Item)) (qs : List (Value × Value)) (n : ℕ) (x : Item × Item) → n < length ps → AllHave (pairs_of (pairs ps)) qs → HasPair (pair_value (get_or ps n x)) qs
pair_had [] qs n x l h = absurd (omega arith)
pair_had (p ∷ ps) qs zero x l h = h.0
pair_had (p ∷ ps) qs (suc n) x l h = pair_had ps qs n x (omega arith) h.1

pub has_at : (ps : List (Item × Item)) (qs : List (Value × Value)) (n : ℕ) (x : Item × Item) → n < length ps → x ≡ get_or ps n x → AllHave (pairs_of (pairs ps)) qs → HasPair (pair_value x) qs
has_at ps qs n x l e h = subst (λ (z : Item × Item). HasPair (pair_value z) qs) (sym e) (pair_had ps qs n x l h)

pub new_by_pair : (k : Value) (ps : List (Item × Item)) → ((n : ℕ) (d : Item × Item) → n < length ps → Same k (item_value (get_or ps n d).0) → ⊥) → IsNew k (pairs_of (pairs ps))
new_by_pair k [] h = tt
new_by_pair k (p ∷ ps) h = (h 0 p (omega arith), new_by_pair k ps (λ n d l. h (suc n) d (omega arith)))

pair_given : (k : Value) (ps : List (Item × Item)) (n : ℕ) (x : Item × Item) → n < length ps → Same k (item_value (get_or ps n x).0) → Gives k (item_value (get_or ps n x).1) (pairs ps)
pair_given k [] n x l h = absurd (omega arith)
pair_given k (p ∷ ps) zero x l h = inl (h, refl)
pair_given k (p ∷ ps) (suc n) x l h = inr (pair_given k ps n x (omega arith) h)

pub gives_at : (k : Value) (ps : List (Item × Item)) (n : ℕ) (x : Item × Item) → n < length ps → x ≡ get_or ps n x → Same k (item_value x.0) → Gives k (item_value x.1) (pairs ps)
gives_at k ps n x h1 h2 h3 = grind (arith, pair_given)

-- as many pairs
pub same_size : (ps qs : List (Item × Item)) → Same (dict (pairs_of (pairs ps))) (dict (pairs_of (pairs qs))) → length ps ≡ length qs
same_size ps qs h =
    sym (length-map ps pair_value) ∙ sym (pair_count-pairs_of (pairs ps)) ∙ same_count (pairs_of (pairs ps)) (pairs_of (pairs qs)) h ∙ ap length (listed-pairs_of (pairs qs)) ∙ length-map qs pair_value

pub had : (ps qs : List (Item × Item)) → Same (dict (pairs_of (pairs ps))) (dict (pairs_of (pairs qs))) → AllHave (pairs_of (pairs ps)) (pairs qs)
had ps qs h = subst (AllHave (pairs_of (pairs ps))) (listed-pairs_of (pairs qs)) (all_have (pairs_of (pairs ps)) (pairs_of (pairs qs)) h)

pub maps_match : (ps qs : List (Item × Item)) → length ps ≡ length qs → HasNewKeys (pairs_of (pairs ps)) → AllHave (pairs_of (pairs ps)) (pairs qs) → Same (dict (pairs_of (pairs ps))) (dict (pairs_of (pairs qs)))
maps_match ps qs h1 h2 h3 = grind (arith, length-map, listed-pairs_of, matched, pair_count-pairs_of)

-- one more of them, as a loop over the pairs of a map meets it
pub one_more_had : (ps : List (Item × Item)) (qs : List (Value × Value)) (i : ℕ) (x : Item × Item) → i < length ps → x ≡ get_or ps i x → HasPair (pair_value x) qs → ((k : ℕ) (d : Item × Item) → k < i → HasPair (pair_value (get_or ps k d)) qs)
    → (k : ℕ) (d : Item × Item) → k < i + 1 → HasPair (pair_value (get_or ps k d)) qs
one_more_had ps qs i x h1 h2 h3 h4 k d h5 = grind (arith, cases_lt, get_or_default)

-- what is given among the pairs of two parts
pub given_last : (k v : Value) (ps front back : List (Item × Item)) → ps ≡ front ++ back → Gives k v (pairs back) → Gives k v (pairs ps)
given_last k v ps front back h1 h2 = grind (arith, given_after, map-append)

pub given_first : (k v : Value) (ps front back : List (Item × Item)) → ps ≡ front ++ back → Gives k v (pairs front) → Gives k v (pairs ps)
given_first k v ps front back h1 h2 = grind (arith, given_before, map-append)

pub new_to_all : (k : Value) (ps front back : List (Item × Item)) → ps ≡ front ++ back → IsNew k (pairs_of (pairs front)) → IsNew k (pairs_of (pairs back)) → IsNew k (pairs_of (pairs ps))
new_to_all k ps front back h1 h2 h3 = grind (arith, map-append, new_in_both)
