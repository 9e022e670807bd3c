-- Items of a slice, one by one: what is valid, and how deep.
use Rattle.std.specs.Prelude.{◌≡◌, ◌+◌, ◌<◌, ◌^◌, ◌∷◌, ◌↔◌}
use Rattle.cborn_model.proofs.Common.{ℕ, zero, suc, max, List, [], map, length, take, drop, get_or, refl, arith, Bool, IsTrue, inl, inr, length-map, Item, item_value, pair_value, Value, array, dict, values_of, pairs_of, IsNew, HasNewKeys, IsProper, AreProper, HasProperPairs, value_depth, values_depth, pairs_depth, Gives}
use Rattle.cborn_model.proofs.Listed.Fitting.{all_hold}
use Rattle.cborn_model.proofs.Listed.Trees.{greatest_more}
use Rattle.cborn_model.proofs.Listed.Values.{value_count-values_of, pair_count-pairs_of}
use Rattle.cborn_model.proofs.SameItems.Comparing.{values, pairs, IsProperItem, IsProperPair}

pub are_proper_by_item : (is : List Item) → ((k : ℕ) (d : Item) → k < length is → IsProperItem (get_or is k d)) → AreProper (values_of (values is))
are_proper_by_item = all_hold (λ is. AreProper (values_of (values is))) IsProperItem tt (λ x xs. ((λ h. h), (λ h. h)))

pub are_proper_by_pair : (ps : List (Item × Item)) → ((k : ℕ) (d : Item × Item) → k < length ps → IsProperPair (get_or ps k d)) → HasProperPairs (pairs_of (pairs ps))
are_proper_by_pair = all_hold (λ ps. HasProperPairs (pairs_of (pairs ps))) IsProperPair tt (λ x xs. ((λ h. (h.0.0, h.0.1, h.1)), (λ h. ((h.0, h.1), h.2))))

-- with the bound on the count
pub array_proper : (is : List Item) (vs : List Value) (r : Bool) → values is ≡ vs → (IsTrue r ↔ AreProper (values_of (values is)) × (length is < 2 ^ 64)) → (IsTrue r ↔ IsProper (array (values_of vs)))
array_proper is vs r h1 h2 = grind (arith, length-map, value_count-values_of, values)

pub dict_proper : (ps : List (Item × Item)) (vs : List (Value × Value)) (r : Bool) → pairs ps ≡ vs → HasProperPairs (pairs_of (pairs ps)) × (length ps < 2 ^ 64) → (IsTrue r ↔ HasNewKeys (pairs_of (pairs ps))) → (IsTrue r ↔ IsProper (dict (pairs_of vs)))
dict_proper ps vs r h1 h2 h3 = grind (arith, length-map, pair_count-pairs_of, pairs)

-- a key whose value is given isn't new
pub given_not_new : (k v : Value) (ps : List (Value × Value)) → IsNew k (pairs_of ps) → Gives k v ps → ⊥
given_not_new k v [] h g = g
given_not_new k v (p ∷ ps) h g = elim g [ inl s ↦ h.0 s.0 | inr s ↦ given_not_new k v ps h.1 s ]

-- one more item
pub value_depth-take_more : (is : List Item) (i : ℕ) (x : Item) → i < length is → x ≡ get_or is i x → values_depth (values_of (map item_value (take (i + 1) is))) ≡ max (values_depth (values_of (map item_value (take i is)))) (value_depth (item_value x))
value_depth-take_more = greatest_more (λ l. values_depth (values_of (map item_value l))) (λ y. value_depth (item_value y)) refl (λ _ _. refl)

pub pair_value_depth-take_more : (ps : List (Item × Item)) (i : ℕ) (x : Item × Item) → i < length ps → x ≡ get_or ps i x → pairs_depth (pairs_of (map pair_value (take (i + 1) ps))) ≡ max (pairs_depth (pairs_of (map pair_value (take i ps)))) (max (value_depth (item_value x.0)) (value_depth (item_value x.1)))
pair_value_depth-take_more = greatest_more (λ l. pairs_depth (pairs_of (map pair_value l))) (λ y. max (value_depth (item_value y.0)) (value_depth (item_value y.1))) refl (λ _ _. refl)

given_in_front : (k v : Value) (n : ℕ) (ps : List (Item × Item)) → Gives k v (pairs (take n ps)) → Gives k v (pairs ps)
given_in_front k v zero ps g = absurd g
given_in_front k v (suc n) [] g = g
given_in_front k v (suc n) (p ∷ ps) g = elim g [ inl s ↦ inl s | inr s ↦ inr (given_in_front k v n ps s) ]

-- so no key has a value that is given after it
pub given_after_head : (v : Value) (n : ℕ) (ps : List (Item × Item)) (x : Item × Item) → 0 < length ps → x ≡ get_or ps 0 x → HasNewKeys (pairs_of (pairs ps)) → Gives (item_value x.0) v (pairs (take n (drop 1 ps))) → ⊥
given_after_head v n ps x h1 h2 h3 h4 = grind (arith, given_in_front, given_not_new, pairs)
