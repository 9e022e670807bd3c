-- The definitions over items, in std's words, and what a recursion over an `Item` goes down by.
use Rattle.std.specs.Prelude.{◌≡◌, ◌<◌, ◌≤◌, ◌∷◌}
use Rattle.cborn_model.proofs.Common.{ℕ, suc, max, map, List, [], length, get_or, refl, ap, Item, item_value, pair_value, Value, Couples, no_pairs, pair, values_of, pairs_of, listed, value_count, pair_count, height, height_all, height_pairs}
use Rattle.cborn_model.proofs.Listed.Trees.{no_greater}

pub value_count-values_of : (vs : List Value) → value_count (values_of vs) ≡ length vs
value_count-values_of [] = refl
value_count-values_of (v ∷ vs) = ap suc (value_count-values_of vs)

pub pair_count-pairs_of : (ps : List (Value × Value)) → pair_count (pairs_of ps) ≡ length ps
pair_count-pairs_of [] = refl
pair_count-pairs_of (p ∷ ps) = ap suc (pair_count-pairs_of ps)

pub length-listed : (ps : Couples) → length (listed ps) ≡ pair_count ps
length-listed no_pairs = refl
length-listed (pair k v ps) = ap suc (length-listed ps)

pub listed-pairs_of : (ps : List (Value × Value)) → listed (pairs_of ps) ≡ ps
listed-pairs_of [] = refl
listed-pairs_of (p ∷ ps) = ap (λ qs. p ∷ qs) (listed-pairs_of ps)

abbrev pub pair_height : Item × Item → ℕ
pair_height p = max (height (item_value p.0)) (height (item_value p.1))

-- an item of a list is no higher than all of them
pub height_of_item : (is : List Item) (n : ℕ) (x : Item) → n < length is → x ≡ get_or is n x → height (item_value x) ≤ height_all (values_of (map item_value is))
height_of_item = no_greater (λ xs. height_all (values_of (map item_value xs))) (λ i. height (item_value i)) refl (λ _ _. refl)

pub height_of_pair : (ps : List (Item × Item)) (n : ℕ) (x : Item × Item) → n < length ps → x ≡ get_or ps n x → pair_height x ≤ height_pairs (pairs_of (map pair_value ps))
height_of_pair = no_greater (λ xs. height_pairs (pairs_of (map pair_value xs))) pair_height refl (λ _ _. refl)
