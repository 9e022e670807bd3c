-- The machine takes what is open, too.
use Rattle.std.specs.Prelude.{◌≡◌, ◌+◌, ◌≤◌, ◌∷◌, ◌++◌}
use Rattle.cborn_wire.proofs.Common.{refl, ap, ◌∙◌, ℕ, List, [], length, Option, None, cond, arith, append_assoc, length-append, add-zero, Opening, an_array, a_map, last_key, built, Tree, Trees, trees, depth_all, spelled_all, OpenContainer, opened, opening, beginnings, slot, slot_in_map, added_depth, open_depth, IsNoString, AreOpen, nothing, Live, is_full, finished, run, common_steps, nat_tests}
use Rattle.cborn_wire.proofs.Machine.Containers.{not_full, list_from, list_length, opening_from}
use Rattle.cborn_wire.proofs.Machine.TakesItems.{takes_opening, takes_nodes, opened_taken}

-- What is open, moved to an offset.

abbrev pub open_from : ℕ → List OpenContainer → List OpenContainer
open_from p [] = []
open_from p (opened o ts ∷ os) = opened (opening_from (p + length (beginnings os)) o) (list_from (p + length (beginnings os) + length (opening o)) ts) ∷ open_from p os

map_slot-from : (c : Option ℕ) (ts : List Tree) (p : ℕ) → slot_in_map c (last_key (list_from p ts)) ≡ slot_in_map c (last_key ts)
map_slot-from c (k ∷ v ∷ ts) p = map_slot-from c ts _
map_slot-from c ts p = refl

pub slot-from : (os : List OpenContainer) (p : ℕ) → slot (open_from p os) ≡ slot os
slot-from (opened (an_array q s None) ts ∷ os) p = refl
slot-from (opened (a_map q s c) ts ∷ os) p = map_slot-from c ts _
slot-from os p = refl

added_depth-from : (o : Opening) (p : ℕ) → added_depth (opening_from p o) ≡ added_depth o
added_depth-from o p = grind (arith, common_steps, nat_tests)

pub open_depth-from : (os : List OpenContainer) (p : ℕ) → open_depth (open_from p os) ≡ open_depth os
open_depth-from [] p = refl
open_depth-from (opened o ts ∷ os) p = omega (arith, added_depth-from o (p + length (beginnings os)), open_depth-from os p)

no_string-from : (os : List OpenContainer) (p : ℕ) → IsNoString os → IsNoString (open_from p os)
no_string-from os p h = grind (arith, common_steps, nat_tests)

full-from : (o : Opening) (p n : ℕ) → is_full (opening_from p o) n ≡ is_full o n
full-from o p n = grind (arith, common_steps, nat_tests)

pub takes_open : (limit : ℕ) (os : List OpenContainer) (fed : ℕ) (ready : Trees) (x : List ℕ) → AreOpen limit os
    → run limit (Live fed ready [] nothing) (beginnings os ++ x) ≡ run limit (Live (fed + length (beginnings os)) ready (open_from fed os) nothing) x
takes_open limit [] fed ready x h = rw add-zero refl
takes_open limit (opened o ts ∷ os) fed ready x ((fits, goes, all, deep), free, are_open) =
    let at = fed + length (beginnings os) in
    let inner = at + length (opening o) in
    let content = spelled_all (trees ts) in
    let end = inner + length content in
    let p = opening_from at o in
    let vs = list_from inner ts in
    let around = open_from fed os in
    let within : added_depth p + open_depth around + depth_all (trees ts) ≤ limit = omega (arith, added_depth-from o at, open_depth-from os fed, deep) in
    let cut : (beginnings os ++ (opening o ++ content)) ++ x ≡ beginnings os ++ (opening o ++ (content ++ x)) = simp append_assoc in
    let total : end ≡ fed + length (beginnings os ++ (opening o ++ content)) = omega (arith, length-append (beginnings os) (opening o ++ content), length-append (opening o) content) in
    ap (run limit (Live fed ready [] nothing)) cut
    ∙ takes_open limit os fed ready (opening o ++ (content ++ x)) are_open
    ∙ takes_opening limit at ready around o (content ++ x) fits (no_string-from os fed free) (omega (arith, open_depth-from os fed, deep))
    ∙ takes_nodes ts limit inner ready around p [] x (opened_taken limit at o ts goes) all within (λ k less. full-from o at k ∙ not_full o ts k goes (omega (arith, less)))
    ∙ ap (λ c. run limit (cond c (finished end ready around (built p vs)) (Live end ready (opened p vs ∷ around) nothing)) x) (full-from o at (length vs) ∙ not_full o ts (length vs) goes (omega (arith, list_length ts inner)))
    ∙ ap (λ q. run limit (Live q ready (opened p vs ∷ around) nothing) x) total
