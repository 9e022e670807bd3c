-- What one more node or a break makes of a partial sequence: the levels that are kept, and the state.
use Rattle.std.specs.Prelude.{◌≡◌, ◌+◌, ◌%◌, ◌^◌, ◌<◌, ◌∷◌, ◌++◌}
use Rattle.cborn_wire.proofs.Common.{refl, sym, ap, ◌∙◌, ℕ, List, [], length, Bool, true, false, not, cond, eqb, Option, Some, None, arith, length-append, length_push, Width, Fixed, Tree, Opening, an_array, a_map, a_tag, Partial, top, inside, no_part, put, last_key, built, string_tree, Goes, Ends, TakesItem, TakesString, Proper, IsFree, UnexpectedBreak, StringKind, opened, slot, slot_in, slot_in_map, HeadFits, needs_item, Slot, item, element_or_end, plain, is_full, Failed, finished, holding, ended, Level, ready, open_in, state, AreFromBytes, levels, Keeps, with_part, may_end, lessened, is_even, is_chunks, slot_of, kind_in, level_in, level_with, input_level, announced_nodes, kind_at_none, IsNoString, Argument, ArgumentFits, Announces, size_in, count_in, common_steps, nat_tests}
use Rattle.cborn_wire.proofs.Machine.Containers.{pair_count, even, goes_on, goes_whole, break_ends}
use Rattle.cborn_wire.proofs.Machine.SoundItems.{Accepts, accepted}
use Rattle.cborn_wire.proofs.Spelled.TreeLists.{trees-push}

-- lists that end alike
pub last_same : {A : Type 0} (xs ys : List A) {x y : A} → xs ++ x ∷ [] ≡ ys ++ y ∷ [] → (xs ≡ ys) × (x ≡ y)
last_same xs ys h = grind (arith, common_steps, nat_tests)

-- parts that are missing, modulo 2^64

pub again : (n k : ℕ) → lessened (lessened n k) 1 ≡ lessened n (k + 1)
again n k = omega arith

-- A level with one more part: some are missing then, or it announces no number of parts.
module _ (l : Level) where
  pub counted_on : 0 < lessened l.missing 1 → with_part l ≡ Some (record l { missing = lessened l.missing 1 })
  counted_on h = grind (arith, nat_tests)

  pub endless_on : kind_at_none l.kind ≡ Some l.kind → with_part l ≡ Some (record l { missing = lessened l.missing 1 })
  endless_on e = grind (arith, nat_tests)

-- The level of a container with one more node: none, if it is whole.

abbrev Next : Opening → ℕ → Type 0
Next o k = with_part (level_with o k) ≡ cond (is_full o (k + 1)) None (Some (level_with o (k + 1)))

array_next : (p : ℕ) (w : Width) (n k : ℕ) → n < 2 ^ 64 → k < n → Next (an_array p (Fixed w) (Some n)) k
array_next p w n k fits h = grind (arith, nat_tests)

map_next : (p : ℕ) (w : Width) (n k : ℕ) → n < 2 ^ 64 → k < n + n → Next (a_map p (Fixed w) (Some n)) k
map_next p w n k fits h = grind (arith, nat_tests)

tag_next : (p : ℕ) (w : Width) (n k : ℕ) → k ≡ 0 → Next (a_tag p w n) k
tag_next p w n k h = grind (arith, nat_tests)

endless_next : (o : Opening) (k : ℕ) → kind_at_none (kind_in o k) ≡ Some (kind_in o k) → kind_in o k ≡ kind_in o (k + 1) → is_full o (k + 1) ≡ false → Next o k
endless_next o k e kind more = endless_on (level_with o k) e ∙ rw (again (announced_nodes o) k, ← kind, more) refl

next : (o : Opening) (ts : List Tree) → HeadFits o → Goes o ts → Next o (length ts)
next o ts h e = grind (arith, common_steps, nat_tests, array_next, endless_next, map_next, pair_count, tag_next)

-- the same of one more node
after_next : (o : Opening) (ts : List Tree) (t : Tree) → HeadFits o → Goes o ts → with_part (level_in o ts) ≡ cond (is_full o (length (ts ++ t ∷ []))) None (Some (level_in o (ts ++ t ∷ [])))
after_next o ts t fits h = next o ts fits h ∙ ap (λ k. cond (is_full o k) None (Some (level_with o k))) (sym (length_push ts t))

pub some_level : (f : Partial) → levels f ≡ [] → ⊥
some_level (top ts) e = cc
some_level (inside f o ts) e = absurd (omega (arith, ap length e, length-append (levels f) (level_in o ts ∷ [])))

pub missing_below : (f : Partial) (ls : List Level) (l : Level) → levels f ≡ ls ++ l ∷ [] → l.missing < 2 ^ 64
missing_below (top ts) ls l e = omega (arith, ap (λ (m : Level). m.missing) (last_same [] ls e).1)
missing_below (inside f o ts) ls l e = omega (arith, ap (λ (m : Level). m.missing) (last_same (levels f) ls e).1)

-- the innermost container of h, what is around it, and the nodes in it
pub record Innermost (h : Partial) (ls : List Level) : Type 0 where
  pub around : Partial
  pub opening : Opening
  pub nodes : List Tree
  pub is : h ≡ inside around opening nodes
  pub levels_are : levels around ≡ ls
  pub free : IsFree around
  pub from_bytes : AreFromBytes around

some_of : (c : Bool) (k r : Level) → cond c None (Some k) ≡ Some r → (c ≡ false) × (k ≡ r)
some_of c k r h = grind (arith, common_steps, nat_tests)

none_of : (c : Bool) (k : Level) → cond c None (Some k) ≡ None → c ≡ true
none_of c k h = grind (arith, common_steps, nat_tests)

-- its slot, and whether a break may end it

pub odd : (ts : List Tree) (k : Tree) → last_key ts ≡ Some k → length ts % 2 ≡ 1
odd [] k e = cc
odd (l ∷ []) k e = refl
odd (l ∷ v ∷ ts) k e = omega (arith, odd ts k e)

pub key_parity : (n : ℕ) (ts : List Tree) → last_key ts ≡ None → is_even (lessened (n + n) (length ts)) ≡ true
key_parity n ts e = ap (λ r. eqb r 0) {y = 0} (omega (arith, even ts e))

pub value_parity : (n : ℕ) (ts : List Tree) (k : Tree) → last_key ts ≡ Some k → is_even (lessened (n + n) (length ts)) ≡ false
value_parity n ts k e = ap (λ r. eqb r 0) {y = 1} (omega (arith, odd ts k e))

level_slot : (o : Opening) (ts : List Tree) → slot_of (kind_in o (length ts)) (lessened (announced_nodes o) (length ts)) ≡ plain (slot_in (opened o ts))
level_slot (an_array p s None) ts = refl
level_slot (a_map p s None) ts = go (last_key ts) refl
  where
    go : (x : Option Tree) → last_key ts ≡ x → cond (is_even (lessened 0 (length ts))) element_or_end item ≡ plain (slot_in_map None x)
    go None e = ap (λ b. cond b element_or_end item) (key_parity 0 ts e)
    go (Some k) e = ap (λ b. cond b element_or_end item) (value_parity 0 ts k e)
level_slot (a_map p s (Some n)) ts = grind (arith, common_steps, nat_tests)
level_slot c ts = refl

pub top_slot : (f : Partial) (ls : List Level) (l : Level) → levels f ≡ ls ++ l ∷ [] → slot_of l.kind l.missing ≡ plain (slot (open_in f))
top_slot (top ts) ls l e = ap (λ (m : Level). slot_of m.kind m.missing) (sym (last_same [] ls e).1)
top_slot (inside f o ts) ls l e = ap (λ (m : Level). slot_of m.kind m.missing) (sym (last_same (levels f) ls e).1) ∙ level_slot o ts

plain_needs : (s : Slot) → needs_item (plain s) ≡ needs_item s
plain_needs s = grind (arith, common_steps, nat_tests)

ends_slot : (f : Partial) (ls : List Level) (l : Level) → levels f ≡ ls ++ l ∷ [] → may_end l.kind l.missing ≡ not (needs_item (slot (open_in f)))
ends_slot f ls l e = ap not (ap needs_item (top_slot f ls l e) ∙ plain_needs (slot (open_in f)))

not_is : (b c : Bool) → not b ≡ not c → b ≡ c
not_is b c h = grind (arith, common_steps, nat_tests)

module _ (end : ℕ) where
  pub stays : (h : Partial) (u : Tree) (ls : List Level) (l r : Level) → levels h ≡ ls ++ l ∷ [] → Proper h → Accepts (open_in h) u → AreFromBytes h → with_part l ≡ Some r
      → Keeps (put h u) ls r × (finished end (ready h) (open_in h) u ≡ state end (put h u) no_part)
  stays (top ts) u ls l r e proper accepts say w = grind (arith, common_steps, nat_tests, last_same, length_push, again, endless_on, trees-push)
  stays (inside f o ts) u ls l r e proper accepts say w =
      let h = last_same (levels f) ls e in
      let (more, is) = some_of (is_full o (length (ts ++ u ∷ []))) (level_in o (ts ++ u ∷ [])) r (sym (after_next o ts u say.1 proper.2) ∙ ap with_part h.1 ∙ w) in (
        (ap (λ m. m ++ level_in o (ts ++ u ∷ []) ∷ []) h.0 ∙ ap (λ k. ls ++ k ∷ []) is, (proper.0, proper.1, goes_on o ts u proper.2 accepts more), say),
        ap (λ c. cond c (finished end (ready f) (open_in f) (built o (ts ++ u ∷ []))) (state end (put (inside f o ts) u) no_part)) more,
      )

  pub closes : (h : Partial) (u : Tree) (ls : List Level) (l : Level) → Keeps h ls l → with_part l ≡ None
      → (i : Innermost h ls) × Ends i.opening (i.nodes ++ u ∷ []) × (finished end (ready h) (open_in h) u ≡ finished end (ready i.around) (open_in i.around) (built i.opening (i.nodes ++ u ∷ [])))
  closes (top ts) u ls l (e, proper, say) w = let h = last_same [] ls e in cc (sym (endless_on (input_level (length ts)) refl) ∙ ap with_part h.1 ∙ w)
  closes (inside f o ts) u ls l (e, proper, say) w =
      let h = last_same (levels f) ls e in
      let full = none_of (is_full o (length (ts ++ u ∷ []))) (level_in o (ts ++ u ∷ [])) (sym (after_next o ts u say.1 proper.2) ∙ ap with_part h.1 ∙ w) in (
        record { around = f; opening = o; nodes = ts; is = refl; levels_are = h.0; free = (proper.0, proper.1); from_bytes = say.0 },
        goes_whole o ts u proper.2 full,
        ap (λ c. cond c (finished end (ready f) (open_in f) (built o (ts ++ u ∷ []))) (state end (put (inside f o ts) u) no_part)) full,
      )

  -- what a break makes of the innermost container, of whose slot this says whether an item has to be in it
  broken : (p : ℕ) (f : Partial) (o : Opening) (ts : List Tree) (b : Bool) → needs_item (slot_in (opened o ts)) ≡ b
      → ended end p (ready f) (open_in (inside f o ts)) ≡ cond b (Failed (ready f) p UnexpectedBreak) (finished end (ready f) (open_in f) (built o ts))
  broken p f o ts b e = ap (λ c. cond c (Failed (ready f) p UnexpectedBreak) (finished end (ready f) (open_in f) (built o ts))) e

  pub breaks : (p : ℕ) (h : Partial) (ls : List Level) (l : Level) → Keeps h ls l → may_end l.kind l.missing ≡ true
      → (i : Innermost h ls) × Ends i.opening i.nodes × (ended end p (ready h) (open_in h) ≡ finished end (ready i.around) (open_in i.around) (built i.opening i.nodes))
  breaks p (top ts) ls l (e, proper, say) m = cc (sym (ends_slot (top ts) ls l e) ∙ m)
  breaks p (inside f o ts) ls l (e, proper, say) m =
      let h = last_same (levels f) ls e in
      let free = not_is _ false (sym (ends_slot (inside f o ts) ls l e) ∙ m) in
      (record { around = f; opening = o; nodes = ts; is = refl; levels_are = h.0; free = (proper.0, proper.1); from_bytes = say.0 }, (break_ends o ts proper.2 free).0, broken p f o ts false free)

  pub breaks_not : (p : ℕ) (h : Partial) (ls : List Level) (l : Level) → levels h ≡ ls ++ l ∷ [] → may_end l.kind l.missing ≡ false → ended end p (ready h) (open_in h) ≡ Failed (ready h) p UnexpectedBreak
  breaks_not p (top ts) ls l e m = refl
  breaks_not p (inside f o ts) ls l e m = broken p f o ts true (not_is _ true (sym (ends_slot (inside f o ts) ls l e) ∙ m))

-- a container is opened

pub announces : (a : Argument) → ArgumentFits a → Announces (size_in a) (count_in a)
announces a h = grind (arith, common_steps, nat_tests)

pub opens : (end : ℕ) (f : Partial) (o : Opening) (ls : List Level) (l k : Level) → TakesItem f → HeadFits o → k ≡ level_in o [] → is_full o 0 ≡ false → Keeps f ls l
    → Keeps (inside f o []) (ls ++ l ∷ []) k × (holding end (ready f) (open_in f) o [] ≡ state end (inside f o []) no_part)
opens end f o ls l k takes fits is more kept = grind (arith, common_steps, nat_tests)

pub ends_empty : (end : ℕ) (f : Partial) (o : Opening) → is_full o 0 ≡ true → Ends o [] × (holding end (ready f) (open_in f) o [] ≡ finished end (ready f) (open_in f) (built o []))
ends_empty end f o full = grind (arith, common_steps, nat_tests)

-- the same levels
pub kept_as : (f : Partial) {around now : List Level} {l m : Level} → now ≡ around → m ≡ l → Keeps f around l → Keeps f now m
kept_as f {around} {now} {l} {m} same is h = (h.0 ∙ ap (λ ls. ls ++ l ∷ []) (sym same) ∙ ap (λ k. now ++ k ∷ []) (sym is), h.1, h.2)

-- what may be next

pub no_string : (f : Partial) → TakesItem f → IsNoString (open_in f)
no_string f h = grind (arith, common_steps, nat_tests)

pub item_accepted : (f : Partial) (t : Tree) → TakesItem f → Accepts (open_in f) t
item_accepted f t h = accepted (open_in f) t (no_string f h)

pub string_accepted : (f : Partial) (p : ℕ) (k : StringKind) (w : Width) (x : List ℕ) → TakesString f k → Accepts (open_in f) (string_tree p k w x)
string_accepted f p k w x h = grind (arith, common_steps, nat_tests)

pub item_free : (f : Partial) (ls : List Level) (l : Level) → levels f ≡ ls ++ l ∷ [] → is_chunks l.kind ≡ false → TakesItem f
item_free f ls l h e = grind (arith, common_steps, nat_tests)
