-- What is read and made of leaves that are taken several at a time.
use Rattle.std.specs.Prelude.{◌≡◌, ◌⊎◌, ◌+◌, ◌-◌, ◌/◌, ◌^◌, ◌<◌, ◌≤◌, ◌∷◌, ◌++◌}
use Rattle.cborn_wire.proofs.Common.{sym, ap, ◌∙◌, subst, ℕ, List, [], length, take, drop, true, leb, eqb-true, Some, arith, append-nil, length-append, drop-take, take-append-drop, take-append-le, take_all, length-take-le, take-add, AreBytes, Width, Major, Unsigned, Negative, Given, head, WidthFits, least, Tree, Uint, Nint, Partial, Part, IsFree, no_part, put, TakesItem, IsInteger, IsShortLeaf, AreShortIntegers, IsShortPair, text_in, puts, InArray, AtKey, Level, GivenHead, major_at, slot, open_depth, finished, run, ready, open_in, state, levels, Keeps, with_part, lessened, is_array, is_at_key, room_in, IsLeafOf, IsLeaf, content_len, leaf_tree, AfterLeaves, TakesRun, common_steps, nat_tests, bytes-right}
use Rattle.cborn_model.specs.declared.visitors.LeafPair.{LeafPair}
use Rattle.cborn_wire.specs.declared.levels.LevelKind.TheVariants.{Array as AnArray, EndlessArray}
use Rattle.cborn_wire.proofs.HeadReading.HeadSteps.{head_front}
use Rattle.cborn_wire.proofs.Machine.Running.{run-append}
use Rattle.cborn_wire.proofs.Machine.Containers.{no_key}
use Rattle.cborn_wire.proofs.Machine.TakesHeads.{takes_head}
use Rattle.cborn_wire.proofs.Visiting.Counting.{last_same, stays, item_accepted, counted_on, missing_below}
use Rattle.cborn_wire.proofs.Visiting.Leaves.{plain_slot, leaf_free, leaf_read, leaf_cut, leaf_some, item_after}
use Rattle.cborn_wire.proofs.Visiting.Taking.{bytes-take}

-- the leaf with this head at the front of x, of which it takes n bytes
abbrev pub leaf_in : ℕ → List ℕ → GivenHead → ℕ → Tree
leaf_in p x h n = leaf_tree p (major_at (h.first / 32)) h.width h.argument (take (n - h.len) (drop h.len x))

-- one leaf

pub one_taken : (place : ℕ) (old new : Partial → Part → Type 0) (x : List ℕ) (h : GivenHead) (n : ℕ) (l : Level) → IsLeafOf x h n → ((f : Partial) → IsFree f → old f no_part → new (put f (leaf_in place x h n)) no_part) → TakesRun place x l 0 old new n
one_taken place old new x h n l leaf visited = grind (arith, leaf_cut, leaf_read, leaf_some, missing_below)

-- where an array or a map is innermost

pub in_array : (f : Partial) (ls : List Level) (l : Level) → levels f ≡ ls ++ l ∷ [] → is_array l.kind ≡ true → InArray f
in_array f ls l h e = grind (arith, common_steps, nat_tests, last_same)

pub at_key : (f : Partial) (ls : List Level) (l : Level) → levels f ≡ ls ++ l ∷ [] → is_at_key l.kind l.missing ≡ true → AtKey f
at_key f ls l h e = grind (arith, common_steps, nat_tests, eqb-true, last_same, no_key)

-- after a key its value is missing
key_counted : (l : Level) → is_at_key l.kind l.missing ≡ true → with_part l ≡ Some (record l { missing = lessened l.missing 1 })
key_counted l e = grind (arith, counted_on, eqb-true)

key_same : (f : Partial) (t : Tree) → AtKey f → ready (put f t) ≡ ready f
key_same f t h = grind (arith, common_steps, nat_tests)

array_same : (f : Partial) (t : Tree) → InArray f → ready (put f t) ≡ ready f
array_same f t h = grind (arith, common_steps, nat_tests)

array_after : (f : Partial) (t : Tree) → InArray f → InArray (put f t)
array_after f t h = grind (arith, common_steps, nat_tests)

-- a key and its value

short_as : (p : ℕ) (m : Major) (w : Width) (n : ℕ) (y z : List ℕ) → AreBytes y → IsLeaf m w → WidthFits w n → length y ≡ content_len m n → w ≡ least n → z ≡ head m (Given w n) ++ y → IsShortLeaf p z (leaf_tree p m w n y)
short_as p m w n y z h e g k a b = grind (arith, common_steps, nat_tests)

short_leaf : (p : ℕ) (x : List ℕ) (h : GivenHead) (n : ℕ) → AreBytes x → IsLeafOf x h n → h.width ≡ least h.argument → IsShortLeaf p (take n x) (leaf_in p x h n)
short_leaf p x h n are leaf short =
    let y = take (n - h.len) (drop h.len x) in
    let cut = leaf_cut x h n leaf in
    let len : length y ≡ content_len (major_at (h.first / 32)) h.argument = omega (arith, ap length cut, length-append (take h.len x) y, length-take-le n x leaf.whole, length-take-le h.len x (omega (arith, leaf.len, leaf.whole)), leaf.len) in
    short_as p (major_at (h.first / 32)) h.width h.argument y (take n x) (bytes-right (take h.len x) y (subst AreBytes cut (bytes-take n x are))) leaf.leaf leaf.given.head.fits len short (cut ∙ ap (λ z. z ++ y) (head_front x _ h.len leaf.given.head))

-- its content
content_is : (x : List ℕ) (h : GivenHead) (n : ℕ) → IsLeafOf x h n → drop h.len (take n x) ≡ take (n - h.len) (drop h.len x)
content_is x h n leaf = ap (λ k. drop h.len (take k x)) (omega (arith, leaf.len)) ∙ drop-take h.len (n - h.len) x

pub text_is : (p : ℕ) (x text : List ℕ) (h : GivenHead) (n : ℕ) → IsLeafOf x h n → text ≡ text_in (leaf_tree p (major_at (h.first / 32)) h.width h.argument (drop h.len (take n x))) → text ≡ text_in (leaf_in p x h n)
text_is p x text h n leaf e = e ∙ ap (λ y. text_in (leaf_tree p (major_at (h.first / 32)) h.width h.argument y)) (content_is x h n leaf)

module _ (x : List ℕ) (g h : GivenHead) (n m : ℕ) (key : IsLeafOf x g n) (value : IsLeafOf (drop n x) h m) where
  pub short_pair : (p : ℕ) (pair : LeafPair) → AreBytes x → g.width ≡ least g.argument → h.width ≡ least h.argument → pair.spelled.now ≡ take (n + m) x → pair.key_len ≡ n
      → pair.key_text.now ≡ text_in (leaf_in p x g n) → pair.value_text.now ≡ text_in (leaf_in (p + n) (drop n x) h m) → IsShortPair p pair (leaf_in p x g n) (leaf_in (p + n) (drop n x) h m)
  short_pair p pair are short less spells len key_text value_text =
      let front : take n (take (n + m) x) ≡ take n x = ap (take n) (take-add n m x) ∙ take-append-le n (take n x) (take m (drop n x)) (omega (arith, length-take-le n x key.whole)) ∙ take_all n (take n x) (omega (arith, length-take-le n x key.whole)) in
      record {
        key = subst (λ z. IsShortLeaf p z (leaf_in p x g n)) (sym (ap (take pair.key_len) spells ∙ ap (λ k. take k (take (n + m) x)) len ∙ front)) (short_leaf p x g n are key short);
        value = subst (λ k. IsShortLeaf (p + k) (drop k pair.spelled.now) (leaf_in (p + n) (drop n x) h m)) (sym len) (subst (λ z. IsShortLeaf (p + n) z (leaf_in (p + n) (drop n x) h m)) (sym (ap (drop n) spells ∙ drop-take n m x)) (short_leaf (p + n) (drop n x) h m (bytes-right (take n x) (drop n x) (subst AreBytes (sym (take-append-drop n x)) are)) value less));
        key_text = key_text;
        value_text = value_text;
      }

  pub pair_taken : (place : ℕ) (f : Partial) (holds : Partial → Type 0) (around : List Level) (l : Level) → is_at_key l.kind l.missing ≡ true → Keeps f around l → TakesItem f → holds (put (put f (leaf_in place x g n)) (leaf_in (place + n) (drop n x) h m))
      → AfterLeaves place (place + (n + m)) f holds around (record l { missing = lessened l.missing 1 }) (take (n + m) x)
  pair_taken place f holds around l wants kept takes held =
      let k = leaf_in place x g n in
      let v = leaf_in (place + n) (drop n x) h m in
      let s = stays (place + n) f k around l (record l { missing = lessened l.missing 1 }) kept.0 kept.1 (item_accepted f k takes) kept.2 (key_counted l wants) in
      let after : TakesItem (put f k) = item_after f k takes in
      record {
        before = put f k;
        last = v;
        held = held;
        levels = s.0;
        takes = after;
        same = key_same f k (at_key f around l kept.0 wants);
        is = λ limit.
            ap (run limit (state place f no_part)) (take-add n m x)
            ∙ run-append limit (state place f no_part) (take n x) (take m (drop n x))
            ∙ ap (λ q. run limit q (take m (drop n x))) (leaf_read limit place f x _ g n takes key (leaf_cut x g n key) ∙ s.1)
            ∙ leaf_read limit (place + n) (put f k) (drop n x) _ h m after value (leaf_cut (drop n x) h m value)
            ∙ ap (λ j. finished j (ready (put f k)) (open_in (put f k)) v) (omega arith);
      }

-- integers

integer_read : (limit p : ℕ) (f : Partial) (y : List ℕ) (t : Tree) → TakesItem f → IsInteger t → IsShortLeaf p y t → run limit (state p f no_part) y ≡ finished (p + length y) (ready f) (open_in f) t
integer_read limit p f y (Uint q w n) takes is s =
    let x = head Unsigned (Given w n) in
    ap (run limit (state p f no_part)) (sym s.spells ∙ sym (append-nil x))
    ∙ takes_head limit p (ready f) (open_in f) Unsigned (Given w n) [] s.fits (leaf_free (slot (open_in f)) (leb limit (open_depth (open_in f))) Unsigned w n (plain_slot f takes) tt)
    ∙ ap (λ k. finished k (ready f) (open_in f) (Uint p w n)) (ap (λ z. p + length z) s.spells)
    ∙ ap (λ k. finished (p + length y) (ready f) (open_in f) (Uint k w n)) (sym s.placed)
integer_read limit p f y (Nint q w n) takes is s =
    let x = head Negative (Given w n) in
    ap (run limit (state p f no_part)) (sym s.spells ∙ sym (append-nil x))
    ∙ takes_head limit p (ready f) (open_in f) Negative (Given w n) [] s.fits (leaf_free (slot (open_in f)) (leb limit (open_depth (open_in f))) Negative w n (plain_slot f takes) tt)
    ∙ ap (λ k. finished k (ready f) (open_in f) (Nint p w n)) (ap (λ z. p + length z) s.spells)
    ∙ ap (λ k. finished (p + length y) (ready f) (open_in f) (Nint k w n)) (sym s.placed)
integer_read limit p f y t takes is s = absurd is

-- in an array so many integers are missing, or nobody knows how many
abbrev pub HasRoom : Level → ℕ → Type 0
HasRoom l k = (l.kind ≡ EndlessArray) ⊎ ((l.kind ≡ AnArray) × (k ≤ l.missing))

pub has_room : (l : Level) (k : ℕ) → is_array l.kind ≡ true → k ≤ room_in l.kind l.missing → HasRoom l k
has_room l k is h = grind arith

-- more than one follows
array_on : (l : Level) (k : ℕ) → l.missing < 2 ^ 64 → HasRoom l k → 1 < k → with_part l ≡ Some (record l { missing = lessened l.missing 1 })
array_on l k h e g = grind (arith, common_steps, nat_tests)

room_left : (l : Level) (k j : ℕ) → l.missing < 2 ^ 64 → HasRoom l k → k ≡ j + 1 → HasRoom (record l { missing = lessened l.missing 1 }) j
room_left l k j h e g = grind (arith, common_steps, nat_tests)

-- the first n bytes of some are integers
module _ (holds : Partial → Type 0) (around : List Level) where
  go : (place end : ℕ) (f : Partial) (l : Level) (x : List ℕ) (t : Tree) (ts : List Tree) → end ≡ place + length x → Keeps f around l → TakesItem f → InArray f → AreShortIntegers place x (t ∷ ts) → HasRoom l (length (t ∷ ts)) → holds (puts f (t ∷ ts))
      → AfterLeaves place end f holds around (record l { missing = lessened l.missing (length ts) }) x
  go place end f l x t [] e kept takes in_it (y, z, cut, is, short, none) room held = grind (arith, common_steps, nat_tests, append-nil, missing_below, integer_read)
  go place end f l x t (u ∷ ts) e kept takes in_it (y, z, cut, is, short, more) room held =
      let next = record l { missing = lessened l.missing 1 } in
      let fits = missing_below f around l kept.0 in
      let s = stays (place + length y) f t around l next kept.0 kept.1 (item_accepted f t takes) kept.2 (array_on l (length (t ∷ u ∷ ts)) fits room (omega arith)) in
      let r = go (place + length y) end (put f t) next z u ts (omega (arith, e, ap length cut, length-append y z)) s.0 (item_after f t takes) (array_after f t in_it) more (room_left l (length (t ∷ u ∷ ts)) (length (u ∷ ts)) fits room (omega arith)) held in
      record {
        before = r.before;
        last = r.last;
        held = r.held;
        levels = subst (λ m. Keeps r.before around (record l { missing = m })) (omega arith) r.levels;
        takes = r.takes;
        same = r.same ∙ array_same f t in_it;
        is = λ limit.
            ap (run limit (state place f no_part)) cut
            ∙ run-append limit (state place f no_part) y z
            ∙ ap (λ q. run limit q z) (integer_read limit place f y t takes is short ∙ s.1)
            ∙ r.is limit;
      }

  pub integers_taken : (place n count : ℕ) (f : Partial) (l : Level) (x : List ℕ) (ts : List Tree) → n ≤ length x → 0 < count → is_array l.kind ≡ true → Keeps f around l → TakesItem f → AreShortIntegers place (take n x) ts → length ts ≡ count → HasRoom l count → holds (puts f ts)
      → AfterLeaves place (place + n) f holds around (record l { missing = lessened l.missing (count - 1) }) (take n x)
  integers_taken place n count f l x [] whole some kind kept takes are many room held = absurd (omega (arith, many, some))
  integers_taken place n count f l x (t ∷ ts) whole some kind kept takes are many room held =
      subst (λ j. AfterLeaves place (place + n) f holds around (record l { missing = lessened l.missing j }) (take n x)) (omega (arith, many))
      (go place (place + n) f l (take n x) t ts (omega (arith, length-take-le n x whole)) kept takes (in_array f around l kept.0 kind) are (subst (HasRoom l) (sym many) room) held)

pub integers_some : (place n : ℕ) (x : List ℕ) (ts : List Tree) → n ≤ length x → AreShortIntegers place (take n x) ts → 0 < length ts → 0 < n
integers_some place n x [] whole are some = absurd (omega arith)
integers_some place n x (t ∷ ts) whole (y, z, cut, is, short, more) some = grind (arith, common_steps, nat_tests, length-take-le, length-append)
