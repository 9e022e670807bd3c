-- What is read and made of a leaf.
use Rattle.std.specs.Prelude.{◌≡◌, ◌+◌, ◌-◌, ◌/◌, ◌%◌, ◌<◌, ◌≤◌, ◌∷◌, ◌++◌}
use Rattle.cborn_wire.proofs.Common.{refl, sym, ap, ◌∙◌, subst, ℕ, List, [], length, take, drop, get_or, Bool, false, leb, None, arith, length-append, lt-leb, length-take-le, take-add, AreBytes, Width, Direct, Major, Unsigned, Negative, ByteString, TextString, Other, code, WidthFits, Tree, Trees, Uint, Nint, Simple, Partial, Part, no_part, put, TakesItem, TakesString, string_tree, Full, GivenHead, Level, LevelKind, major_at, IsHeadOf, Slot, OpenContainer, slot, open_depth, Next, info_at, info_for, head_reason, width_bytes, number, content_at, after_head, finished, run, AtMostOneMore, ready, open_in, state, slot_of, is_chunks, Stands, IsNoChunkSlot, IsGiven, IsLeafOf, IsLeaf, content_len, leaf_tree, TakesHead, State, common_steps, nat_tests}
use Rattle.cborn_model.specs.Heads as heads
use Rattle.cborn_model.specs.declared.visitors.StringKind.{StringKind}
use Rattle.cborn_model.specs.declared.visitors.StringKind.TheVariants.{OfBytes, OfText}
use Rattle.cborn_wire.specs.declared.heads.Argument.TheVariants.{Given}
use Rattle.cborn_wire.proofs.HeadReading.HeadFronts.{direct_head, wide_head, wide_fronts}
use Rattle.cborn_wire.proofs.HeadReading.HeadSteps.{head_some, head_taken}
use Rattle.cborn_wire.proofs.Visiting.Counting.{no_string}
use Rattle.cborn_wire.proofs.Machine.TakesItems.{slot_plain}
use Rattle.cborn_wire.proofs.Machine.Pieces.{major_of_head, info_of_head, content_done}
use Rattle.cborn_wire.proofs.Machine.Running.{run-append}
use Rattle.cborn_wire.proofs.Machine.SoundRuns.{code_at}

-- the head

pub given_direct : (x : List ℕ) → AreBytes x → 1 ≤ length x → get_or x 0 0 % 32 < 24 → IsGiven x (record { first = get_or x 0 0; width = Direct; argument = get_or x 0 0 % 32; len = 1 })
given_direct x h e g = grind (arith, common_steps, nat_tests, direct_head)

not_other : (n : ℕ) → n < 7 → major_at n ≡ Other → ⊥
not_other n h e = absurd (omega (arith, h, code_at n (omega arith), ap code e))

pub given_wide : (x rest : List ℕ) (w : Width) (n k : ℕ) → rest ≡ drop 1 x → AreBytes x → 1 ≤ length x → get_or x 0 0 < 224 → info_at (get_or x 0 0 % 32) ≡ Next w → width_bytes w ≤ length rest → n ≡ number w (take (width_bytes w) rest) → k ≡ width_bytes w
    → IsGiven x (record { first = get_or x 0 0; width = w; argument = n; len = 1 + k })
given_wide [] rest w n k same are some low i all value len = absurd (omega arith)
given_wide (b ∷ y) rest w n k same are some low i all value len =
    record {
      head =
          wide_fronts (b ∷ y) y (Full (record { major = b / 32; argument = Given w n }) (1 + k)) (major_at (b / 32)) w refl some (code_at (b / 32) (omega arith)) i (not_other (b / 32) (omega arith))
          (λ c e j free. subst (λ m. IsHeadOf (c ∷ y) (record { major = m; argument = Given w n }) (1 + k)) (e ∙ code_at (b / 32) (omega arith)) (wide_head y c (c / 32) n k w (omega (arith, e, code_at (b / 32) (omega arith))) refl j are.1 (subst (λ r. width_bytes w ≤ length r) same all) (subst (λ r. n ≡ number w (take (width_bytes w) r)) same value) len free));
      first = refl;
      direct = λ h. absurd (omega arith);
    }

-- which heads are those of leaves

text_major : (n : ℕ) (w : Width) → IsLeaf (major_at n) w → 3 ≤ n → n < 7 → n ≡ 3
text_major n w h e g = grind (arith, common_steps, nat_tests)

pub bytes_are : (p n k : ℕ) (w : Width) (x : List ℕ) → n ≡ 2 → string_tree p OfBytes w x ≡ leaf_tree p (major_at n) w k x
bytes_are p n k w x e = ap (λ m. leaf_tree p (major_at m) w k x) (sym e)

pub text_is : (p n k : ℕ) (w : Width) (x : List ℕ) → IsLeaf (major_at n) w → 3 ≤ n → n < 7 → string_tree p OfText w x ≡ leaf_tree p (major_at n) w k x
text_is p n k w x l low high = ap (λ m. leaf_tree p (major_at m) w k x) (sym (text_major n w l low high))

pub string_free : (f : Partial) (k : StringKind) → TakesItem f → TakesString f k
string_free f k h = grind (arith, common_steps, nat_tests)

-- a leaf is allowed wherever an item is

pub plain_slot : (f : Partial) → TakesItem f → IsNoChunkSlot (slot (open_in f))
plain_slot f h = slot_plain (open_in f) (no_string f h)

pub leaf_free : (s : Slot) (full : Bool) (m : Major) (w : Width) (n : ℕ) → IsNoChunkSlot s → IsLeaf m w → head_reason s full m (info_for (heads.Given w n)) [] ≡ None
leaf_free s full m w n h e = grind (arith, common_steps, nat_tests)

leaf_allowed : (limit : ℕ) (os : List OpenContainer) (x : List ℕ) (m : Major) (w : Width) (n : ℕ) (rest : List ℕ) → WidthFits w n → x ≡ heads.head m (heads.Given w n) ++ rest → IsNoChunkSlot (slot os) → IsLeaf m w
    → None ≡ head_reason (slot os) (leb limit (open_depth os)) (major_at (get_or x 0 0 / 32)) (info_at (get_or x 0 0 % 32)) []
leaf_allowed limit os [] m w n rest fits e h l = absurd (omega (arith, ap length e))
leaf_allowed limit os (b ∷ y) m w n rest fits e h l =
    sym (ap (λ j. head_reason (slot os) (leb limit (open_depth os)) j (info_at (b % 32)) []) (major_of_head m (heads.Given w n) b y rest fits e)
    ∙ ap (λ i. head_reason (slot os) (leb limit (open_depth os)) m i []) (info_of_head m (heads.Given w n) b y rest fits e)
    ∙ leaf_free (slot os) (leb limit (open_depth os)) m w n h l)

-- a level in which an item may be next
pub plain_kind : (k : LevelKind) (m : ℕ) → is_chunks k ≡ false → IsNoChunkSlot (slot_of k m)
plain_kind k m h = grind arith

-- what is made of one

string_read : (limit at p : ℕ) (rd : Trees) (os : List OpenContainer) (k : StringKind) (w : Width) (n : ℕ) (x : List ℕ) → length x ≡ n → run limit (content_at at p rd os k w n []) x ≡ finished (at + length x) rd os (string_tree p k w x)
string_read limit at p rd os k w n x h = grind (arith, common_steps, nat_tests, content_done, lt-leb)

-- its content after its head
content_read : (limit at p : ℕ) (rd : Trees) (os : List OpenContainer) (m : Major) (w : Width) (n : ℕ) (x : List ℕ) → IsLeaf m w → length x ≡ content_len m n
    → run limit (after_head at p rd os m (heads.Given w n)) x ≡ finished (at + length x) rd os (leaf_tree p m w n x)
content_read limit at p rd os Unsigned w n [] l e = ap (λ k. finished k rd os (Uint p w n)) (omega arith)
content_read limit at p rd os Negative w n [] l e = ap (λ k. finished k rd os (Nint p w n)) (omega arith)
content_read limit at p rd os Other Direct n [] l e = ap (λ k. finished k rd os (Simple p n)) (omega arith)
content_read limit at p rd os ByteString w n x l e = string_read limit at p rd os OfBytes w n x e
content_read limit at p rd os TextString w n x l e = string_read limit at p rd os OfText w n x e
content_read limit at p rd os Other w n x l e = cc
content_read limit at p rd os m w n (b ∷ x) l e = absurd (omega (arith, e))
content_read limit at p rd os m w n [] l e = absurd l

pub leaf_read : (limit at : ℕ) (f : Partial) (x y : List ℕ) (h : GivenHead) (n : ℕ) → TakesItem f → IsLeafOf x h n → take n x ≡ take h.len x ++ y
    → run limit (state at f no_part) (take n x) ≡ finished (at + n) (ready f) (open_in f) (leaf_tree at (major_at (h.first / 32)) h.width h.argument y)
leaf_read limit at f x y h n takes leaf cut =
    let m = major_at (h.first / 32) in
    let len : length y ≡ content_len m h.argument = omega (arith, ap length cut, length-append (take h.len x) y, length-take-le n x leaf.whole, length-take-le h.len x (omega (arith, leaf.len, leaf.whole)), leaf.len) in
    ap (run limit (state at f no_part)) cut
    ∙ run-append limit (state at f no_part) (take h.len x) y
    ∙ ap (λ s. run limit s y) (head_taken limit at (ready f) (open_in f) x (record { major = h.first / 32; argument = Given h.width h.argument }) h.len leaf.given.head (leaf_allowed limit (open_in f) x m h.width h.argument leaf.given.head.rest leaf.given.head.fits leaf.given.head.whole (plain_slot f takes) leaf.leaf))
    ∙ content_read limit (at + h.len) at (ready f) (open_in f) m h.width h.argument y leaf.leaf len
    ∙ ap (λ k. finished k (ready f) (open_in f) (leaf_tree at m h.width h.argument y)) (omega (arith, leaf.len, len))

pub item_after : (f : Partial) (t : Tree) → TakesItem f → TakesItem (put f t)
item_after f t h = grind (arith, common_steps, nat_tests)

pub leaf_cut : (x : List ℕ) (g : GivenHead) (n : ℕ) → IsLeafOf x g n → take n x ≡ take g.len x ++ take (n - g.len) (drop g.len x)
leaf_cut x g n leaf = ap (λ k. take k x) (omega (arith, leaf.len)) ∙ take-add g.len (n - g.len) x

pub leaf_some : (x : List ℕ) (g : GivenHead) (n : ℕ) → IsLeafOf x g n → 0 < n
leaf_some x g n leaf = omega (arith, leaf.len, leaf.given.head.len, head_some (major_at (g.first / 32)) (heads.Given g.width g.argument))

-- n bytes of the piece are taken, which make the state s
pub taken_as : (limit place n : ℕ) (f : Partial) (piece : List ℕ) (holds : Partial → Part → Type 0) (outer : List Level) (inner : Level) (s : State) (left : ℕ) → run limit (state place f no_part) (take n piece) ≡ s
    → left ≡ 0 → Stands holds outer inner left (place + n) s → AtMostOneMore (ready f) s → TakesHead limit place f piece holds outer inner n
taken_as limit place n f piece holds outer inner s left goes none stands more = grind arith
