-- A list of bytes has one reading at most, and no item begins another. Nodes that are at their offsets stay as they are.
use Rattle.std.specs.Prelude.{◌≡◌, ◌+◌, ◌≤◌, ◌++◌, ◌∷◌}
use Rattle.cborn_wire.proofs.Common.{refl, sym, ap, ◌∙◌, subst, ℕ, List, [], length, max, arith, append_assoc, append-nil, length-append, add-zero, append_cancel_left, AreBytes, Tree, Trees, trees, no_item, more, depth, depth_all, spelled, spelled_all, Fits, FitsAll, Wellformed, Placed, PlacedAll, placed_from, all_from, append_trees, snoc, nothing, State, Live, Failed, start, ready_in, front, run, suc, Chunk, Major, ByteString, TextString, Array, Map, Tag, Given, head, argument, Uint, Nint, Bytes, Text, ByteChunks, TextChunks, Items, Pairs, Tagged, Simple, Entries, no_entry, entry, count, count_entries, chunk_bytes, ChunksPlaced, PlacedEntries, chunks_from, entries_from, cases_lt, common_steps, nat_tests, append_same}
use Rattle.cborn_wire.proofs.Machine.Running.{run-append}
use Rattle.cborn_wire.proofs.Machine.TakesItems.{takes, append_trees-nil, append_trees-snoc}
use Rattle.cborn_wire.proofs.Machine.SoundRuns.{sound}
use Rattle.cborn_wire.proofs.Spelled.AllBytes.{well_bytes}
use Rattle.cborn_wire.proofs.Spelled.TreeLists.{tree_list, trees-tree_list}
use Rattle.cborn_wire.proofs.Machine.WholeFront.{with_front, front_run}

same_chunks : (m : Major) (cs : List Chunk) (p : ℕ) → ChunksPlaced m p cs → chunks_from m p cs ≡ cs
same_chunks m [] p h = refl
same_chunks m (c ∷ cs) p h = ap (λ q. record c { place = q } ∷ chunks_from m (p + length (chunk_bytes m c)) cs) (sym h.0) ∙ ap (λ l. c ∷ l) (same_chunks m cs _ h.1)

mutual
  pub same-from : (t : Tree) (p : ℕ) → Placed p t → placed_from p t ≡ t
  same-from (Uint q w n) p h = ap (λ k. Uint k w n) (sym h)
  same-from (Nint q w n) p h = ap (λ k. Nint k w n) (sym h)
  same-from (Bytes q w bytes) p h = ap (λ k. Bytes k w bytes) (sym h)
  same-from (Text q w bytes) p h = ap (λ k. Text k w bytes) (sym h)
  same-from (ByteChunks q cs) p h = ap (λ k. ByteChunks k (chunks_from ByteString (suc p) cs)) (sym h.0) ∙ ap (ByteChunks q) (same_chunks ByteString cs _ h.1)
  same-from (TextChunks q cs) p h = ap (λ k. TextChunks k (chunks_from TextString (suc p) cs)) (sym h.0) ∙ ap (TextChunks q) (same_chunks TextString cs _ h.1)
  same-from (Items q s ts) p h = ap (λ k. Items k s (all_from (p + length (head Array (argument s (count ts)))) ts)) (sym h.0) ∙ ap (Items q s) (same_all-from ts _ h.1)
  same-from (Pairs q s es) p h = ap (λ k. Pairs k s (entries_from (p + length (head Map (argument s (count_entries es)))) es)) (sym h.0) ∙ ap (Pairs q s) (same_entries-from es _ h.1)
  same-from (Tagged q w n t) p h = ap (λ k. Tagged k w n (placed_from (p + length (head Tag (Given w n))) t)) (sym h.0) ∙ ap (Tagged q w n) (same-from t _ h.1)
  same-from (Simple q n) p h = ap (λ k. Simple k n) (sym h)

  pub same_all-from : (ts : Trees) (p : ℕ) → PlacedAll p ts → all_from p ts ≡ ts
  same_all-from no_item p h = refl
  same_all-from (more t ts) p h = ap (λ u. more u (all_from (p + length (spelled t)) ts)) (same-from t p h.0) ∙ ap (more t) (same_all-from ts _ h.1)

  same_entries-from : (es : Entries) (p : ℕ) → PlacedEntries p es → entries_from p es ≡ es
  same_entries-from no_entry p h = refl
  same_entries-from (entry k v es) p h =
      ap (λ u. entry u (placed_from (p + length (spelled k)) v) (entries_from (p + length (spelled k) + length (spelled v)) es)) (same-from k p h.0)
      ∙ ap (λ u. entry k u (entries_from (p + length (spelled k) + length (spelled v)) es)) (same-from v _ h.1)
      ∙ ap (entry k v) (same_entries-from es _ h.2)

pub takes_sequence : (ts : Trees) (limit fed : ℕ) (ready : Trees) (x : List ℕ) → FitsAll ts → depth_all ts ≤ limit
    → run limit (Live fed ready [] nothing) (spelled_all ts ++ x) ≡ run limit (Live (fed + length (spelled_all ts)) (append_trees ready (all_from fed ts)) [] nothing) x
takes_sequence no_item limit fed ready x fits deep = rw (append_trees-nil, add-zero) refl
takes_sequence (more t ts) limit fed ready x fits deep =
    let rest = spelled_all ts in
    let next = fed + length (spelled t) in
    let u = placed_from fed t in
    let us = all_from next ts in
    let total : next + length rest ≡ fed + length (spelled t ++ rest) = omega (arith, length-append (spelled t) rest) in
    ap (run limit (Live fed ready [] nothing)) (append_assoc (spelled t) rest x)
    ∙ takes t limit fed ready [] (rest ++ x) fits.0 tt (omega arith)
    ∙ takes_sequence ts limit next (snoc ready u) x fits.1 (omega arith)
    ∙ ap (λ k. run limit (Live k (append_trees (snoc ready u) us) [] nothing) x) total
    ∙ ap (λ l. run limit (Live (fed + length (spelled t ++ rest)) l [] nothing) x) (append_trees-snoc ready u us)

-- What is well-formed is read, wherever it begins.
pub reads : (limit p : ℕ) (ts : Trees) (x : List ℕ) → Wellformed limit ts x → run limit (start p) x ≡ Live (p + length x) (all_from p ts) [] nothing
reads limit p ts x h =
    ap (run limit (start p)) (sym h.spells ∙ sym (append-nil (spelled_all ts)))
    ∙ takes_sequence ts limit p no_item [] h.fit h.shallow
    ∙ ap (λ l. Live (p + length l) (all_from p ts) [] nothing) h.spells

-- Where nothing is open the items are the reading.
pub ends_read : (limit base : ℕ) (x : List ℕ) → AreBytes x → (fed : ℕ) (ready : Trees) → run limit (start base) x ≡ Live fed ready [] nothing → Wellformed limit ready x × PlacedAll base ready
ends_read limit base x bytes fed ready e = grind (arith, append-nil, sound)

-- So each node may be at its offset,
pub placed_reading : (limit p : ℕ) (ts : Trees) (x : List ℕ) → Wellformed limit ts x → Wellformed limit (all_from p ts) x × PlacedAll p (all_from p ts)
placed_reading limit p ts x w = ends_read limit p x (well_bytes limit ts x w) (p + length x) (all_from p ts) (reads limit p ts x w)

-- in a list,
pub listed_reading : (limit p : ℕ) (ts : Trees) (x : List ℕ) → Wellformed limit ts x → Wellformed limit (trees (tree_list (all_from p ts))) x × PlacedAll p (trees (tree_list (all_from p ts)))
listed_reading limit p ts x w = subst (λ us. Wellformed limit us x × PlacedAll p us) (sym (trees-tree_list (all_from p ts))) (placed_reading limit p ts x w)

-- and alone.
pub placed_node : (p : ℕ) (t : Tree) → Fits t → (spelled (placed_from p t) ≡ spelled t) × Fits (placed_from p t) × (depth (placed_from p t) ≤ depth t) × Placed p (placed_from p t)
placed_node p t h =
    let u = placed_from p t in
    let (w, placed) = placed_reading (depth t) p (more t no_item) (spelled t ++ []) (record { spells = refl; fit = (h, tt); shallow = omega arith }) in
    (sym (append-nil (spelled u)) ∙ w.spells ∙ append-nil (spelled t), w.fit.0, omega (arith, w.shallow), placed.0)

-- but for offsets
pub one_reading : (limit : ℕ) (ts us : Trees) (x : List ℕ) → Wellformed limit ts x → Wellformed limit us x → (p : ℕ) → all_from p ts ≡ all_from p us
one_reading limit ts us x h k p = ap ready_in (sym (reads limit p ts x h) ∙ reads limit p us x k)

-- placed
pub one_placed_reading : (limit p : ℕ) (ts us : Trees) (x : List ℕ) → Wellformed limit ts x → Wellformed limit us x → PlacedAll p ts → PlacedAll p us → ts ≡ us
one_placed_reading limit p ts us x h k a b = sym (same_all-from ts p a) ∙ one_reading limit ts us x h k p ∙ same_all-from us p b

-- without a limit
pub one_spelling : (ts us : Trees) → FitsAll ts → FitsAll us → spelled_all ts ≡ spelled_all us → (p : ℕ) → all_from p ts ≡ all_from p us
one_spelling ts us h k e = one_reading (max (depth_all ts) (depth_all us)) ts us (spelled_all us)
    (record { spells = e; fit = h; shallow = omega arith }) (record { spells = refl; fit = k; shallow = omega arith })

-- no item's bytes are a proper front of another's
no_front : (t u : Tree) (y : List ℕ) → Fits t → Fits u → spelled t ++ y ≡ spelled u → (y ≡ []) × (placed_from 0 t ≡ placed_from 0 u)
no_front t u y h k e =
    let limit = max (depth t) (depth u) in
    let t' = placed_from 0 t in
    let u' = placed_from 0 u in
    let end = 0 + length (spelled t) in
    let left : run limit (start 0) (spelled t ++ y) ≡ with_front (more t' no_item) (run limit (start end) y)
    = takes t limit 0 no_item [] y h tt (omega arith) ∙ front_run (more t' no_item) limit y (start end) in
    let right : run limit (start 0) (spelled u ++ []) ≡ Live (0 + length (spelled u)) (more u' no_item) [] nothing = takes u limit 0 no_item [] [] k tt (omega arith) in
    let all : with_front (more t' no_item) (run limit (start end) y) ≡ Live (0 + length (spelled u)) (more u' no_item) [] nothing
    = sym left ∙ ap (run limit (start 0)) (e ∙ sym (append-nil (spelled u))) ∙ right in
    let same : t' ≡ u' = first_is t' u' (run limit (start end) y) all in
    (append_cancel_left (spelled t) y [] (e ∙ sym (placed_node 0 u k).0 ∙ sym (ap spelled same) ∙ (placed_node 0 t h).0 ∙ sym (append-nil (spelled t))), same)
  where
    first_is : (t u : Tree) (s : State) {fed : ℕ} → with_front (more t no_item) s ≡ Live fed (more u no_item) [] nothing → t ≡ u
    first_is t u (Live fed ready os partial) e = cc
    first_is t u (Failed ready p r) e = cc

pub no_item_begins : (t u : Tree) (y : List ℕ) → Fits t → Fits u → spelled t ++ y ≡ spelled u → (y ≡ []) × ((p : ℕ) → placed_from p t ≡ placed_from p u)
no_item_begins t u y h k e =
    let nil : y ≡ [] = (no_front t u y h k e).0 in
    let same : spelled t ++ [] ≡ spelled u ++ [] = ap (λ l. spelled t ++ l) (sym nil) ∙ e ∙ sym (append-nil (spelled u)) in
    (nil, λ p. cc (one_spelling (more t no_item) (more u no_item) (h, tt) (k, tt) same p))

-- For a feeder: what is left once the first item was taken is what the bytes after it make.
pub after_first : (t : Tree) (limit p : ℕ) (x : List ℕ) → Fits t → depth t ≤ limit → Placed p t
    → run limit (start p) (spelled t ++ x) ≡ with_front (more t no_item) (run limit (start (p + length (spelled t))) x)
after_first t limit p x fits deep placed =
    takes t limit p no_item [] x fits tt (omega arith) ∙ ap (λ u. run limit (Live (p + length (spelled t)) (more u no_item) [] nothing) x) (same-from t p placed) ∙ front_run (more t no_item) limit x (start (p + length (spelled t)))

pub ready_front : (front : Trees) (s : State) → ready_in (with_front front s) ≡ append_trees front (ready_in s)
ready_front front s = grind (arith, common_steps, nat_tests)

-- Each well-formed front of what was read is among the items that are whole: they are the longest.
pub longest : (limit p : ℕ) (ts : Trees) (x y : List ℕ) → Wellformed limit ts x → (us : Trees) × (ready_in (run limit (start p) (x ++ y)) ≡ append_trees (all_from p ts) us)
longest limit p ts x y h =
    let s = run limit (start (p + length x)) y in
    (ready_in s, ap ready_in (run-append limit (start p) x y ∙ ap (λ u. run limit u y) (reads limit p ts x h ∙ ap (λ l. Live (p + length x) l [] nothing) (sym (append_trees-nil (all_from p ts)))) ∙ front_run (all_from p ts) limit y (start (p + length x))) ∙ ready_front (all_from p ts) s)

-- ---- of two nodes at the front of the same bytes

-- one list is the front of another that begins with the same
pub split : (g h z r : List ℕ) → g ++ z ≡ h ++ r → length g ≤ length h → (m : List ℕ) × (h ≡ g ++ m)
split [] h z r e l = (h, refl)
split (b ∷ g) [] z r e l = absurd (omega (arith, l))
split (b ∷ g) (c ∷ h) z r e l =
    let rest : g ++ z ≡ h ++ r = cc in
    let first : c ≡ b = cc in
    let (m, is) = split g h z r rest (omega (arith, l)) in
    (m, ap (λ k. k ∷ h) first ∙ ap (λ k. b ∷ k) is)

shorter : (t u : Tree) (x y : List ℕ) → Fits t → Fits u → spelled t ++ x ≡ spelled u ++ y → length (spelled t) ≤ length (spelled u) → spelled t ≡ spelled u
shorter t u x y f g e less =
    let (z, is) = split (spelled t) (spelled u) x y e less in
    sym (is ∙ ap (λ w. spelled t ++ w) (no_item_begins t u z f g (sym is)).0 ∙ append-nil (spelled t))

pub one_front : (t u : Tree) (x y : List ℕ) → Fits t → Fits u → spelled t ++ x ≡ spelled u ++ y → (spelled t ≡ spelled u) × (x ≡ y)
one_front t u x y f g e = grind (arith, append_same, cases_lt, shorter)
