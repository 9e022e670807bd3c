-- The machine takes what an item spells, and has that item.
use Rattle.cborn_wire.proofs.Common.{refl, sym, ap, ◌∙◌, subst, ℕ, List, [], length, map, Bool, false, cond, leb, Some, None, arith, append_assoc, append-nil, length-append, add-zero, lt-leb, le-leb, IsTrue, Width, Size, Fixed, Endless, Chunk, Major, Unsigned, Negative, ByteString, TextString, Array, Map, Tag, Other, Given, EndlessArgument, head, WidthFits, least, is_simple_value, argument, SizeFits, Opening, an_array, a_map, a_tag, in_chunks, built, string_tree, paired, chunks_of, Goes, Ends, Tree, Uint, Nint, Bytes, Text, ByteChunks, TextChunks, Items, Pairs, Tagged, Simple, Trees, no_item, more, Entries, no_entry, entry, trees, count, count_entries, depth, depth_all, ending, string, spelled, spelled_all, Fits, FitsAll, string_of, placed_from, StringKind, OfBytes, OfText, major_of, Slot, chunk, OpenContainer, opened, opening, slot, slot_in, slot_in_map, added_depth, open_depth, HeadFits, IsNoString, needs_item, ArgumentFits, Info, EndlessInformation, is_reserved, is_endless_head, is_always_bounded, is_other, is_container, is_bad_chunk, head_reason, info_for, append_trees, snoc, content_of, nothing, gathering, Live, is_full, finished, holding, gather, after_head, run, IsNoChunkSlot, common_steps, nat_tests, strings, strings_are, count_entries-entries, simple_fits}
use Rattle.std.specs.Prelude.{Option, ◌≡◌, ◌+◌, ◌<◌, ◌≤◌, ◌∷◌, ◌++◌, ◌&&◌}
use Rattle.cborn_wire.proofs.Machine.Containers.{nodes_of, nodes_entries, nodes_end, nodes_fit, nodes_deep, strings_fitting, strings_flat, not_yet, closing, endless_closing, full_closing, built_spelled, list_from, opening_from, ends_from, built_from}
use Rattle.cborn_wire.proofs.Machine.TakesHeads.{gathers, takes_head}
use Rattle.cborn_wire.proofs.Spelled.TreeLists.{tree_list, trees-tree_list, tree_count}

-- Which heads are allowed in a slot.

pub map_plain : (c : Option ℕ) (x : Option Tree) → IsNoChunkSlot (slot_in_map c x)
map_plain c x = grind (arith, common_steps, nat_tests)

pub slot_plain : (os : List OpenContainer) → IsNoString os → IsNoChunkSlot (slot os)
slot_plain os h = grind (arith, common_steps, nat_tests)

pub no_chunk : (s : Slot) (m : Major) (i : Info) → IsNoChunkSlot s → is_bad_chunk s m i ≡ false
no_chunk s m i h = grind (arith, common_steps, nat_tests)

no_bad_chunk : (os : List OpenContainer) (m : Major) (i : Info) → IsNoString os → is_bad_chunk (slot os) m i ≡ false
no_bad_chunk os m i h = no_chunk (slot os) m i (slot_plain os h)

clear : (s : Slot) (full : Bool) (m : Major) (i : Info) → is_bad_chunk s m i ≡ false → is_reserved i ≡ false → (is_endless_head i && is_always_bounded m) ≡ false → is_other m ≡ false → (is_container m && full) ≡ false
    → head_reason s full m i [] ≡ None
clear s full m i bad reserved bounded other room = rw (reserved, bounded, bad, other, room) refl

given_reserved : (w : Width) (n : ℕ) → is_reserved (info_for (Given w n)) ≡ false
given_reserved w n = grind (arith, common_steps, nat_tests)

pub given_endless : (w : Width) (n : ℕ) → is_endless_head (info_for (Given w n)) ≡ false
given_endless w n = grind (arith, common_steps, nat_tests)

pub clear_given : (s : Slot) (full : Bool) (m : Major) (w : Width) (n : ℕ) → is_bad_chunk s m (info_for (Given w n)) ≡ false → is_other m ≡ false → (is_container m && full) ≡ false → head_reason s full m (info_for (Given w n)) [] ≡ None
clear_given s full m w n bad other room = clear s full m _ bad (given_reserved w n) (ap (λ b. b && is_always_bounded m) (given_endless w n)) other room

clear_simple : (s : Slot) (full : Bool) (n : ℕ) → IsTrue (is_simple_value n) → ((i : Info) → is_bad_chunk s Other i ≡ false) → head_reason s full Other (info_for (Given (least n) n)) [] ≡ None
clear_simple s full n v bad = grind (arith, common_steps, nat_tests)

clear_chunk : (k : StringKind) (full : Bool) (w : Width) (n : ℕ) → head_reason (chunk k) full (major_of k) (info_for (Given w n)) [] ≡ None
clear_chunk k full w n = grind (arith, common_steps, nat_tests)

-- A definite string, also as a chunk.

starts_string : (fed p : ℕ) (ready : Trees) (os : List OpenContainer) (k : StringKind) (w : Width) (n : ℕ)
    → after_head fed p ready os (major_of k) (Given w n) ≡ gather fed p ready os (content_of k w) n []
starts_string fed p ready os k w n = grind (arith, common_steps, nat_tests)

takes_string : (limit fed : ℕ) (ready : Trees) (os : List OpenContainer) (k : StringKind) (w : Width) (bytes x : List ℕ) → WidthFits w (length bytes)
    → head_reason (slot os) (leb limit (open_depth os)) (major_of k) (info_for (Given w (length bytes))) [] ≡ None
    → run limit (Live fed ready os nothing) (string (major_of k) w bytes ++ x) ≡ run limit (finished (fed + length (string (major_of k) w bytes)) ready os (string_tree fed k w bytes)) x
takes_string limit fed ready os k w bytes x h r =
    let start = head (major_of k) (Given w (length bytes)) in
    let total : fed + length start + length bytes ≡ fed + length (start ++ bytes) = omega (arith, length-append start bytes) in
    ap (run limit (Live fed ready os nothing)) (append_assoc start bytes x)
    ∙ takes_head limit fed ready os (major_of k) (Given w (length bytes)) (bytes ++ x) h r
    ∙ ap (λ s. run limit s (bytes ++ x)) (starts_string (fed + length start) fed ready os k w (length bytes))
    ∙ gathers limit bytes (fed + length start) fed ready os (content_of k w) (length bytes) [] x (omega arith)
    ∙ ap (λ c. run limit (cond c (finished (fed + length start + length bytes) ready os (string_tree fed k w bytes)) (Live (fed + length start + length bytes) ready os (gathering fed (content_of k w) (length bytes) bytes))) x) (le-leb (length bytes) (length bytes) (omega arith))
    ∙ ap (λ q. run limit (finished q ready os (string_tree fed k w bytes)) x) total

-- Containers.

pub append_trees-nil : (ts : Trees) → append_trees ts no_item ≡ ts
append_trees-nil no_item = refl
append_trees-nil (more t ts) = ap (more t) (append_trees-nil ts)

pub append_trees-snoc : (us : Trees) (t : Tree) (ts : Trees) → append_trees (snoc us t) ts ≡ append_trees us (more t ts)
append_trees-snoc no_item t ts = refl
append_trees-snoc (more u us) t ts = ap (more u) (append_trees-snoc us t ts)

pub size_fits : (s : Size) (n : ℕ) → SizeFits s n → ArgumentFits (argument s n)
size_fits s n h = grind (arith, common_steps, nat_tests)

module _ (limit fed : ℕ) (ready : Trees) (os : List OpenContainer) where
  -- the head of a container
  pub takes_opening : (o : Opening) (x : List ℕ) → HeadFits o → IsNoString os → added_depth o + open_depth os ≤ limit
      → run limit (Live fed ready os nothing) (opening o ++ x) ≡ run limit (holding (fed + length (opening o)) ready os (opening_from fed o) []) x
  takes_opening (an_array p (Fixed w) (Some n)) x fits free deep = takes_head limit fed ready os Array (Given w n) x fits (clear_given (slot os) (leb limit (open_depth os)) Array w n (no_bad_chunk os Array _ free) refl (lt-leb limit (open_depth os) (omega (arith, deep))))
  takes_opening (an_array p Endless None) x fits free deep = takes_head limit fed ready os Array EndlessArgument x tt (clear (slot os) (leb limit (open_depth os)) Array EndlessInformation (no_bad_chunk os Array _ free) refl refl refl (lt-leb limit (open_depth os) (omega (arith, deep))))
  takes_opening (a_map p (Fixed w) (Some n)) x fits free deep = takes_head limit fed ready os Map (Given w n) x fits (clear_given (slot os) (leb limit (open_depth os)) Map w n (no_bad_chunk os Map _ free) refl (lt-leb limit (open_depth os) (omega (arith, deep))))
  takes_opening (a_map p Endless None) x fits free deep = takes_head limit fed ready os Map EndlessArgument x tt (clear (slot os) (leb limit (open_depth os)) Map EndlessInformation (no_bad_chunk os Map _ free) refl refl refl (lt-leb limit (open_depth os) (omega (arith, deep))))
  takes_opening (a_tag p w n) x fits free deep = takes_head limit fed ready os Tag (Given w n) x fits (clear_given (slot os) (leb limit (open_depth os)) Tag w n (no_bad_chunk os Tag _ free) refl (lt-leb limit (open_depth os) (omega (arith, deep))))
  takes_opening (in_chunks p OfBytes) x fits free deep = takes_head limit fed ready os ByteString EndlessArgument x tt (clear (slot os) (leb limit (open_depth os)) ByteString EndlessInformation (no_bad_chunk os ByteString _ free) refl refl refl refl)
  takes_opening (in_chunks p OfText) x fits free deep = takes_head limit fed ready os TextString EndlessArgument x tt (clear (slot os) (leb limit (open_depth os)) TextString EndlessInformation (no_bad_chunk os TextString _ free) refl refl refl refl)
  takes_opening o x fits free deep = absurd fits

  -- a break
  pub takes_break : (o : Opening) (ts : List Tree) (x : List ℕ) → needs_item (slot_in (opened o ts)) ≡ false
      → run limit (Live fed ready (opened o ts ∷ os) nothing) (ending Endless ++ x) ≡ run limit (finished (fed + 1) ready os (built o ts)) x
  takes_break o ts x e = grind (arith, common_steps, nat_tests)

  -- the end of one that may end
  takes_closing : (o : Opening) (ts : List Tree) (x : List ℕ) → Ends o ts
      → run limit (holding fed ready os o ts) (closing o ++ x) ≡ run limit (finished (fed + length (closing o)) ready os (built o ts)) x
  takes_closing o ts x h = grind (arith, add-zero, closing, endless_closing, full_closing, takes_break)

-- The machine takes t inside such a container.
abbrev pub Taken : ℕ → Opening → Tree → Type 0
Taken limit o t =
    (fed : ℕ) (ready : Trees) (os : List OpenContainer) (ts : List Tree) (x : List ℕ) → Fits t → added_depth o + open_depth os + depth t ≤ limit
    → run limit (Live fed ready (opened o ts ∷ os) nothing) (spelled t ++ x) ≡ run limit (finished (fed + length (spelled t)) ready (opened o ts ∷ os) (placed_from fed t)) x

abbrev pub AllTaken : ℕ → Opening → List Tree → Type 0
AllTaken limit o [] = Unit {0}
AllTaken limit o (t ∷ ts) = Taken limit o t × AllTaken limit o ts

-- nodes after those that are there
pub takes_nodes : (us : List Tree) (limit fed : ℕ) (ready : Trees) (os : List OpenContainer) (o : Opening) (before : List Tree) (x : List ℕ) → AllTaken limit o us → FitsAll (trees us)
    → added_depth o + open_depth os + depth_all (trees us) ≤ limit → ((k : ℕ) → k < length before + length us → is_full o k ≡ false)
    → run limit (holding fed ready os o before) (spelled_all (trees us) ++ x) ≡ run limit (holding (fed + length (spelled_all (trees us))) ready os o (before ++ list_from fed us)) x
takes_nodes [] limit fed ready os o before x taken fits deep room = rw (append-nil, add-zero) refl
takes_nodes (u ∷ us) limit fed ready os o before x taken fits deep room =
    let rest = spelled_all (trees us) in
    let next = fed + length (spelled u) in
    let now = before ++ placed_from fed u ∷ [] in
    let total : next + length rest ≡ fed + length (spelled u ++ rest) = omega (arith, length-append (spelled u) rest) in
    ap (run limit (holding fed ready os o before)) (append_assoc (spelled u) rest x)
    ∙ ap (λ c. run limit (cond c (finished fed ready os (built o before)) (Live fed ready (opened o before ∷ os) nothing)) (spelled u ++ (rest ++ x))) (room (length before) (omega arith))
    ∙ taken.0 fed ready os before (rest ++ x) fits.0 (omega (arith, deep))
    ∙ takes_nodes us limit next ready os o now x taken.1 fits.1 (omega (arith, deep)) (λ k h. room k (omega (arith, h, length-append before (placed_from fed u ∷ []))))
    ∙ ap (λ q. run limit (holding q ready os o (now ++ list_from next us)) x) total
    ∙ ap (λ l. run limit (holding (fed + length (spelled u ++ rest)) ready os o l) x) (append_assoc before (placed_from fed u ∷ []) (list_from next us))

-- the machine takes t
abbrev pub IsTaken : ℕ → ℕ → Trees → List OpenContainer → List ℕ → Tree → Type 0
IsTaken limit fed ready os x t = run limit (Live fed ready os nothing) (spelled t ++ x) ≡ run limit (finished (fed + length (spelled t)) ready os (placed_from fed t)) x

-- a whole container, which is at its offset
takes_container : (limit fed : ℕ) (ready : Trees) (os : List OpenContainer) (o : Opening) (us : List Tree) (x : List ℕ) → opening_from fed o ≡ o → AllTaken limit o us → HeadFits o → FitsAll (trees us) → Ends o us
    → IsNoString os → added_depth o + open_depth os + depth_all (trees us) ≤ limit → IsTaken limit fed ready os x (built o us)
takes_container limit fed ready os o us x here taken fit all ends free deep =
    let start = opening o in
    let content = spelled_all (trees us) in
    let inner = fed + length start in
    let vs = list_from inner us in
    let is : spelled (built o us) ≡ start ++ content ++ closing o = built_spelled o us fit ends in
    let cut : (start ++ content ++ closing o) ++ x ≡ start ++ (content ++ (closing o ++ x)) = simp append_assoc in
    let total : inner + length content + length (closing o) ≡ fed + length (start ++ content ++ closing o) = omega (arith, length-append (start ++ content) (closing o), length-append start content) in
    ap (λ l. run limit (Live fed ready os nothing) (l ++ x)) is ∙ ap (run limit (Live fed ready os nothing)) cut
    ∙ takes_opening limit fed ready os o (content ++ (closing o ++ x)) fit free (omega (arith, deep))
    ∙ ap (λ p. run limit (holding inner ready os p []) (content ++ (closing o ++ x))) here
    ∙ takes_nodes us limit inner ready os o [] (closing o ++ x) taken all deep (λ k h. not_yet o us k ends (omega (arith, h)))
    ∙ takes_closing limit (inner + length content) ready os o vs x (ends_from o us inner ends)
    ∙ ap (λ q. run limit (finished q ready os (built o vs)) x) (total ∙ ap (λ l. fed + length l) (sym is))
    ∙ ap (λ t. run limit (finished (fed + length (spelled (built o us))) ready os t) x) (ap (λ p. built p vs) (sym here) ∙ built_from o us fed fit ends)

simple_head : (fed p : ℕ) (ready : Trees) (os : List OpenContainer) (n : ℕ) → IsTrue (is_simple_value n) → after_head fed p ready os Other (Given (least n) n) ≡ finished fed ready os (Simple p n)
simple_head fed p ready os n v = grind (arith, common_steps, nat_tests)

strings_taken : (limit p : ℕ) (k : StringKind) (cs : List Chunk) → AllTaken limit (in_chunks p k) (map (string_of k) cs)
strings_taken limit p k [] = tt
strings_taken limit p OfBytes (c ∷ cs) = (
  λ fed ready os ts x fits deep. takes_string limit fed ready (opened (in_chunks p OfBytes) ts ∷ os) OfBytes c.width c.bytes x fits.0 (clear_chunk OfBytes (leb limit (open_depth os)) c.width (length c.bytes)),
  strings_taken limit p OfBytes cs,
)
strings_taken limit p OfText (c ∷ cs) = (
  λ fed ready os ts x fits deep. takes_string limit fed ready (opened (in_chunks p OfText) ts ∷ os) OfText c.width c.bytes x fits.0 (clear_chunk OfText (leb limit (open_depth os)) c.width (length c.bytes)),
  strings_taken limit p OfText cs,
)

mutual
  pub takes : (t : Tree) (limit fed : ℕ) (ready : Trees) (os : List OpenContainer) (x : List ℕ) → Fits t → IsNoString os → open_depth os + depth t ≤ limit → IsTaken limit fed ready os x t
  takes (Uint q w n) limit fed ready os x fits free deep = takes_head limit fed ready os Unsigned (Given w n) x fits (clear_given (slot os) (leb limit (open_depth os)) Unsigned w n (no_bad_chunk os Unsigned _ free) refl refl)
  takes (Nint q w n) limit fed ready os x fits free deep = takes_head limit fed ready os Negative (Given w n) x fits (clear_given (slot os) (leb limit (open_depth os)) Negative w n (no_bad_chunk os Negative _ free) refl refl)
  takes (Bytes q w bytes) limit fed ready os x fits free deep =
      takes_string limit fed ready os OfBytes w bytes x fits.0 (clear_given (slot os) (leb limit (open_depth os)) ByteString w (length bytes) (no_bad_chunk os ByteString _ free) refl refl)
  takes (Text q w bytes) limit fed ready os x fits free deep =
      takes_string limit fed ready os OfText w bytes x fits.0 (clear_given (slot os) (leb limit (open_depth os)) TextString w (length bytes) (no_bad_chunk os TextString _ free) refl refl)
  takes (ByteChunks q cs) limit fed ready os x fits free deep =
      subst (λ ds. IsTaken limit fed ready os x (ByteChunks q ds)) (strings OfBytes cs).1 (takes_container limit fed ready os (in_chunks fed OfBytes) (map (string_of OfBytes) cs) x refl
      (strings_taken limit fed OfBytes cs) tt (strings_fitting OfBytes cs fits) (strings OfBytes cs).0 free (omega (arith, strings_flat OfBytes cs, deep)))
  takes (TextChunks q cs) limit fed ready os x fits free deep =
      subst (λ ds. IsTaken limit fed ready os x (TextChunks q ds)) (strings OfText cs).1 (takes_container limit fed ready os (in_chunks fed OfText) (map (string_of OfText) cs) x refl
      (strings_taken limit fed OfText cs) tt (strings_fitting OfText cs fits) (strings OfText cs).0 free (omega (arith, strings_flat OfText cs, deep)))
  takes (Items q (Fixed w) ts) limit fed ready os x fits free deep =
      let o = an_array fed (Fixed w) (Some (count ts)) in
      let same = trees-tree_list ts in
      subst (λ us. IsTaken limit fed ready os x (Items q (Fixed w) us)) same
      (takes_container limit fed ready os o (tree_list ts) x refl (inside_all ts limit o (λ us os. tt)) fits.0 (subst FitsAll (sym same) fits.1) (tree_count ts) free (omega (arith, ap depth_all same, deep)))
  takes (Items q Endless ts) limit fed ready os x fits free deep =
      let o = an_array fed Endless None in
      let same = trees-tree_list ts in
      subst (λ us. IsTaken limit fed ready os x (Items q Endless us)) same
      (takes_container limit fed ready os o (tree_list ts) x refl (inside_all ts limit o (λ us os. tt)) tt (subst FitsAll (sym same) fits.1) tt free (omega (arith, ap depth_all same, deep)))
  takes (Pairs q (Fixed w) es) limit fed ready os x fits free deep =
      let o = a_map fed (Fixed w) (Some (count_entries es)) in
      subst (λ fs. IsTaken limit fed ready os x (Pairs q (Fixed w) fs)) (nodes_entries es)
      (takes_container limit fed ready os o (nodes_of es) x refl (inside_pairs es limit o (λ us os. tt)) fits.0 (nodes_fit es fits.1) (sym (count_entries-entries (paired (nodes_of es))) ∙ ap count_entries (nodes_entries es), nodes_end es) free (omega (arith, nodes_deep es, deep)))
  takes (Pairs q Endless es) limit fed ready os x fits free deep =
      let o = a_map fed Endless None in
      subst (λ fs. IsTaken limit fed ready os x (Pairs q Endless fs)) (nodes_entries es)
      (takes_container limit fed ready os o (nodes_of es) x refl (inside_pairs es limit o (λ us os. tt)) tt (nodes_fit es fits.1) (tt, nodes_end es) free (omega (arith, nodes_deep es, deep)))
  takes (Tagged q w n t) limit fed ready os x fits free deep =
      takes_container limit fed ready os (a_tag fed w n) (t ∷ []) x refl (λ at rd ps us y fits deep. takes t limit at rd (opened (a_tag fed w n) us ∷ ps) y fits tt deep, tt) fits.0 (fits.1, tt) (t, refl) free (omega (arith, deep))
  takes (Simple q n) limit fed ready os x fits free deep =
      takes_head limit fed ready os Other (Given (least n) n) x (simple_fits n fits) (clear_simple (slot os) (leb limit (open_depth os)) n fits (λ i. no_bad_chunk os Other i free))
      ∙ ap (λ s. run limit s x) (simple_head (fed + length (head Other (Given (least n) n))) fed ready os n fits)

  inside_all : (ts : Trees) (limit : ℕ) (o : Opening) → ((us : List Tree) (os : List OpenContainer) → IsNoString (opened o us ∷ os)) → AllTaken limit o (tree_list ts)
  inside_all no_item limit o free = tt
  inside_all (more t ts) limit o free = (λ fed ready os us x fits deep. takes t limit fed ready (opened o us ∷ os) x fits (free us os) deep, inside_all ts limit o free)

  inside_pairs : (es : Entries) (limit : ℕ) (o : Opening) → ((us : List Tree) (os : List OpenContainer) → IsNoString (opened o us ∷ os)) → AllTaken limit o (nodes_of es)
  inside_pairs no_entry limit o free = tt
  inside_pairs (entry k v es) limit o free = (
    λ fed ready os us x fits deep. takes k limit fed ready (opened o us ∷ os) x fits (free us os) deep,
    (λ fed ready os us x fits deep. takes v limit fed ready (opened o us ∷ os) x fits (free us os) deep, inside_pairs es limit o free),
  )

-- The nodes that are whole in a container are taken in it.

list_taken : (ts : List Tree) (limit : ℕ) (o : Opening) → ((us : List Tree) (os : List OpenContainer) → IsNoString (opened o us ∷ os)) → AllTaken limit o ts
list_taken [] limit o free = tt
list_taken (t ∷ ts) limit o free = (λ fed ready os us x fits deep. takes t limit fed ready (opened o us ∷ os) x fits (free us os) deep, list_taken ts limit o free)

pub opened_taken : (limit p : ℕ) (o : Opening) (ts : List Tree) → Goes o ts → AllTaken limit (opening_from p o) ts
opened_taken limit p (an_array q s c) ts h = list_taken ts limit (an_array p s c) (λ us os. tt)
opened_taken limit p (a_map q s c) ts h = list_taken ts limit (a_map p s c) (λ us os. tt)
opened_taken limit p (a_tag q w n) ts h = list_taken ts limit (a_tag p w n) (λ us os. tt)
opened_taken limit p (in_chunks q k) ts h = subst (AllTaken limit (in_chunks p k)) (strings_are k ts h) (strings_taken limit p k (chunks_of ts))
