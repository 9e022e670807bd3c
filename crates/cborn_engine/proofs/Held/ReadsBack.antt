-- What is written deterministically reads back as the same items, no deeper than they are.
use Rattle.std.specs.Prelude.{◌≡◌, ◌≤◌, ◌<◌, ◌+◌, ◌^◌, ◌∷◌, ◌++◌}
use Rattle.cborn_engine.proofs.Common.{ℕ, suc, inl, inr, Bool, true, false, ltb, List, [], length, refl, sym, ap, ◌∙◌, subst, arith, Ordering, append-nil, AllZip, AllByRecursion, le-ltb, IsTrue, length_permutation, Fixed, big_endian, Array, Map, Tag, WidthFits, Given, head, least, IsLeastHead, is_simple_value, Tree, Uint, Nint, Bytes, Text, Items, Pairs, Tagged, Simple, Trees, no_item, more, trees, Entries, no_entry, entry, count, count_entries, depth, depth_all, depth_entries, spelled, spelled_all, spelled_entries, Fits, FitsAll, FitsEntries, Placed, PlacedAll, PlacedEntries, Value, Values, Couples, integer, bytes, text, array, dict, tagged, simple, no_values, value, no_pairs, pair, value_count, pair_count, listed, Same, SameValues, SamePairs, IsProper, AreProper, HasProperPairs, HasNewKeys, IsNew, value_depth, values_depth, pairs_depth, Means, AllMean, EntriesMean, IsKeyOrder, Rising, Entry, IsInteger, Det, DetValues, DetPairs, DetSeq, joined, keys, carried, same_turned, same_chained, length-listed, one_of_same, rises_after, rising_tail, utf8_bytes}
use Rattle.std.specs.declared.cmp.Ordering.TheVariants.{Less}

-- the bytes spell a node at p that means the same as the item, valid, and is no deeper
pub record ReadsBack (p : ℕ) (v : Value) (x : List ℕ) : Type 0 where
  pub node : Tree
  pub item : Value
  pub spells : spelled node ≡ x
  pub fits : Fits node
  pub placed : Placed p node
  pub means : Means node item
  pub same : Same item v
  pub proper : IsProper item
  pub shallow : depth node ≤ value_depth v

pub record AllReadBack (p : ℕ) (vs : Values) (x : List ℕ) : Type 0 where
  pub nodes : Trees
  pub items : Values
  pub spells : spelled_all nodes ≡ x
  pub counted : count nodes ≡ value_count vs
  pub fits : FitsAll nodes
  pub placed : PlacedAll p nodes
  pub mean : AllMean nodes items
  pub same : SameValues items vs
  pub proper : AreProper items
  pub as_many : value_count items ≡ value_count vs
  pub shallow : depth_all nodes ≤ values_depth vs

-- an entry at p: what its key and its value spell is no deeper than this
pub record EntryReadsBack (deep p : ℕ) (r : Value × Value) (e : Entry) : Type 0 where
  pub key : ReadsBack p r.0 e.0
  pub val : ReadsBack (p + length e.0) r.1 e.1
  pub key_shallow : value_depth r.0 ≤ deep
  pub value_shallow : value_depth r.1 ≤ deep

pub record EntriesReadBack (deep p : ℕ) (rs : List (Value × Value)) (es : List Entry) : Type 0 where
  pub nodes : Entries
  pub couples : Couples
  pub spells : spelled_entries nodes ≡ joined es
  pub counted : count_entries nodes ≡ length rs
  pub fits : FitsEntries nodes
  pub placed : PlacedEntries p nodes
  pub mean : EntriesMean nodes couples
  pub same : SamePairs couples rs
  pub proper : HasProperPairs couples
  pub as_many : pair_count couples ≡ length rs
  pub shallow : depth_entries nodes ≤ deep

-- ---- leaves

deep_integer : (s : Bool) (m : List ℕ) → 2 ^ 64 ≤ big_endian m → 1 ≤ value_depth (integer s m)
deep_integer s m h = let e : ltb (big_endian m) (2 ^ 64) ≡ false = le-ltb (big_endian m) (2 ^ 64) h in rw e (omega arith)

-- a node that means the item itself
itself : (p : ℕ) (v : Value) (x : List ℕ) (t : Tree) → Same v v → IsProper v → spelled t ≡ x → Fits t → Placed p t → Means t v → depth t ≤ value_depth v → ReadsBack p v x
itself p v x t same proper spells fits placed means shallow = record { node = t; item = v; spells = spells; fits = fits; placed = placed; means = means; same = same; proper = proper; shallow = shallow }

integer_back : (p : ℕ) (s : Bool) (m x : List ℕ) → IsProper (integer s m) → IsInteger s m x → ReadsBack p (integer s m) x
integer_back p false m x h (inl d) = itself p (integer false m) x (Uint p (least (big_endian m)) (big_endian m)) refl h (sym d.1.1) d.1.0 refl (m, h.0, h.1, refl, refl) (omega arith)
integer_back p true m x h (inl d) = itself p (integer true m) x (Nint p (least (big_endian m)) (big_endian m)) refl h (sym d.1.1) d.1.0 refl (m, h.0, h.1, refl, refl) (omega arith)
integer_back p false m x h (inr d) = itself p (integer false m) x (Tagged p (least 2) 2 (Bytes (p + length (head Tag (Given (least 2) 2))) (least (length m)) m)) refl h ((λ i. sym d.3.1 i ++ (sym d.4.1.1 i ++ m)) ∙ ap (λ l. d.1 ++ l) (sym d.4.2) ∙ sym d.5) (d.3.0, (d.4.1.0, h.0)) (refl, refl) (inl (refl, (m, refl, (m, h.0, h.1, refl, refl)))) (deep_integer false m d.0)
integer_back p true m x h (inr d) = itself p (integer true m) x (Tagged p (least 3) 3 (Bytes (p + length (head Tag (Given (least 3) 3))) (least (length m)) m)) refl h ((λ i. sym d.3.1 i ++ (sym d.4.1.1 i ++ m)) ∙ ap (λ l. d.1 ++ l) (sym d.4.2) ∙ sym d.5) (d.3.0, (d.4.1.0, h.0)) (refl, refl) (inr (inl (refl, (m, refl, (m, h.0, h.1, refl, refl))))) (deep_integer true m d.0)

simple_back : (p n : ℕ) (x : List ℕ) → IsTrue (is_simple_value n) → IsLeastHead 7 n x → ReadsBack p (simple n) x
simple_back p n x v d =
    record { node = Simple p n; item = simple n; spells = sym d.1; fits = v; placed = refl; means = refl; same = refl; proper = v; shallow = omega arith }

module _ (order : List ℕ → List ℕ → Ordering) (laws : IsKeyOrder order) where
  -- ---- maps

  -- an entry of a pair reads back wherever it is, and its key is that of the pair
  abbrev Backed : ℕ → Value × Value → Entry → Type 0
  Backed deep r e = ((p : ℕ) → EntryReadsBack deep p r e) × IsProper r.0 × Det order r.0 e.0

  -- entries one after another
  entries_back : (deep p : ℕ) (rs : List (Value × Value)) (es : List Entry) → AllZip (Backed deep) rs es → EntriesReadBack deep p rs es
  entries_back deep p [] [] h = record { nodes = no_entry; couples = no_pairs; spells = refl; counted = refl; fits = tt; placed = tt; mean = tt; same = tt; proper = tt; as_many = refl; shallow = omega arith }
  entries_back deep p (r ∷ rs) (e ∷ es) h =
      let one : EntryReadsBack deep p r e = h.0.0 p in
      let more : EntriesReadBack deep (p + length e.0 + length e.1) rs es = entries_back deep (p + length e.0 + length e.1) rs es h.1 in
      let k = ap length one.key.spells in
      let v = ap length one.val.spells in
      record {
        nodes = entry one.key.node one.val.node more.nodes;
        couples = pair one.key.item one.val.item more.couples;
        spells = (λ i. one.key.spells i ++ one.val.spells i ++ more.spells i);
        counted = ap suc more.counted;
        fits = (one.key.fits, one.val.fits, more.fits);
        placed = (
          one.key.placed,
          subst (λ (n : ℕ). Placed (p + n) one.val.node) (sym k) one.val.placed,
          subst (λ (n : ℕ). PlacedEntries (p + n + length (spelled one.val.node)) more.nodes) (sym k) (subst (λ (n : ℕ). PlacedEntries (p + length e.0 + n) more.nodes) (sym v) more.placed),
        );
        mean = (one.key.means, one.val.means, more.mean);
        same = (one.key.same, one.val.same, more.same);
        proper = (one.key.proper, one.val.proper, more.proper);
        as_many = ap suc more.as_many;
        shallow = omega (arith, one.key.shallow, one.val.shallow, one.key_shallow, one.value_shallow, more.shallow);
      }
  entries_back deep p _ _ h = absurd h

  -- a key whose encoding is below the others' is new among them
  new_among : (deep : ℕ) (a r : Value) (k : List ℕ) (ps : Couples) (rs : List (Value × Value)) (es : List Entry) → IsProper r → Det order r k → Same a r → SamePairs ps rs → AllZip (Backed deep) rs es → AllByRecursion (λ (g : Entry). order k g.0 ≡ Less) es → IsNew a ps
  new_among deep a r k no_pairs rs es p d s t z l = tt
  new_among deep a r k (pair b w ps) [] es p d s t z l = absurd t
  new_among deep a r k (pair b w ps) (q ∷ rs) [] p d s t z l = absurd z
  new_among deep a r k (pair b w ps) (q ∷ rs) (e ∷ es) p d s t z l = (
    λ u. let i : k ≡ e.0 = one_of_same order laws r q.0 k e.0 p z.0.1 (same_chained r a q.0 (same_turned a r s) (same_chained a b q.0 u t.0)) d z.0.2 in
        let j : order k k ≡ Less = subst (λ (y : List ℕ). order k y ≡ Less) (sym i) l.0 in
        let m = laws.itself k in absurd cc,
    new_among deep a r k ps rs es p d s t.2 z.1 l.1,
  )

  new_keys : (deep : ℕ) (ps : Couples) (rs : List (Value × Value)) (es : List Entry) → SamePairs ps rs → AllZip (Backed deep) rs es → Rising order (keys es) → HasNewKeys ps
  new_keys deep no_pairs rs es t z h = tt
  new_keys deep (pair a w ps) [] es t z h = absurd t
  new_keys deep (pair a w ps) (r ∷ rs) [] t z h = absurd z
  new_keys deep (pair a w ps) (r ∷ rs) (e ∷ es) t z h = (new_among deep a r.0 e.0 ps rs es z.0.1 z.0.2 t.0 t.2 z.1 (rises_after order laws e es h), new_keys deep ps rs es t.2 z.1 (rising_tail order laws e es h))

  map_back : (p : ℕ) (ps : Couples) (x : List ℕ) → pair_count ps < 2 ^ 64 → Det order (dict ps) x → ((es : List Entry) → DetPairs order ps es → AllZip (Backed (pairs_depth ps)) (listed ps) es) → ReadsBack p (dict ps) x
  map_back p ps x few d back =
      let n : ℕ = pair_count ps in
      let moved = carried (Backed (pairs_depth ps)) (listed ps) d.1 d.2 (back d.1 d.4) d.5 in
      let all = entries_back (pairs_depth ps) (p + length (head Map (Given (least n) n))) moved.0 d.2 moved.2 in
      let kept : length moved.0 ≡ n = length_permutation (listed ps) moved.0 moved.1 ∙ length-listed ps in
      let counted : count_entries all.nodes ≡ n = all.counted ∙ kept in
      let new = new_keys (pairs_depth ps) all.couples moved.0 d.2 all.same moved.2 d.6 in
      record {
        node = Pairs p (Fixed (least n)) all.nodes;
        item = dict all.couples;
        spells = append-nil (head Map (Given (least n) (count_entries all.nodes)) ++ spelled_entries all.nodes) ∙ (λ i. head Map (Given (least n) (counted i)) ++ all.spells i) ∙ ap (λ l. l ++ joined d.2) (sym d.3.1) ∙ sym d.7;
        fits = (subst (WidthFits (least n)) (sym counted) d.3.0, all.fits);
        placed = (refl, subst (λ (k : ℕ). PlacedEntries (p + length (head Map (Given (least n) k))) all.nodes) (sym counted) all.placed);
        means = (all.couples, all.mean, new, refl);
        same = (moved.0, moved.1, all.same);
        proper = (all.proper, new, subst (λ (k : ℕ). k < 2 ^ 64) (sym (all.as_many ∙ kept)) few);
        shallow = omega (arith, all.shallow);
      }

  -- ---- all items

  mutual
    pub reads_back : (p : ℕ) (v : Value) (x : List ℕ) → IsProper v → Det order v x → ReadsBack p v x
    reads_back p (integer s m) x h d = integer_back p s m x h d
    reads_back p (bytes b) x h d = record { node = Bytes p (least (length b)) b; item = bytes b; spells = ap (λ l. l ++ b) (sym d.1.1) ∙ sym d.2; fits = (d.1.0, h.0); placed = refl; means = refl; same = refl; proper = h; shallow = omega arith }
    reads_back p (text b) x h d = record { node = Text p (least (length b)) b; item = text b; spells = ap (λ l. l ++ b) (sym d.1.1) ∙ sym d.2; fits = (d.1.0, utf8_bytes b h.0); placed = refl; means = (h.0, refl); same = refl; proper = h; shallow = omega arith }
    reads_back p (array vs) x h d =
        let n : ℕ = value_count vs in
        let all = all_read_back (p + length (head Array (Given (least n) n))) vs d.1 h.0 d.3 in
        record {
          node = Items p (Fixed (least n)) all.nodes;
          item = array all.items;
          spells = append-nil (head Array (Given (least n) (count all.nodes)) ++ spelled_all all.nodes) ∙ (λ i. head Array (Given (least n) (all.counted i)) ++ all.spells i) ∙ ap (λ l. l ++ d.1) (sym d.2.1) ∙ sym d.4;
          fits = (subst (WidthFits (least n)) (sym all.counted) d.2.0, all.fits);
          placed = (refl, subst (λ (k : ℕ). PlacedAll (p + length (head Array (Given (least n) k))) all.nodes) (sym all.counted) all.placed);
          means = (all.items, all.mean, refl);
          same = all.same;
          proper = (all.proper, subst (λ (k : ℕ). k < 2 ^ 64) (sym all.as_many) h.1);
          shallow = omega (arith, all.shallow);
        }
    reads_back p (dict ps) x h d = map_back p ps x h.2 d (λ es e. pairs_read_back (pairs_depth ps) ps es h.0 (omega arith) e)
    reads_back p (tagged t v) x h d =
        let inner = reads_back (p + length (head Tag (Given (least t) t))) v d.1 h.3 d.3 in
        record {
          node = Tagged p (least t) t inner.node;
          item = tagged t inner.item;
          spells = (λ i. sym d.2.1 i ++ inner.spells i) ∙ sym d.4;
          fits = (d.2.0, inner.fits);
          placed = (refl, inner.placed);
          means = inr (inr (h.0, h.1, inner.item, inner.means, refl));
          same = (refl, inner.same);
          proper = (h.0, h.1, h.2, inner.proper);
          shallow = omega (arith, inner.shallow);
        }
    reads_back p (simple n) x h d = simple_back p n x d.0 d.1

    pub all_read_back : (p : ℕ) (vs : Values) (x : List ℕ) → AreProper vs → DetValues order vs x → AllReadBack p vs x
    all_read_back p no_values x h d = record { nodes = no_item; items = no_values; spells = sym d; counted = refl; fits = tt; placed = tt; mean = tt; same = tt; proper = tt; as_many = refl; shallow = omega arith }
    all_read_back p (value v vs) x h d =
        let one = reads_back p v d.0 h.0 d.2 in
        let rest = all_read_back (p + length d.0) vs d.1 h.1 d.3 in
        record {
          nodes = more one.node rest.nodes;
          items = value one.item rest.items;
          spells = (λ i. one.spells i ++ rest.spells i) ∙ sym d.4;
          counted = ap suc rest.counted;
          fits = (one.fits, rest.fits);
          placed = (one.placed, subst (λ (n : ℕ). PlacedAll (p + n) rest.nodes) (sym (ap length one.spells)) rest.placed);
          mean = (one.means, rest.mean);
          same = (one.same, rest.same);
          proper = (one.proper, rest.proper);
          as_many = ap suc rest.as_many;
          shallow = omega (arith, one.shallow, rest.shallow);
        }

    pairs_read_back : (deep : ℕ) (ps : Couples) (es : List Entry) → HasProperPairs ps → pairs_depth ps ≤ deep → DetPairs order ps es → AllZip (Backed deep) (listed ps) es
    pairs_read_back deep no_pairs [] h l d = tt
    pairs_read_back deep (pair k v ps) (e ∷ es) h l d = (
      (λ p. record { key = reads_back p k e.0 h.0 d.0; val = reads_back (p + length e.0) v e.1 h.1 d.1; key_shallow = omega (arith, l); value_shallow = omega (arith, l) }, h.0, d.0),
      pairs_read_back deep ps es h.2 (omega (arith, l)) d.2,
    )
    pairs_read_back deep _ _ h l d = absurd d

-- the bytes spell nodes, one after another from p on, that mean the same items as these, and are no deeper
pub record SequenceReadsBack (deep p : ℕ) (vs : List Value) (x : List ℕ) : Type 0 where
  pub nodes : List Tree
  pub items : List Value
  pub spells : spelled_all (trees nodes) ≡ x
  pub fits : FitsAll (trees nodes)
  pub placed : PlacedAll p (trees nodes)
  pub mean : AllZip Means nodes items
  pub same : AllZip Same items vs
  pub proper : AllByRecursion IsProper items
  pub shallow : depth_all (trees nodes) ≤ deep

-- no item of a sequence is deeper than this
abbrev pub AreShallow : ℕ → List Value → Type 0
AreShallow deep = AllByRecursion (λ v. value_depth v ≤ deep)

pub sequence_back : (order : List ℕ → List ℕ → Ordering) (laws : IsKeyOrder order) (deep p : ℕ) (vs : List Value) (x : List ℕ) → AllByRecursion IsProper vs → AreShallow deep vs → DetSeq order vs x → SequenceReadsBack deep p vs x
sequence_back order laws deep p [] x h l d = record { nodes = []; items = []; spells = sym d; fits = tt; placed = tt; mean = tt; same = tt; proper = tt; shallow = omega arith }
sequence_back order laws deep p (v ∷ vs) x h l d =
    let one = reads_back order laws p v d.0 h.0 d.2 in
    let rest = sequence_back order laws deep (p + length d.0) vs d.1 h.1 l.1 d.3 in
    record {
      nodes = one.node ∷ rest.nodes;
      items = one.item ∷ rest.items;
      spells = (λ i. one.spells i ++ rest.spells i) ∙ sym d.4;
      fits = (one.fits, rest.fits);
      placed = (one.placed, subst (λ (n : ℕ). PlacedAll (p + n) (trees rest.nodes)) (sym (ap length one.spells)) rest.placed);
      mean = (one.means, rest.mean);
      same = (one.same, rest.same);
      proper = (one.proper, rest.proper);
      shallow = omega (arith, one.shallow, rest.shallow, l.0);
    }
