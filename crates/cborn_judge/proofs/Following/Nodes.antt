-- Nodes that are their own encodings where they stand in the input: those without children, and containers of such.
use Rattle.std.specs.Prelude.{◌≡◌, ◌≢◌, ◌⊎◌, ◌+◌, ◌∷◌, ◌++◌}
use Rattle.cborn_judge.proofs.Common.{ℕ, List, [], map, length, Bool, true, false, Option, None, Some, inl, inr, refl, sym, ap, ◌∙◌, subst, arith, append-nil, append_assoc, length-append, drop_at, take_at, AllByRecursion, AllZip, IsPermutation-refl, Ordering, IsUtf8, IsUtf8-nil, slice_range, AreBytes, bytes-left, bytes-right, Size, Width, WidthFits, least, head, Given, IsLeastHead, Major, ByteString, TextString, Array, Map, Tag, Fixed, StringKind, OfBytes, OfText, Tree, Items, Pairs, Tagged, Simple, trees, entries, place, spelled, spelled_all, spelled_entries, Fits, Placed, PlacedAll, PlacedEntries, Opening, a_map, a_tag, an_array, in_chunks, Ends, built, paired, ended_size, integer_tree, string_tree, text_in, EntriesMean, Couples, no_pairs, pair, IsKeyOrder, Rising, Row, row_entries, joined, keys, IsEncodedAs, AreEncodedAs, IsContent, IsShortLeaf, AreShortIntegers, count, count_entries, Entries, IsAll, filled_keys, IsProper, IsNumber, big_endian, Det, DuplicateKey, cases_eq, tagged, count-trees, count_entries-entries, holds_below, integer, bytes, bignum_tag, IsInteger}
use Rattle.cborn_model.specs.Partial.{last_key}
use Rattle.cborn_model.specs.Heads.{is_simple_value}
use Rattle.std.specs.Prelude.{IsTrue}
use Rattle.cborn_model.specs.shared.Runs.{HasShortHead}
use Rattle.cborn_judge.proofs.Encoded.Tidying.{not_loose}
use Rattle.cborn_judge.proofs.Encoding.Ends.{array_encoded}
use Rattle.cborn_judge.proofs.Encoding.Leaves.{integer_text, short_leaf}
use Rattle.cborn_judge.proofs.Encoding.MapsRows.{IsRow, keys-filled, written, map_encoded, repeats, rising_new}
use Rattle.cborn_judge.proofs.Meaning.Placing.{placed_at}
use Rattle.cborn_judge.proofs.Meaning.Meanings.{means_once, string_means}
use Rattle.cborn_judge.specs.declared.open_maps.OpenMap.{OpenMap}
use Rattle.cborn_judge.specs.devices.Rising.{RisesAbove, IsRisingMap}
use Rattle.cborn_judge.specs.devices.Following.{IsShort, IsLevel, StandsAt, IsOwn, IsTight, IsIn}

-- ---- lists one after another

split_first : (a b c d : List ℕ) → (a ++ (b ++ c)) ++ d ≡ (a ++ b) ++ (c ++ d)
split_first a b c d = ap (λ z. z ++ d) (sym (append_assoc a b c)) ∙ append_assoc (a ++ b) c d

split_rest : (a b c d : List ℕ) → (a ++ (b ++ c)) ++ d ≡ ((a ++ b) ++ c) ++ d
split_rest a b c d = ap (λ z. z ++ d) (sym (append_assoc a b c))

-- what stands between two offsets
pub stands_between : (x a b c : List ℕ) (p q : ℕ) → x ≡ (a ++ b) ++ c → p ≡ length a → q ≡ p + length b → slice_range x p q ≡ b
stands_between x a b c p q e i j = grind (arith, append_assoc, drop_at, take_at)

module _ (order : List ℕ → List ℕ → Ordering) (x : List ℕ) where
  -- ---- nodes without children

  leaf_own : (t : Tree) → Fits t → HasShortHead t → IsUtf8 (text_in t) → IsOwn order x t
  leaf_own t f h u s = (short_leaf order (place t) (spelled t) t (record { placed = refl; fits = f; short = h; spells = refl }) u).0

  pub short_own : (p : ℕ) (y : List ℕ) (t : Tree) → IsShortLeaf p y t → IsUtf8 (text_in t) → IsOwn order x t
  short_own p y t l = leaf_own t l.fits l.short

  -- integers one after another
  pub integers_own : (p : ℕ) (y : List ℕ) (ts : List Tree) → AreShortIntegers p y ts → AllByRecursion (IsOwn order x) ts
  integers_own p y [] e = tt
  integers_own p y (t ∷ ts) (a, b, e, i, l, rest) = (short_own p a t l (integer_text t i), integers_own (p + length a) b ts rest)

  pub integer_own : (p : ℕ) (s : Bool) (w : Width) (n : ℕ) → WidthFits w n → w ≡ least n → IsOwn order x (integer_tree p s w n)
  integer_own p false w n f h = leaf_own (integer_tree p false w n) f h IsUtf8-nil
  integer_own p true w n f h = leaf_own (integer_tree p true w n) f h IsUtf8-nil

  pub simple_own : (p n : ℕ) → IsTrue (is_simple_value n) → IsOwn order x (Simple p n)
  simple_own p n f = leaf_own (Simple p n) f tt IsUtf8-nil

  content_bytes : (m : Major) (w : Width) (b front rest : List ℕ) → AreBytes x → x ≡ (front ++ (head m (Given w (length b)) ++ b)) ++ rest → AreBytes b
  content_bytes m w b front rest all e =
      let h : List ℕ = head m (Given w (length b)) in
      bytes-right h b (bytes-right front (h ++ b) (bytes-left (front ++ (h ++ b)) rest (subst AreBytes e all)))

  pub string_own : (p : ℕ) (k : StringKind) (w : Width) (b : List ℕ) → WidthFits w (length b) → w ≡ least (length b) → (StandsAt order x (string_tree p k w b) → IsContent k b) → IsOwn order x (string_tree p k w b)
  string_own p OfBytes w b f h c s = leaf_own (string_tree p OfBytes w b) (f, content_bytes ByteString w b s.front s.rest s.bytes s.is) h IsUtf8-nil s
  string_own p OfText w b f h c s = leaf_own (string_tree p OfText w b) (f, content_bytes TextString w b s.front s.rest s.bytes s.is) h (c s) s

  -- ---- items of an array

  pub items_own : AreBytes x → (ts : List Tree) (front rest : List ℕ) → AllByRecursion (IsOwn order x) ts → x ≡ (front ++ spelled_all (trees ts)) ++ rest → PlacedAll (length front) (trees ts) → AreEncodedAs order ts (spelled_all (trees ts))
  items_own all [] front rest own e placed = ([], tt, tt, refl)
  items_own all (t ∷ ts) front rest own e placed =
      let a = own.0 (record { front = front; rest = spelled_all (trees ts) ++ rest; is = e ∙ split_first front (spelled t) (spelled_all (trees ts)) rest; placed = placed.0; bytes = all }) in
      let b = items_own all ts (front ++ spelled t) rest own.1 (e ∙ split_rest front (spelled t) (spelled_all (trees ts)) rest) (subst (λ n. PlacedAll n (trees ts)) (sym (length-append front (spelled t))) placed.1) in
      (a.0 ∷ b.0, (a.1, b.1), (a.2, b.2), (spelled t, spelled_all (trees ts), a.3, b.3, refl))

  array_own : (p n : ℕ) (ts : List Tree) → length ts ≡ n → WidthFits (least n) n → AllByRecursion (IsOwn order x) ts → IsOwn order x (Items p (Fixed (least n)) (trees ts))
  array_own p n ts many fits own s =
      let h : List ℕ = head Array (Given (least n) (count (trees ts))) in
      let body : List ℕ = spelled_all (trees ts) in
      let same : count (trees ts) ≡ n = count-trees ts ∙ many in
      let stands = s.is ∙ ap (λ z. (s.front ++ z) ++ s.rest) (append-nil (h ++ body)) ∙ split_rest s.front h body s.rest in
      let coded = items_own s.bytes ts (s.front ++ h) s.rest own stands (subst (λ k. PlacedAll k (trees ts)) (sym (length-append s.front h)) s.placed.1) in
      subst (IsEncodedAs order (Items p (Fixed (least n)) (trees ts))) (sym (append-nil (h ++ body)))
      (array_encoded order p n (Fixed (least n)) ts h body (holds_below (least n) n fits) (sym many) (fits, ap (λ k. head Array (Given (least n) k)) same) coded)

  -- ---- keys and values of a map

  abbrev AllAbove : Option (List ℕ) → List (List ℕ) → Type 0
  AllAbove None ks = Rising order ks
  AllAbove (Some k) ks = Rising order (k ∷ ks)

  none_above : (before : Option (List ℕ)) → AllAbove before []
  none_above None = tt
  none_above (Some k) = tt

  all_above : (before : Option (List ℕ)) (k : List ℕ) (ks : List (List ℕ)) → RisesAbove order before k → Rising order (k ∷ ks) → AllAbove before (k ∷ ks)
  all_above None k ks h r = r
  all_above (Some j) k ks h r = (h, r)

  -- the rows of a map whose keys rise, the first above the one before it
  record AreRising (ts : List Tree) (before : Option (List ℕ)) : Type 0 where
    rows : List Row
    values : Couples
    here : AllZip (IsRow order) (paired ts) rows
    mean : EntriesMean (entries (paired ts)) values
    rising : AllAbove before (keys (row_entries rows))
    whole : spelled_entries (entries (paired ts)) ≡ joined (row_entries rows)

  pairs_own : AreBytes x → (a : OpenMap) (before : Option (List ℕ)) (ts : List Tree) (front rest : List ℕ) → AllByRecursion (IsOwn order x) ts → last_key ts ≡ None → IsRisingMap order x a before (map place ts) → x ≡ (front ++ spelled_entries (entries (paired ts))) ++ rest → PlacedEntries (length front) (entries (paired ts))
      → AreRising ts before
  pairs_own all a before [] front rest own none m e placed = record { rows = []; values = no_pairs; here = tt; mean = tt; rising = none_above before; whole = refl }
  pairs_own all a before (k ∷ []) front rest own none m e placed = cc
  pairs_own all a before (k ∷ v ∷ ts) front rest own none m e placed =
      let b : List ℕ = spelled k in
      let c : List ℕ = spelled v in
      let d : List ℕ = spelled_entries (entries (paired ts)) in
      let pair_stands = e ∙ split_first front (b ++ c) d rest in
      let key_stands = pair_stands ∙ split_first front b c (d ++ rest) in
      let long : length (front ++ b) ≡ length front + length b = length-append front b in
      let key = own.0 (record { front = front; rest = c ++ (d ++ rest); is = key_stands; placed = placed.0; bytes = all }) in
      let value = own.1.0 (record { front = front ++ b; rest = d ++ rest; is = pair_stands ∙ split_rest front b c (d ++ rest); placed = subst (λ n. Placed n v) (sym long) placed.1; bytes = all }) in
      let between : slice_range x (place k) (place v) ≡ b = stands_between x front b (c ++ (d ++ rest)) (place k) (place v) key_stands (placed_at k (length front) placed.0) (placed_at v (length front + length b) placed.1 ∙ ap (λ n. n + length b) (sym (placed_at k (length front) placed.0))) in
      let after = pairs_own all a (Some (slice_range x (place k) (place v))) ts ((front ++ b) ++ c) rest own.1.1 none m.1
      (e ∙ split_rest front (b ++ c) d rest ∙ ap (λ z. (z ++ d) ++ rest) (sym (append_assoc front b c))) (subst (λ n. PlacedEntries n (entries (paired ts))) (sym (length-append (front ++ b) c ∙ ap (λ n. n + length c) long)) placed.2) in
      record {
        rows = (place k, b, c) ∷ after.rows;
        values = pair key.0 value.0 after.values;
        here = ((refl, inl key, inl value), after.here);
        mean = (key.1, value.1, after.mean);
        rising = all_above before b (keys (row_entries after.rows)) (subst (RisesAbove order before) between m.0) (subst (λ z. Rising order (z ∷ keys (row_entries after.rows))) between after.rising);
        whole = ap (λ z. (b ++ c) ++ z) after.whole;
      }

  map_own : IsKeyOrder order → (a : OpenMap) (p n : ℕ) (ts : List Tree) → length (paired ts) ≡ n → last_key ts ≡ None → WidthFits (least n) n → AllByRecursion (IsOwn order x) ts → IsRisingMap order x a None (map place ts) → IsOwn order x (Pairs p (Fixed (least n)) (entries (paired ts)))
  map_own laws a p n ts many none fits own m s =
      let es : Entries = entries (paired ts) in
      let h : List ℕ = head Map (Given (least n) (count_entries es)) in
      let body : List ℕ = spelled_entries es in
      let same : count_entries es ≡ length (paired ts) = count_entries-entries (paired ts) in
      let stands = s.is ∙ ap (λ z. (s.front ++ z) ++ s.rest) (append-nil (h ++ body)) ∙ split_rest s.front h body s.rest in
      let r = pairs_own s.bytes a None ts (s.front ++ h) s.rest own none m stands (subst (λ k. PlacedEntries k es) (sym (length-append s.front h)) s.placed.1) in
      let w = written order (paired ts) r.rows r.values r.here r.mean in
      let rising : Rising order (filled_keys r.rows) = subst (Rising order) (sym (keys-filled r.rows w.filled)) r.rising in
      let least_head : IsLeastHead 5 (length (paired ts)) h = (subst (λ k. WidthFits (least k) k) (sym many) fits, (λ i. head Map (Given (least (sym many i)) (same i)))) in
      subst (IsEncodedAs order (Pairs p (Fixed (least n)) es)) (ap (λ z. h ++ z) (sym r.whole) ∙ sym (append-nil (h ++ body)))
      (map_encoded order p (Fixed (least n)) (paired ts) r.rows r.values h (joined (row_entries r.rows)) r.here r.mean (λ q k. rising_new order laws r.rows q rising ((repeats order laws (paired ts) r.rows r.here q DuplicateKey).1 (refl, k)).1) least_head
      (row_entries r.rows, IsPermutation-refl (row_entries r.rows), r.rising, refl))

  -- ---- the content of a tag

  content_stands : (p : ℕ) (w : Width) (n : ℕ) (t : Tree) → StandsAt order x (Tagged p w n t) → StandsAt order x t
  content_stands p w n t s =
      let h : List ℕ = head Tag (Given w n) in
      record { front = s.front ++ h; rest = s.rest; is = s.is ∙ split_rest s.front h (spelled t) s.rest; placed = subst (λ k. Placed k t) (sym (length-append s.front h)) s.placed.1; bytes = s.bytes }

  tag_own : (p n : ℕ) (t : Tree) → n ≢ 2 → n ≢ 3 → WidthFits (least n) n → IsOwn order x t → IsOwn order x (Tagged p (least n) n t)
  tag_own p n t two three fits own s =
      let (v, m, proper, d) = own (content_stands p (least n) n t s) in
      (tagged n v, inr (inr (two, three, v, m, refl)), (two, three, holds_below (least n) n fits, proper), (head Tag (Given (least n) n), spelled t, (fits, refl), d, refl))

  bignum_own : (p n : ℕ) (t : Tree) → (n ≡ 2) ⊎ (n ≡ 3) → WidthFits (least n) n → IsOwn order x t → IsTight order x t → IsOwn order x (Tagged p (least n) n t)
  bignum_own p n t tag fits own tight s =
      let inner = content_stands p (least n) n t s in
      let (v, m, proper, d) = own inner in
      let (b, is, loose) = tight inner in
      let e : v ≡ bytes b = means_once t v (bytes b) m (string_means t b is) in
      let (all, short) = subst IsProper e proper in
      let wide = not_loose b loose in
      let h : List ℕ = head Tag (Given (least n) n) in
      let det : (g : Bool) → n ≡ bignum_tag g → IsInteger g b (h ++ spelled t) = λ g i. inr (wide.large, h, spelled t, (subst (λ k. WidthFits (least k) k) i fits, ap (λ k. head Tag (Given (least k) k)) i), subst (λ u. Det order u (spelled t)) e d, refl) in
      let number : (g : Bool) → IsNumber g (big_endian b) (integer g b) = λ g. (b, all, wide.shortest, refl, refl) in
      elim tag [
        | inl i ↦ (integer false b, inl (i, (b, is, number false)), (all, wide.shortest, short), det false i)
        | inr i ↦ (integer true b, inr (inl (i, (b, is, number true))), (all, wide.shortest, short), det true i)
      ]

  -- ---- containers

  pub built_own : IsKeyOrder order → (fs : List OpenMap) (a : OpenMap) (n : ℕ) (o : Opening) (ts : List Tree) (K : List OpenMap → OpenMap → ℕ → Type 0) → Ends o ts → IsShort o → AllByRecursion (IsIn order x o) ts → IsLevel order x fs a n o (map place ts ++ []) K → IsOwn order x (built o ts)
  built_own laws fs a m (an_array p s c) ts K ends (n, size, number, fits) own level =
      subst {A = Size × Option ℕ} (λ z. IsOwn order x (Items p (ended_size z.0 z.1 (length ts)) (trees ts))) (λ i. (sym size i, sym number i))
      (array_own p n ts (subst (λ c. IsAll c (length ts)) number ends) fits own)
  built_own laws fs a m (a_map p s c) ts K ends (n, size, number, fits) own level =
      subst {A = Size × Option ℕ} (λ z. IsOwn order x (Pairs p (ended_size z.0 z.1 (length (paired ts))) (entries (paired ts)))) (λ i. (sym size i, sym number i))
      (map_own laws a p n ts (subst (λ c. IsAll c (length (paired ts))) number ends.0) ends.1 fits own (subst (IsRisingMap order x a None) (append-nil (map place ts)) level.1))
  built_own laws fs a m (a_tag p w n) ts K (t, e) (short, fits) own level =
      let h = subst (AllByRecursion (IsIn order x (a_tag p w n))) e own in
      subst (λ us. IsOwn order x (built (a_tag p w n) us)) (sym e) (subst (λ v. IsOwn order x (Tagged p v n t)) (sym short) (elim (cases_eq n 2) [
        | inl two ↦ bignum_own p n t (inl two) fits h.0.0 (h.0.1 (inl two))
        | inr two ↦ elim (cases_eq n 3) [
          | inl three ↦ bignum_own p n t (inr three) fits h.0.0 (h.0.1 (inr three))
          | inr three ↦ tag_own p n t two three fits h.0.0
        ]
      ]))
  built_own laws fs a m (in_chunks p k) ts K ends short own level = absurd short
