-- What nodes mean is valid if it has an encoding, since its heads give the lengths of its parts.
use Rattle.std.specs.Prelude.{◌≤◌, ◌<◌, ◌^◌, ◌∷◌}
use Rattle.cborn_engine.proofs.Common.{ℕ, inl, inr, Bool, true, false, List, [], length, sym, subst, arith, Ordering, AllZip, AllByRecursion, big_endian, IsShortest, WidthFits, least, Tree, Uint, Nint, Bytes, Text, ByteChunks, TextChunks, Items, Pairs, Tagged, Simple, Trees, no_item, more, Entries, no_entry, entry, trees, depth_all, Fits, FitsAll, FitsEntries, Value, Values, Couples, bytes, text, array, dict, tagged, no_values, value, no_pairs, pair, value_count, pair_count, IsProper, AreProper, HasProperPairs, joined_chunks, IsNumber, Means, AllMean, EntriesMean, Entry, IsInteger, Det, DetValues, DetPairs, DetSeq, holds_below, shortest_below, joined_bytes, joined_text, meaning_shallow}
use Rattle.cborn_engine.proofs.Held.ReadsBack.{AreShallow}

below : (n : ℕ) → WidthFits (least n) n → n < 2 ^ 64
below n h = holds_below (least n) n h

magnitude_below : (s : Bool) (m x : List ℕ) → IsShortest m → IsInteger s m x → length m < 2 ^ 64
magnitude_below s m x h1 h2 = grind (arith, below, big_endian, inl, inr, length, shortest_below)

module _ (order : List ℕ → List ℕ → Ordering) where
  number_proper : (s : Bool) (n : ℕ) (v : Value) (x : List ℕ) → IsNumber s n v → Det order v x → IsProper v
  number_proper s n v x h d = subst IsProper (sym h.4) (h.1, h.2, magnitude_below s h.0 x h.2 (subst (λ (u : Value). Det order u x) h.4 d))

  mutual
    proper : (t : Tree) (v : Value) (x : List ℕ) → Fits t → Means t v → Det order v x → IsProper v
    proper (Uint p w n) v x f m d = number_proper false n v x m d
    proper (Nint p w n) v x f m d = number_proper true n v x m d
    proper (Bytes p w b) v x f m d = subst IsProper (sym m) (f.1, holds_below w (length b) f.0)
    proper (Text p w b) v x f m d = subst IsProper (sym m.1) (m.0, holds_below w (length b) f.0)
    proper (ByteChunks p cs) v x f m d =
        let e : Det order (bytes (joined_chunks cs)) x = subst (λ (u : Value). Det order u x) m d in
        subst IsProper (sym m) (joined_bytes cs f, below (length (joined_chunks cs)) e.1.0)
    proper (TextChunks p cs) v x f m d =
        let e : Det order (text (joined_chunks cs)) x = subst (λ (u : Value). Det order u x) m.1 d in
        subst IsProper (sym m.1) (joined_text cs m.0, below (length (joined_chunks cs)) e.1.0)
    proper (Items p s ts) v x f m d =
        let e : Det order (array m.0) x = subst (λ (u : Value). Det order u x) m.2 d in
        subst IsProper (sym m.2) (all_proper ts m.0 e.1 f.1 m.1 e.3, below (value_count m.0) e.2.0)
    proper (Pairs p s es) v x f m d =
        let e : Det order (dict m.0) x = subst (λ (u : Value). Det order u x) m.3 d in
        subst IsProper (sym m.3) (entries_proper es m.0 e.1 f.1 m.1 e.4, m.2, below (pair_count m.0) e.3.0)
    proper (Tagged p w n t) v x f (inl m) d = number_proper false (big_endian m.1.0) v x m.1.2 d
    proper (Tagged p w n t) v x f (inr (inl m)) d = number_proper true (big_endian m.1.0) v x m.1.2 d
    proper (Tagged p w n t) v x f (inr (inr m)) d =
        let e : Det order (tagged n m.2) x = subst (λ (u : Value). Det order u x) m.4 d in
        subst IsProper (sym m.4) (m.0, m.1, holds_below w n f.0, proper t m.2 e.1 f.1 m.3 e.3)
    proper (Simple p n) v x f m d = subst IsProper (sym m) f

    pub all_proper : (ts : Trees) (vs : Values) (x : List ℕ) → FitsAll ts → AllMean ts vs → DetValues order vs x → AreProper vs
    all_proper no_item no_values x f m d = tt
    all_proper (more t ts) (value v vs) x f m d = (proper t v d.0 f.0 m.0 d.2, all_proper ts vs d.1 f.1 m.1 d.3)
    all_proper _ _ x f m d = absurd m

    entries_proper : (es : Entries) (ps : Couples) (xs : List Entry) → FitsEntries es → EntriesMean es ps → DetPairs order ps xs → HasProperPairs ps
    entries_proper no_entry no_pairs xs f m d = tt
    entries_proper (entry k v es) (pair a b ps) [] f m d = absurd d
    entries_proper (entry k v es) (pair a b ps) (x ∷ xs) f m d = (proper k a x.0 f.0 m.0 d.0, proper v b x.1 f.1 m.1 d.1, entries_proper es ps xs f.2 m.2 d.2)
    entries_proper _ _ xs f m d = absurd m

  pub sequence_proper : (ns : List Tree) (vs : List Value) (x : List ℕ) → FitsAll (trees ns) → AllZip Means ns vs → DetSeq order vs x → AllByRecursion IsProper vs
  sequence_proper [] [] x f m d = tt
  sequence_proper (n ∷ ns) (v ∷ vs) x f m d = (proper n v d.0 f.0 m.0 d.2, sequence_proper ns vs d.1 f.1 m.1 d.3)
  sequence_proper _ _ x f m d = absurd m

-- it is no deeper than the nodes
pub sequence_shallow : (limit : ℕ) (ns : List Tree) (vs : List Value) → FitsAll (trees ns) → depth_all (trees ns) ≤ limit → AllZip Means ns vs → AreShallow limit vs
sequence_shallow limit [] [] f l m = tt
sequence_shallow limit (n ∷ ns) (v ∷ vs) f l m = (omega (arith, meaning_shallow n v f.0 m.0, l), sequence_shallow limit ns vs f.1 (omega (arith, l)) m.1)
sequence_shallow limit _ _ f l m = absurd m
