-- The flaws and the defects of one more whole node.
use Rattle.std.specs.Prelude.{◌≡◌, ◌⊎◌, ◌∷◌, ◌++◌, ◌↔◌}
use Rattle.cborn_judge.proofs.Common.{arith, ℕ, inl, inr, List, [], length, Width, IsUtf8, IsLong, map, refl, sym, subst, Bool, false, Ordering, Option, None, AllZip, Chunk, Size, StringKind, OfBytes, OfText, InvalidReason, NotUtf8, DefectReason, LongHead, EndlessLength, Means, flaw_rank, defect_rank, Tree, ByteChunks, TextChunks, Pairs, Tagged, trees, entries, Value, Partial, top, inside, Opening, an_array, a_map, a_tag, in_chunks, put, built, Ends, paired, chunks_of, chunks_tree, ended_size, Within, WithinAll, WithinEntries, FlawAt, Flaw, HasBadChunk, DefectAt, HasLongChunk, FindsDefect, DefectIn, DefectInAll, SizeAt, DescentAt, IsEarliestDefect, FindsFlaw, FlawIn, IsEarliestFlaw, IsSound, Amid, OwnFlaw, OwnDefect, Finds, Either, found_both, found_alike, none_both, strings_are, count-trees, count_entries-entries, SomeDefect, SomeFlaw}
use Rattle.cborn_model.specs.Partial.{last_key}
use Rattle.cborn_model.specs.shared.Walks.{string_of}
use Rattle.cborn_judge.proofs.Loops.{same, both_ways, regrouped}
use Rattle.cborn_judge.proofs.Meaning.Judging.{meaning}

within_more : (ts : List Tree) (t q : Tree) → (WithinAll q (trees ts) ⊎ Within q t) ↔ WithinAll q (trees (ts ++ t ∷ []))
within_more [] t q = ((λ h. elim h [ inl i ↦ absurd i | inr i ↦ inl i ]), (λ h. elim h [ inl i ↦ inr i | inr i ↦ absurd i ]))
within_more (u ∷ ts) t q = regrouped (within_more ts t q)

-- ---- what is wrong with nodes, whatever that is

module _ {R : Type 0} (at : Tree → ℕ → R → Type 0) where
  abbrev InAll : List Tree → ℕ → R → Type 0
  InAll ts p r = (q : Tree) × WithinAll q (trees ts) × at q p r

  abbrev InOne : Tree → ℕ → R → Type 0
  InOne t p r = (q : Tree) × Within q t × at q p r

  all_more : (ts : List Tree) (t : Tree) (p : ℕ) (r : R) → Either (InAll ts) (InOne t) p r ↔ InAll (ts ++ t ∷ []) p r
  all_more ts t p r = grind (arith, within_more)

  amid_put : (f : Partial) (t : Tree) (p : ℕ) (r : R) → Either (Amid at f) (InOne t) p r ↔ Amid at (put f t) p r
  amid_put (top ts) t p r = all_more ts t p r
  amid_put (inside f o ts) t p r = regrouped (all_more ts t p r)

  amid_open : (f : Partial) (o : Opening) (p : ℕ) (r : R) → Amid at f p r ↔ Amid at (inside f o []) p r
  amid_open f o p r = ((λ h. inl h), (λ h. elim h [ inl k ↦ k | inr k ↦ absurd k.1 ]))

  -- a container that ends, with what it adds
  amid_closed : (f : Partial) (o : Opening) (ts : List Tree) (t : Tree) (own : ℕ → R → Type 0) → ((p : ℕ) (r : R) → Either (InAll ts) own p r ↔ InOne t p r) → (p : ℕ) (r : R) → Either (Amid at (inside f o ts)) own p r ↔ Amid at (put f t) p r
  amid_closed f o ts t own all p r =
      let here : Either (Amid at (inside f o ts)) own p r ↔ (Amid at f p r ⊎ InOne t p r) = regrouped (all p r) in
      ((λ h. (amid_put f t p r).0 (here.0 h)), (λ h. here.1 ((amid_put f t p r).1 h)))

  -- a node with others inside it, and what is at itself
  around : (t : Tree) (ts : List Tree) (own : ℕ → R → Type 0) (q : ℕ) (r : R) → ((u : Tree) → Within u t ↔ ((u ≡ t) ⊎ WithinAll u (trees ts))) → own q r ↔ at t q r → Either (InAll ts) own q r ↔ InOne t q r
  around t ts own q r w e = (
    (λ h. elim h [ inl k ↦ (k.0, (w k.0).1 (inr k.1), k.2) | inr k ↦ (t, (w t).1 (inl refl), e.0 k) ]),
    (λ h. elim ((w h.0).0 h.1) [ inl j ↦ inr (e.1 (subst (λ z. at z q r) j h.2)) | inr j ↦ inl (h.0, j, h.2) ]),
  )

  -- strings that are chunks, where each is found by what holds of its chunk
  among : (k : StringKind) (Has : List Chunk → ℕ → Type 0) (Here : Chunk → ℕ → Type 0) (reason : R) → ((p : ℕ) → Has [] p → ⊥) → ((c : Chunk) (cs : List Chunk) (p : ℕ) → Has (c ∷ cs) p ↔ (Here c p ⊎ Has cs p))
      → ((c : Chunk) (p : ℕ) (r : R) → InOne (string_of k c) p r ↔ ((r ≡ reason) × Here c p)) → (cs : List Chunk) (p : ℕ) (r : R) → InAll (map (string_of k) cs) p r ↔ ((r ≡ reason) × Has cs p)
  among k Has Here reason none one each [] p r = ((λ h. absurd h.1), (λ h. absurd (none p h.1)))
  among k Has Here reason none one each (c ∷ cs) p r =
      let rest = among k Has Here reason none one each cs p r in (
        (λ h. elim h.1 [ inl i ↦ let g = (each c p r).0 (h.0, i, h.2) in (g.0, (one c cs p).1 (inl g.1)) | inr i ↦ let g = rest.0 (h.0, i, h.2) in (g.0, (one c cs p).1 (inr g.1)) ]),
        (λ h. elim ((one c cs p).0 h.1) [ inl i ↦ let g = (each c p r).1 (h.0, i) in (g.0, inl g.1, g.2) | inr i ↦ let g = rest.1 (h.0, i) in (g.0, inr g.1, g.2) ]),
      )

-- ---- the keys and values of a map

in_pairs : (ts : List Tree) (q : Tree) → last_key ts ≡ None → WithinEntries q (entries (paired ts)) ↔ WithinAll q (trees ts)
in_pairs [] q e = same
in_pairs (k ∷ []) q e = cc
in_pairs (k ∷ v ∷ ts) q e = both_ways same (both_ways same (in_pairs ts q e))

-- ---- chunks

fine_bytes : (cs : List Chunk) (u : Tree) (p : ℕ) (r : InvalidReason) → WithinAll u (trees (map (string_of OfBytes) cs)) → FlawAt u p r → ⊥
fine_bytes [] u p r h f = h
fine_bytes (c ∷ cs) u p r (inl e) f = subst (λ z. FlawAt z p r) e f
fine_bytes (c ∷ cs) u p r (inr h) f = fine_bytes cs u p r h f

chunks_flaw : (p : ℕ) (k : StringKind) (cs : List Chunk) (q : ℕ) (r : InvalidReason) → FlawIn (trees (map (string_of k) cs)) q r ↔ Flaw (chunks_tree p k cs) q r
chunks_flaw p OfBytes cs q r = ((λ f. absurd (fine_bytes cs f.0 q r f.1 f.2)), (λ f. absurd (subst (λ z. FlawAt z q r) f.1 f.2)))
chunks_flaw p OfText cs q r =
    let all = among FlawAt OfText HasBadChunk (λ c p. (p ≡ c.place) × (IsUtf8 c.bytes → ⊥)) NotUtf8 (λ p h. h) (λ c cs p. same)
    (λ c p r. ((λ d. let g = subst (λ z. FlawAt z p r) d.1 d.2 in (g.1, (g.0, g.2))), (λ d. (string_of OfText c, refl, (d.1.0, d.0, d.1.1))))) cs q r in
    ((λ f. (TextChunks p cs, refl, all.0 f)), (λ f. all.1 (subst (λ z. FlawAt z q r) f.1 f.2)))

module _ (order : List ℕ → List ℕ → Ordering) where
  long_string : (k : StringKind) (c : Chunk) (p : ℕ) (r : DefectReason) → DefectIn order (string_of k c) p r ↔ ((r ≡ LongHead) × ((p ≡ c.place) × IsLong c.width (length c.bytes)))
  long_string OfBytes c p r = ((λ d. let g = subst (λ z. DefectAt order z p r) d.1 d.2 in (g.1, (g.0, g.2))), (λ d. (string_of OfBytes c, refl, (d.1.0, d.0, d.1.1))))
  long_string OfText c p r = ((λ d. let g = subst (λ z. DefectAt order z p r) d.1 d.2 in (g.1, (g.0, g.2))), (λ d. (string_of OfText c, refl, (d.1.0, d.0, d.1.1))))

  chunks_defect : (p : ℕ) (k : StringKind) (cs : List Chunk) (q : ℕ) (r : DefectReason) → Either (DefectInAll order (trees (map (string_of k) cs))) (λ q r. (q ≡ p) × (r ≡ EndlessLength)) q r ↔ DefectIn order (chunks_tree p k cs) q r
  chunks_defect p k cs q r = by k (among (DefectAt order) k HasLongChunk (λ c p. (p ≡ c.place) × IsLong c.width (length c.bytes)) LongHead (λ p h. h) (λ c cs p. same) (long_string k) cs q r)
    where
      by : (k : StringKind) → DefectInAll order (trees (map (string_of k) cs)) q r ↔ ((r ≡ LongHead) × HasLongChunk cs q) → Either (DefectInAll order (trees (map (string_of k) cs))) (λ q r. (q ≡ p) × (r ≡ EndlessLength)) q r ↔ DefectIn order (chunks_tree p k cs) q r
      by OfBytes all = (
        (λ h. (ByteChunks p cs, refl, elim h [ inl f ↦ inr (all.0 f) | inr f ↦ inl f ])),
        (λ h. elim (subst (λ z. DefectAt order z q r) h.1 h.2) [ inl f ↦ inr f | inr f ↦ inl (all.1 f) ]),
      )
      by OfText all = (
        (λ h. (TextChunks p cs, refl, elim h [ inl f ↦ inr (all.0 f) | inr f ↦ inl f ])),
        (λ h. elim (subst (λ z. DefectAt order z q r) h.1 h.2) [ inl f ↦ inr f | inr f ↦ inl (all.1 f) ]),
      )

-- ---- a container that ends

within_tag : (p : ℕ) (w : Width) (n : ℕ) (t u : Tree) → Within u (Tagged p w n t) ↔ ((u ≡ Tagged p w n t) ⊎ WithinAll u (trees (t ∷ [])))
within_tag p w n t u = both_ways same ((λ i. inl i), (λ i. elim i [ inl j ↦ j | inr j ↦ absurd j ]))

within_map : (p : ℕ) (s : Size) (ts : List Tree) → last_key ts ≡ None → (u : Tree) → Within u (Pairs p s (entries (paired ts))) ↔ ((u ≡ Pairs p s (entries (paired ts))) ⊎ WithinAll u (trees ts))
within_map p s ts e u = both_ways same (in_pairs ts u e)

closed_flaw : (o : Opening) (ts : List Tree) → Ends o ts → (q : ℕ) (r : InvalidReason) → Either (FlawIn (trees ts)) (OwnFlaw o ts) q r ↔ Flaw (built o ts) q r
closed_flaw (an_array p s c) ts e q r = around FlawAt (built (an_array p s c) ts) ts (OwnFlaw (an_array p s c) ts) q r (λ u. same) same
closed_flaw (a_map p s c) ts e q r = around FlawAt (built (a_map p s c) ts) ts (OwnFlaw (a_map p s c) ts) q r (within_map p (ended_size s c (length (paired ts))) ts e.1) same
closed_flaw (a_tag p w n) ts e q r =
    subst (λ us. Either (FlawIn (trees us)) (OwnFlaw (a_tag p w n) us) q r ↔ Flaw (built (a_tag p w n) us) q r) (sym e.1)
    (around FlawAt (Tagged p w n e.0) (e.0 ∷ []) (FlawAt (Tagged p w n e.0)) q r (within_tag p w n e.0) same)
closed_flaw (in_chunks p k) ts e q r =
    let f = subst (λ us. FlawIn (trees us) q r ↔ Flaw (chunks_tree p k (chunks_of ts)) q r) (strings_are k ts e) (chunks_flaw p k (chunks_of ts) q r) in
    ((λ h. elim h [ inl g ↦ f.0 g | inr g ↦ absurd g ]), (λ h. inl (f.1 h)))

module _ (order : List ℕ → List ℕ → Ordering) where
  closed_defect : (o : Opening) (ts : List Tree) → Ends o ts → (q : ℕ) (r : DefectReason) → Either (DefectInAll order (trees ts)) (OwnDefect order o ts) q r ↔ DefectIn order (built o ts) q r
  closed_defect (an_array p s c) ts e q r =
      let z = ended_size s c (length ts) in
      around (DefectAt order) (built (an_array p s c) ts) ts (OwnDefect order (an_array p s c) ts) q r (λ u. same)
      (subst (λ n. SizeAt p z (length ts) q r ↔ SizeAt p z n q r) (sym (count-trees ts)) same)
  closed_defect (a_map p s c) ts e q r =
      let ps = paired ts in
      let z = ended_size s c (length ps) in
      around (DefectAt order) (built (a_map p s c) ts) ts (OwnDefect order (a_map p s c) ts) q r (within_map p z ts e.1)
      (subst (λ n. (SizeAt p z (length ps) q r ⊎ DescentAt order (entries ps) q r) ↔ (SizeAt p z n q r ⊎ DescentAt order (entries ps) q r)) (sym (count_entries-entries ps)) same)
  closed_defect (a_tag p w n) ts e q r =
      subst (λ us. Either (DefectInAll order (trees us)) (OwnDefect order (a_tag p w n) us) q r ↔ DefectIn order (built (a_tag p w n) us) q r) (sym e.1)
      (around (DefectAt order) (Tagged p w n e.0) (e.0 ∷ []) (OwnDefect order (a_tag p w n) (e.0 ∷ [])) q r (within_tag p w n e.0) (
        (λ d. elim d [ inl l ↦ (l.0, inl (l.1, l.2)) | inr l ↦ (l.0, inr (l.1, l.2, l.3, l.4, l.5)) ]),
        (λ d. elim d.1 [ inl l ↦ inl (d.0, l.0, l.1) | inr l ↦ inr (d.0, l.0, l.1, l.2, l.3, l.4) ]),
      ))
  closed_defect (in_chunks p k) ts e q r =
      subst (λ us. Either (DefectInAll order (trees us)) (λ q r. (q ≡ p) × (r ≡ EndlessLength)) q r ↔ DefectIn order (chunks_tree p k (chunks_of ts)) q r) (strings_are k ts e) (chunks_defect order p k (chunks_of ts) q r)

  -- ---- what is found

  both_flaws : (F G H : ℕ → InvalidReason → Type 0) (a b o : Option SomeFlaw) → ((p : ℕ) (r : InvalidReason) → Either F G p r ↔ H p r) → FindsFlaw F a → FindsFlaw G b → IsEarliestFlaw a b o → FindsFlaw H o
  both_flaws F G H a b o w h k e = found_alike flaw_rank (λ f. f.place) (λ f. f.reason) (Either F G) H o w (found_both flaw_rank (λ f. f.place) (λ f. f.reason) F G a b o h k e)

  both_defects : (F G H : ℕ → DefectReason → Type 0) (a b o : Option SomeDefect) → ((p : ℕ) (r : DefectReason) → Either F G p r ↔ H p r) → FindsDefect F a → FindsDefect G b → IsEarliestDefect a b o → FindsDefect H o
  both_defects F G H a b o w h k e = found_alike defect_rank (λ d. d.place) (λ d. d.reason) (Either F G) H o w (found_both defect_rank (λ d. d.place) (λ d. d.reason) F G a b o h k e)

  pub finds_open : (f : Partial) (o : Opening) (a : Option SomeFlaw) (d : Option SomeDefect) → Finds order f a d → Finds order (inside f o []) a d
  finds_open f o a d h1 = grind (arith, amid_open, found_alike)

  pub finds_put : (f : Partial) (t : Tree) (a b o : Option SomeFlaw) (d e i : Option SomeDefect) → FindsFlaw (Flaw t) b → FindsDefect (DefectIn order t) e → IsEarliestFlaw a b o → IsEarliestDefect d e i → Finds order f a d → Finds order (put f t) o i
  finds_put f t a b o d e i fl de g j h = (
    both_flaws (Amid FlawAt f) (Flaw t) (Amid FlawAt (put f t)) a b o (amid_put FlawAt f t) h.0 fl g,
    λ n. both_defects (Amid (DefectAt order) f) (DefectIn order t) (Amid (DefectAt order) (put f t)) d e i (amid_put (DefectAt order) f t) (h.1 (none_both flaw_rank (λ f. f.place) (λ f. f.reason) a b o g n).0) de j,
  )

  -- nodes without a flaw mean something
  all_mean : (ts : List Tree) → ((p : ℕ) (r : InvalidReason) → FlawIn (trees ts) p r → ⊥) → (vs : List Value) × AllZip Means ts vs
  all_mean [] h = ([], tt)
  all_mean (t ∷ ts) h =
      let v = meaning t (λ p r f. h p r (f.0, inl f.1, f.2)) in
      let vs = all_mean ts (λ p r f. h p r (f.0, inr f.1, f.2)) in
      (v.0 ∷ vs.0, (v.1, vs.1))

  pub sound : (flawed : Bool) (ts : List Tree) → IsSound flawed ts → ((p : ℕ) (r : InvalidReason) → FlawIn (trees ts) p r → ⊥) → flawed ≡ false
  sound flawed ts h1 h2 = grind (arith, all_mean)

  pub finds_close : (f : Partial) (p : Opening) (ts : List Tree) (flawed : Bool) (a b o : Option SomeFlaw) (d e i : Option SomeDefect) → Ends p ts → IsSound flawed ts → FindsFlaw (OwnFlaw p ts) b → (flawed ≡ false → b ≡ None → FindsDefect (OwnDefect order p ts) e)
      → IsEarliestFlaw a b o → IsEarliestDefect d e i → Finds order (inside f p ts) a d → Finds order (put f (built p ts)) o i
  finds_close f p ts flawed a b o d e i ends s fl de g j h = (
    both_flaws (Amid FlawAt (inside f p ts)) (OwnFlaw p ts) (Amid FlawAt (put f (built p ts))) a b o (amid_closed FlawAt f p ts (built p ts) (OwnFlaw p ts) (closed_flaw p ts ends)) h.0 fl g,
    λ n.
        let no_flaw = none_both flaw_rank (λ f. f.place) (λ f. f.reason) a b o g n in
        let none : FindsFlaw (Amid FlawAt (inside f p ts)) None = subst (FindsFlaw (Amid FlawAt (inside f p ts))) no_flaw.0 h.0 in
        both_defects (Amid (DefectAt order) (inside f p ts)) (OwnDefect order p ts) (Amid (DefectAt order) (put f (built p ts))) d e i
        (amid_closed (DefectAt order) f p ts (built p ts) (OwnDefect order p ts) (closed_defect p ts ends)) (h.1 no_flaw.0) (de (sound flawed ts s (λ q r k. none q r (inr k))) no_flaw.1) j,
  )
