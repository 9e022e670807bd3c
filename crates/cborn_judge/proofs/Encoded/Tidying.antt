-- A tidy node spells the encoding of what it means, and what spells an encoding is tidy.
use Rattle.std.specs.Prelude.{◌≡◌, ◌<◌, ◌≤◌, ◌^◌, ◌∷◌, ◌++◌}
use Rattle.cborn_judge.proofs.Common.{ℕ, ⊤, inl, inr, List, [], length, refl, sym, ap, ◌∙◌, subst, arith, true, false, Bool, append_assoc, append-nil, Ordering, AllByRecursion, cases_lt, IsPermutation-refl, IsLoose, Value, Values, Couples, no_values, value, no_pairs, pair, value_count, pair_count, big_endian, AreBytes, IsShortest, IsProper, AreProper, HasProperPairs, Width, Major, Unsigned, Negative, ByteString, TextString, Array, Map, Tag, Other, WidthFits, least, IsLeastHead, Given, EndlessArgument, code, head, IsString, IsInteger, Det, DetValues, DetPairs, Entry, keys, joined, major_of, bignum_tag, Rising, Tree, Uint, Nint, Bytes, Text, ByteChunks, TextChunks, Items, Pairs, Tagged, Simple, Trees, no_item, more, Entries, no_entry, entry, count, count_entries, Size, Fixed, Endless, SizeFits, spelled, spelled_all, spelled_entries, Fits, FitsAll, FitsEntries, IsNumber, IsByteString, IsBignum, Means, AllMean, EntriesMean, spelled_pairs, SizeIsTidy, IsTidy, AllTidy, EntriesTidy, simple_fits, string_one, one_magnitude, large, fits_in, below_power, no_more, counted, counted_pairs, holds_below}
use Rattle.cborn_model.proofs.Numbers.OneHead.{append_same, low_bits_below}
use Rattle.cborn_det.proofs.Reading.{IsEntry, IsLarge, Content, Meets, seen, meets, alone}
use Rattle.cborn_judge.proofs.Meaning.Meanings.{number_valid}

pub joined_spelled : (es : Entries) → spelled_entries es ≡ joined (spelled_pairs es)
joined_spelled no_entry = refl
joined_spelled (entry k v es) = ap (λ l. spelled k ++ spelled v ++ l) (joined_spelled es)

-- ---- from tidy to the encoding

is_least_head : (m : Major) (w : Width) (n k : ℕ) → WidthFits w n → w ≡ least n → k ≡ n → IsLeastHead (code m) k (head m (Given w n))
is_least_head m w n k h1 h2 h3 = grind arith

-- what isn't loose is a magnitude above 64 bits
pub record Wide (b : List ℕ) : Type 0 where
  pub shortest : IsShortest b
  pub large : 2 ^ 64 ≤ big_endian b

pub not_loose : (b : List ℕ) → (IsLoose b → ⊥) → Wide b
not_loose b h1 = grind (arith, cases_lt, large)

module _ (order : List ℕ → List ℕ → Ordering) where
  string_det : (m : Major) (w : Width) (b : List ℕ) → WidthFits w (length b) → w ≡ least (length b) → IsString (code m) b (head m (Given w (length b)) ++ b)
  string_det m w b h e = (head m (Given w (length b)), is_least_head m w (length b) (length b) h e refl, refl)

  number_det : (s : Bool) (m : Major) (w : Width) (n : ℕ) (v : Value) → code m ≡ major_of s → IsNumber s n v → WidthFits w n → w ≡ least n → Det order v (head m (Given w n))
  number_det s m w n v h1 h2 h3 h4 = grind (arith, holds_below, is_least_head)

  bignum_det : (s : Bool) (w : Width) (n : ℕ) (t : Tree) (v : Value) → n ≡ bignum_tag s → IsBignum s t v → WidthFits w n → w ≡ least n → Fits t → IsTidy order t → ((b : List ℕ) → IsByteString t b → IsLoose b → ⊥) → Det order v (head Tag (Given w n) ++ spelled t)
  bignum_det s w n (Bytes q u b) v i h f e g d l =
      let wide = not_loose b (l b refl) in
      let k = h.2 in
      let m : k.0 ≡ b = one_magnitude k.0 b k.1 g.1 k.2 wide.shortest (k.3 ∙ ap big_endian h.1) in
      let x = head Tag (Given w n) ++ spelled (Bytes q u b) in
      let tag : IsLeastHead 6 (bignum_tag s) (head Tag (Given w n)) = is_least_head Tag w n (bignum_tag s) f e (sym i) in
      let det : IsInteger s b x = inr (wide.large, head Tag (Given w n), spelled (Bytes q u b), tag, string_det ByteString u b g.0 d, refl) in
      subst (λ z. Det order z x) (sym k.4) (subst (λ z. IsInteger s z x) (sym m) det)
  bignum_det s w n (ByteChunks q cs) v i h f e g d l = absurd d
  bignum_det s w n _ v i h f e g d l = absurd h.1

  mutual
    pub tidy_det : (t : Tree) (v : Value) → Fits t → Means t v → IsTidy order t → Det order v (spelled t)
    tidy_det (Uint p w n) v f h d = number_det false Unsigned w n v refl h f d
    tidy_det (Nint p w n) v f h d = number_det true Negative w n v refl h f d
    tidy_det (Bytes p w b) v f h d = subst (λ z. Det order z (spelled (Bytes p w b))) (sym h) (string_det ByteString w b f.0 d)
    tidy_det (Text p w b) v f h d = subst (λ z. Det order z (spelled (Text p w b))) (sym h.1) (string_det TextString w b f.0 d)
    tidy_det (Items p (Fixed w) ts) v f h d =
        let k = head Array (Given w (count ts)) in
        subst (λ z. Det order z (spelled (Items p (Fixed w) ts))) (sym h.2)
        (k, spelled_all ts, is_least_head Array w (count ts) (value_count h.0) f.0 d.0 (counted ts h.0 h.1), all_det ts h.0 f.1 h.1 d.1, append-nil (k ++ spelled_all ts))
    tidy_det (Items p Endless ts) v f h d = absurd d.0
    tidy_det (Pairs p (Fixed w) es) v f h d =
        let k = head Map (Given w (count_entries es)) in
        subst (λ z. Det order z (spelled (Pairs p (Fixed w) es))) (sym h.3)
        (k, spelled_pairs es, spelled_pairs es, is_least_head Map w (count_entries es) (pair_count h.0) f.0 d.0 (counted_pairs es h.0 h.1), entries_det es h.0 f.1 h.1 d.1, IsPermutation-refl (spelled_pairs es), d.2, append-nil (k ++ spelled_entries es) ∙ ap (λ l. k ++ l) (joined_spelled es))
    tidy_det (Pairs p Endless es) v f h d = absurd d.0
    tidy_det (Tagged p w n t) v f (inl h) d = bignum_det false w n t v h.0 h.1 f.0 d.0 f.1 d.1 (λ b i l. d.2 b (inl h.0) i l)
    tidy_det (Tagged p w n t) v f (inr (inl h)) d = bignum_det true w n t v h.0 h.1 f.0 d.0 f.1 d.1 (λ b i l. d.2 b (inr h.0) i l)
    tidy_det (Tagged p w n t) v f (inr (inr h)) d =
        subst (λ z. Det order z (spelled (Tagged p w n t))) (sym h.4)
        (head Tag (Given w n), spelled t, is_least_head Tag w n n f.0 d.0 refl, tidy_det t h.2 f.1 h.3 d.1, refl)
    tidy_det (Simple p n) v f h d =
        subst (λ z. Det order z (spelled (Simple p n))) (sym h) (f, (simple_fits n f, refl))
    tidy_det _ v f h d = absurd d

    pub all_det : (ts : Trees) (vs : Values) → FitsAll ts → AllMean ts vs → AllTidy order ts → DetValues order vs (spelled_all ts)
    all_det no_item no_values f h d = refl
    all_det (more t ts) (value v vs) f h d = (spelled t, spelled_all ts, tidy_det t v f.0 h.0 d.0, all_det ts vs f.1 h.1 d.1, refl)
    all_det _ _ f h d = absurd h

    pub entries_det : (es : Entries) (ps : Couples) → FitsEntries es → EntriesMean es ps → EntriesTidy order es → DetPairs order ps (spelled_pairs es)
    entries_det no_entry no_pairs f h d = tt
    entries_det (entry k v es) (pair a b ps) f h d = (tidy_det k a f.0 h.0 d.0, tidy_det v b f.1 h.1 d.1, entries_det es ps f.2 h.2 d.2)
    entries_det _ _ f h d = absurd h

-- ---- from the encoding to tidy

module _ (order : List ℕ → List ℕ → Ordering) where
  -- what follows a head in the encoding of a valid item
  abbrev Follows : Major → ℕ → List ℕ → Type 0
  Follows = Content ⊤ order

  met : (m : Major) (w : Width) (n : ℕ) (c r x s : List ℕ) (v : Value) → WidthFits w n → IsProper v → Det order v x → (head m (Given w n) ++ c) ++ r ≡ x ++ s → Meets ⊤ order m w n (head m (Given w n)) c r x s
  met m w n c r x s v f p d e = meets ⊤ order m w n (head m (Given w n)) c r x s v (f, refl) (seen ⊤ order v x (λ g. p) d) e

  -- an indefinite length begins no encoding
  not_endless : (m : Major) (c x s : List ℕ) (v : Value) → Det order v x → head m EndlessArgument ++ c ≡ x ++ s → ⊥
  not_endless m c x s v h1 h2 = grind (arith, alone, append_assoc, low_bits_below)

  abbrev Spelt : List ℕ → List ℕ → List ℕ → List ℕ → Type 0 → Type 0
  Spelt a r x s T = (a ≡ x) × (r ≡ s) × T

  -- a head alone
  bare_spelt : (m : Major) (w : Width) (n : ℕ) (v : Value) (r x s : List ℕ) → ((c : List ℕ) → Follows m n c → c ≡ []) → WidthFits w n → IsProper v → Det order v x → head m (Given w n) ++ r ≡ x ++ s → Spelt (head m (Given w n)) r x s (w ≡ least n)
  bare_spelt m w n v r x s none f p d e =
      let h = head m (Given w n) in
      let z = met m w n [] r x s v f p d (ap (λ l. l ++ r) (append-nil h) ∙ e) in
      let nothing = none z.content z.follows in
      (sym (append-nil h) ∙ ap (λ l. h ++ l) (sym nothing) ∙ sym z.is, z.rest ∙ ap (λ l. l ++ s) nothing, z.short)

  string_spelt : (m : Major) (w : Width) (b : List ℕ) (v : Value) (r x s : List ℕ) → ((c : List ℕ) → Follows m (length b) c → length c ≡ length b) → WidthFits w (length b) → IsProper v → Det order v x → (head m (Given w (length b)) ++ b) ++ r ≡ x ++ s → Spelt (head m (Given w (length b)) ++ b) r x s (w ≡ least (length b))
  string_spelt m w b v r x s long f p d e =
      let z = met m w (length b) b r x s v f p d e in
      let t = append_same b z.content r s (sym (long z.content z.follows)) z.rest in
      (ap (λ l. head m (Given w (length b)) ++ l) t.0 ∙ sym z.is, t.1, z.short)

  loose_or_wide : (b : List ℕ) → AreBytes b → IsShortest b → 2 ^ 64 ≤ big_endian b → IsLoose b → ⊥
  loose_or_wide [] a h l k = omega arith
  loose_or_wide (c ∷ bs) a h l (inl k) = omega arith
  loose_or_wide (c ∷ bs) a h l (inr k) = let t = fits_in (big_endian (c ∷ bs)) (length (c ∷ bs)) (below_power (c ∷ bs) a) k in omega arith

  -- a tidy byte string's content is what its encoding says
  content_one : (t : Tree) (b c : List ℕ) → Fits t → IsTidy order t → IsByteString t b → IsString 2 c (spelled t) → b ≡ c
  content_one t b c h1 h2 h3 h4 = grind (arith, string_det, string_one)

  -- nor is that of a large bignum loose
  large_content : (t : Tree) (v : Value) (b : List ℕ) → Fits t → IsTidy order t → IsProper v → Det order v (spelled t) → IsLarge v → IsByteString t b → IsLoose b → ⊥
  large_content t v b f y p d (c, e, h, l) is loose =
      let same = content_one t b c f y is (subst (λ u. Det order u (spelled t)) e d) in
      loose_or_wide c (subst IsProper e p).0 h l (subst IsLoose same loose)

  mutual
    pub det_tidy : (t : Tree) (v : Value) (r x s : List ℕ) → Fits t → IsProper v → Det order v x → spelled t ++ r ≡ x ++ s → Spelt (spelled t) r x s (IsTidy order t)
    det_tidy (Uint p w n) v r x s f g d e = bare_spelt Unsigned w n v r x s (λ c k. k) f g d e
    det_tidy (Nint p w n) v r x s f g d e = bare_spelt Negative w n v r x s (λ c k. k) f g d e
    det_tidy (Bytes p w b) v r x s f g d e = string_spelt ByteString w b v r x s (λ c k. k) f.0 g d e
    det_tidy (Text p w b) v r x s f g d e = string_spelt TextString w b v r x s (λ c k. k) f.0 g d e
    det_tidy (ByteChunks p cs) v r x s f g d e = absurd (not_endless ByteString _ x s v d e)
    det_tidy (TextChunks p cs) v r x s f g d e = absurd (not_endless TextString _ x s v d e)
    det_tidy (Items p (Fixed w) ts) v r x s f g d e =
        let h = head Array (Given w (count ts)) in
        let z = met Array w (count ts) (spelled_all ts) r x s v f.0 g d (ap (λ l. l ++ r) (sym (append-nil (h ++ spelled_all ts))) ∙ e) in
        let (vs, many, proper, det) = z.follows in
        let t = all_tidy ts vs z.content r s many f.1 (proper tt) det z.rest in
        (append-nil (h ++ spelled_all ts) ∙ ap (λ l. h ++ l) t.0 ∙ sym z.is, t.1, (z.short, t.2))
    det_tidy (Items p Endless ts) v r x s f g d e = absurd (not_endless Array _ x s v d e)
    det_tidy (Pairs p (Fixed w) es) v r x s f g d e =
        let h = head Map (Given w (count_entries es)) in
        let z = met Map w (count_entries es) (spelled_entries es) r x s v f.0 g d (ap (λ l. l ++ r) (sym (append-nil (h ++ spelled_entries es))) ∙ e) in
        let (fs, many, lie, rise, is) = z.follows in
        let t = entries_tidy es fs r s many f.1 lie (z.rest ∙ ap (λ l. l ++ s) is) in
        (append-nil (h ++ spelled_entries es) ∙ ap (λ l. h ++ l) (joined_spelled es ∙ ap joined t.0 ∙ sym is) ∙ sym z.is, t.1, (z.short, t.2, subst (λ q. Rising order (keys q)) (sym t.0) rise))
    det_tidy (Pairs p Endless es) v r x s f g d e = absurd (not_endless Map _ x s v d e)
    det_tidy (Tagged p w n t) v r x s f g d e =
        let z = met Tag w n (spelled t) r x s v f.0 g d e in
        let (u, proper, det, is_large) = z.follows in
        let a = det_tidy t u r z.content s f.1 (proper tt) det z.rest in
        (ap (λ l. head Tag (Given w n) ++ l) a.0 ∙ sym z.is, a.1, (z.short, a.2, λ b tag is l. large_content t u b f.1 a.2 (proper tt) (subst (Det order u) (sym a.0) det) (is_large tt tag) is l))
    det_tidy (Simple p n) v r x s f g d e = let t = bare_spelt Other (least n) n v r x s (λ c k. k) (simple_fits n f) g d e in (t.0, t.1, tt)

    pub all_tidy : (ts : Trees) (vs : Values) (c r s : List ℕ) → value_count vs ≡ count ts → FitsAll ts → AreProper vs → DetValues order vs c → spelled_all ts ++ r ≡ c ++ s → Spelt (spelled_all ts) r c s (AllTidy order ts)
    all_tidy no_item no_values c r s n f p d e = (sym d, e ∙ ap (λ l. l ++ s) d, tt)
    all_tidy no_item (value v vs) c r s n f p d e = absurd (omega arith)
    all_tidy (more t ts) no_values c r s n f p d e = absurd (omega arith)
    all_tidy (more t ts) (value v vs) c r s n f p d e =
        let a = det_tidy t v (spelled_all ts ++ r) d.0 (d.1 ++ s) f.0 p.0 d.2 (sym (append_assoc (spelled t) (spelled_all ts) r) ∙ e ∙ ap (λ l. l ++ s) d.4 ∙ append_assoc d.0 d.1 s) in
        let b = all_tidy ts vs d.1 r s (omega arith) f.1 p.1 d.3 a.1 in
        ((λ i. a.0 i ++ b.0 i) ∙ sym d.4, b.1, (a.2, b.2))

    entries_tidy : (es : Entries) (fs : List Entry) (r s : List ℕ) → length fs ≡ count_entries es → FitsEntries es → AllByRecursion (IsEntry ⊤ order) fs → spelled_entries es ++ r ≡ joined fs ++ s → (spelled_pairs es ≡ fs) × (r ≡ s) × EntriesTidy order es
    entries_tidy no_entry [] r s n f p e = (refl, e, tt)
    entries_tidy no_entry (g ∷ fs) r s n f p e = absurd (omega arith)
    entries_tidy (entry k v es) [] r s n f p e = absurd (omega arith)
    entries_tidy (entry k v es) (g ∷ fs) r s n f p e =
        let q = p.0 in
        let whole : spelled k ++ (spelled v ++ (spelled_entries es ++ r)) ≡ g.0 ++ (g.1 ++ (joined fs ++ s)) =
        sym (append_assoc (spelled k) (spelled v) (spelled_entries es ++ r)) ∙ sym (append_assoc (spelled k ++ spelled v) (spelled_entries es) r) ∙ e ∙ append_assoc (g.0 ++ g.1) (joined fs) s ∙ append_assoc g.0 g.1 (joined fs ++ s) in
        let a = det_tidy k q.0 (spelled v ++ (spelled_entries es ++ r)) g.0 (g.1 ++ (joined fs ++ s)) f.0 (q.2 tt).0 q.3 whole in
        let b = det_tidy v q.1 (spelled_entries es ++ r) g.1 (joined fs ++ s) f.1 (q.2 tt).1 q.4 a.1 in
        let c = entries_tidy es fs r s (omega arith) f.2 p.1 b.1 in
        ((λ i. (a.0 i, b.0 i) ∷ c.0 i), c.1, (a.2, b.2, c.2))

-- ---- what a tidy node means is proper: each length has room in a head

count_fits : (s : Size) (n k : ℕ) → SizeIsTidy s n → SizeFits s n → k ≡ n → k < 2 ^ 64
count_fits s n k h1 h2 h3 = grind (arith, holds_below)

tidy_bignum : (order : List ℕ → List ℕ → Ordering) (s : Bool) (t : Tree) (v : Value) → Fits t → IsTidy order t → IsBignum s t v → IsProper v
tidy_bignum order s t v h1 h2 h3 = grind (arith, holds_below, no_more)

mutual
  pub tidy_proper : (order : List ℕ → List ℕ → Ordering) (t : Tree) (v : Value) → Fits t → IsTidy order t → Means t v → IsProper v
  tidy_proper order (Uint p w n) v f y h = number_valid false n v h (holds_below w n f)
  tidy_proper order (Nint p w n) v f y h = number_valid true n v h (holds_below w n f)
  tidy_proper order (Bytes p w b) v f y h = subst IsProper (sym h) (f.1, holds_below w (length b) f.0)
  tidy_proper order (Text p w b) v f y h = subst IsProper (sym h.1) (h.0, holds_below w (length b) f.0)
  tidy_proper order (Items p s ts) v f y h =
      subst IsProper (sym h.2) (all_proper order ts h.0 f.1 y.1 h.1, count_fits s (count ts) (value_count h.0) y.0 f.0 (counted ts h.0 h.1))
  tidy_proper order (Pairs p s es) v f y h =
      subst IsProper (sym h.3) (entries_proper order es h.0 f.1 y.1 h.1, h.2, count_fits s (count_entries es) (pair_count h.0) y.0 f.0 (counted_pairs es h.0 h.1))
  tidy_proper order (Tagged p w n t) v f y (inl h) = tidy_bignum order false t v f.1 y.1 h.1
  tidy_proper order (Tagged p w n t) v f y (inr (inl h)) = tidy_bignum order true t v f.1 y.1 h.1
  tidy_proper order (Tagged p w n t) v f y (inr (inr h)) = subst IsProper (sym h.4) (h.0, h.1, holds_below w n f.0, tidy_proper order t h.2 f.1 y.1 h.3)
  tidy_proper order (Simple p n) v f y h = subst IsProper (sym h) f
  tidy_proper order _ v f y h = absurd y

  all_proper : (order : List ℕ → List ℕ → Ordering) (ts : Trees) (vs : Values) → FitsAll ts → AllTidy order ts → AllMean ts vs → AreProper vs
  all_proper order no_item no_values f y h = tt
  all_proper order (more t ts) (value v vs) f y h = (tidy_proper order t v f.0 y.0 h.0, all_proper order ts vs f.1 y.1 h.1)
  all_proper order _ _ f y h = absurd h

  pub entries_proper : (order : List ℕ → List ℕ → Ordering) (es : Entries) (ps : Couples) → FitsEntries es → EntriesTidy order es → EntriesMean es ps → HasProperPairs ps
  entries_proper order no_entry no_pairs f y h = tt
  entries_proper order no_entry (pair a b ps) f y h = absurd h
  entries_proper order (entry k v es) no_pairs f y h = absurd h
  entries_proper order (entry k v es) (pair a b ps) f y h =
      (tidy_proper order k a f.0 y.0 h.0, tidy_proper order v b f.1 y.1 h.1, entries_proper order es ps f.2 y.2 h.2)
