-- Of valid items, two have one encoding exactly if they are the same, and each has one.
use Rattle.std.specs.Prelude.{◌↔◌, ◌≡◌, ◌+◌, ◌*◌, ◌<◌, ◌≤◌, ◌^◌, ◌⊎◌, ◌∷◌, ◌++◌}
use Rattle.cborn_det.proofs.Common.{ℕ, suc, inl, inr, List, [], length, refl, sym, ap, ◌∙◌, subst, arith, true, false, Bool, append-nil, length-append, IsPermutation, Ordering, AllByRecursion, AllZip, length_permutation, IsPermutation-sym, IsPermutation-trans, cases_lt, Value, Values, Couples, integer, bytes, text, array, dict, tagged, simple, no_values, value, no_pairs, pair, listed, value_count, pair_count, pairs_of, values_of, number, Same, SameValues, SamePairs, big_endian, IsProper, AreProper, HasProperPairs, IsNew, HasNewKeys, information, following, least, IsLeastHead, IsString, IsInteger, Det, DetValues, DetPairs, DetSeq, DetMap, Entry, joined, major_of, bignum_tag, HasDistinctKeys, IsKeyOrder, one_head, least_holds, All_moved, carried, carried_left, one_magnitude, one_number, listed-pairs_of}
use Rattle.cborn_model.specs.Heads.{major_at}
use Rattle.cborn_model.proofs.Numbers.Majors.{major_at-code}
use Rattle.cborn_model.proofs.Numbers.Simples.{simple_below}
use Rattle.cborn_model.proofs.Listed.Meanings.{are_proper}
use Rattle.cborn_det.proofs.Steps.{seq_of_values}
use Rattle.cborn_det.proofs.Rising.{one_arrangement, arranged}
use Rattle.cborn_det.proofs.Reading.{kind, led, Lies, alone, are_entries, some_bytes, reads, EntryReads, pairs_read, joined_reads}

pub tags : (b : Bool) → (bignum_tag b ≡ 2) ⊎ (bignum_tag b ≡ 3)
tags true = inr refl
tags false = inl refl

small : (b : Bool) → major_of b < 2
small true = omega arith
small false = omega arith

major_sign : (s t : Bool) → major_of s ≡ major_of t → s ≡ t
major_sign true true e = refl
major_sign false false e = refl
major_sign _ _ e = absurd (omega arith)

tag_sign : (s t : Bool) → bignum_tag s ≡ bignum_tag t → s ≡ t
tag_sign true true e = refl
tag_sign false false e = refl
tag_sign _ _ e = absurd (omega arith)

pub string_one : (m : ℕ) (b c x : List ℕ) → IsString m b x → IsString m c x → b ≡ c
string_one m b c x p q = (one_head {m = m} {j = m} (least (length b)) (least (length c)) b c p.1 q.1 (sym p.2 ∙ q.2)).rest

string_same : (m : ℕ) (b c x y : List ℕ) → b ≡ c → IsString m b x → IsString m c y → x ≡ y
string_same m b c x y e p q =
    p.2 ∙ (λ i. ((p.1.1 ∙ ap (λ (z : List ℕ). (32 * m + information (least (length z)) (length z)) ∷ following (least (length z)) (length z)) e ∙ sym q.1.1) i) ++ e i) ∙ sym q.2

number_from : (s t : Bool) (m n : List ℕ) → s ≡ t → big_endian m ≡ big_endian n → number s m ≡ number t n
number_from true true m n e f = cc
number_from true false m n e f = cc
number_from false true m n e f = cc
number_from false false m n e f = cc

integer_one : (s t : Bool) (m n x : List ℕ) → IsInteger s m x → IsInteger t n x → number s m ≡ number t n
integer_one s t m n x p q =
    elim p [
      | inl a ↦ elim q [
        | inl b ↦ let o = one_head (least (big_endian m)) (least (big_endian n)) [] [] a.1 b.1 refl in number_from s t m n (major_sign s t o.major) o.argument
        | inr b ↦ absurd (no_bignum s m t n x a b)
      ]
      | inr a ↦ elim q [
        | inl b ↦ absurd (no_bignum t n s m x b a)
        | inr b ↦
            let o = one_head {m = 6} {j = 6} (least (bignum_tag s)) (least (bignum_tag t)) a.2 b.2 a.3 b.3 (sym a.5 ∙ b.5) in
            number_from s t m n (tag_sign s t o.argument) (ap big_endian (string_one 2 m n b.2 (subst (IsString 2 m) o.rest a.4) b.4))
      ]
    ]
  where
    no_bignum : (s : Bool) (m : List ℕ) (t : Bool) (n x : List ℕ) → (big_endian m < 2 ^ 64) × IsLeastHead (major_of s) (big_endian m) x → (2 ^ 64 ≤ big_endian n) × (h : List ℕ) × (c : List ℕ) × IsLeastHead 6 (bignum_tag t) h × IsString 2 n c × (x ≡ h ++ c) → ⊥
    no_bignum s m t n x a b = omega (arith, (one_head {m = major_of s} {j = 6} (least (big_endian m)) (least (bignum_tag t)) [] b.2 a.1 b.3 (append-nil x ∙ b.5)).major, small s)

abbrev IsProperPair : Value × Value → Type 0
IsProperPair p = IsProper p.0 × IsProper p.1

proper_listed : (ps : Couples) → HasProperPairs ps → AllByRecursion IsProperPair (listed ps)
proper_listed no_pairs h = tt
proper_listed (pair k v ps) h = ((h.0, h.1), proper_listed ps h.2)

module _ (order : List ℕ → List ℕ → Ordering) where
  same_kind : (a b : Value) (x : List ℕ) → Det order a x → Det order b x → IsProper a → IsProper b → kind a ≡ kind b
  same_kind a b x d e p q =
      let s = alone order a x d in
      let t = alone order b x e in
      let o = one_head (least s.argument) (least t.argument) s.content t.content s.is_head t.is_head (sym s.is ∙ t.is) in
      let major : s.major ≡ t.major = sym (major_at-code s.major) ∙ ap major_at o.major ∙ major_at-code t.major in
      sym (s.leads p) ∙ (λ i. led (major i) (o.argument i)) ∙ t.leads q

  -- an entry is a pair's
  abbrev DetPair : Value × Value → Entry → Type 0
  DetPair p e = Det order p.0 e.0 × Det order p.1 e.1

  det_zip : (ps : Couples) (es : List Entry) → DetPairs order ps es → AllZip DetPair (listed ps) es
  det_zip no_pairs [] d = tt
  det_zip (pair k v ps) (e ∷ es) d = ((d.0, d.1), det_zip ps es d.2)
  det_zip _ _ d = absurd d

  det_length : (ps : Couples) (es : List Entry) → DetPairs order ps es → length es ≡ pair_count ps
  det_length ps es d = (are_entries ⊥ order ps es (λ g. absurd g) d).1

  -- where two maps are written alike, the entries of the one are a rearrangement of the other's
  one_content : (ps qs : Couples) (es fs gs hs : List Entry) → DetPairs order ps es → IsPermutation es fs → DetPairs order qs gs → IsPermutation gs hs → pair_count ps ≡ pair_count qs → joined fs ≡ joined hs → IsPermutation gs es
  one_content ps qs es fs gs hs d p e q l j =
      let long : length fs ≡ length hs = length_permutation es fs p ∙ det_length ps es d ∙ l ∙ sym (length_permutation gs hs q ∙ det_length qs gs e) in
      let lies = All_moved (Lies order) gs hs q (are_entries ⊥ order qs gs (λ g. absurd g) e).0 in
      let t = joined_reads order fs hs [] [] long (All_moved (EntryReads order) es fs p (pairs_read order ps es d)) lies (ap (λ l. l ++ []) j) in
      IsPermutation-trans gs hs es q (subst (λ l. IsPermutation l es) t.0 (IsPermutation-sym es fs p))

  -- items with one encoding are the same
  mutual
    pub same_of_one : (a b : Value) (x : List ℕ) → IsProper a → IsProper b → Det order a x → Det order b x → Same a b
    same_of_one (integer s m) (integer t n) x p q d e = integer_one s t m n x d e
    same_of_one (bytes b) (bytes c) x p q d e = string_one 2 b c x d e
    same_of_one (text b) (text c) x p q d e = string_one 3 b c x d e
    same_of_one (array vs) (array ws) x p q d e =
        let o = one_head {m = 4} {j = 4} (least (value_count vs)) (least (value_count ws)) d.1 e.1 d.2 e.2 (sym d.4 ∙ e.4) in
        values_of_one vs ws d.1 p.0 q.0 o.argument d.3 (subst (DetValues order ws) (sym o.rest) e.3)
    same_of_one (dict ps) (dict qs) x p q d e =
        let o = one_head {m = 5} {j = 5} (least (pair_count ps)) (least (pair_count qs)) (joined d.2) (joined e.2) d.3 e.3 (sym d.7 ∙ e.7) in
        let moved : IsPermutation e.1 d.1 = one_content ps qs d.1 d.2 e.1 e.2 d.4 d.5 e.4 e.5 o.argument o.rest in
        let t = carried DetPair (listed qs) e.1 d.1 (det_zip qs e.1 e.4) moved in
        (t.0, t.1, pairs_of_one ps t.0 d.1 p.0 (All_moved IsProperPair (listed qs) t.0 t.1 (proper_listed qs q.0)) d.4 t.2)
    same_of_one (tagged t v) (tagged u w) x p q d e =
        let o = one_head {m = 6} {j = 6} (least t) (least u) d.1 e.1 d.2 e.2 (sym d.4 ∙ e.4) in
        (o.argument, same_of_one v w d.1 p.3 q.3 d.3 (subst (Det order w) (sym o.rest) e.3))
    same_of_one (simple n) (simple m) x p q d e = (one_head {m = 7} {j = 7} (least n) (least m) [] [] d.1 e.1 refl).argument
    same_of_one a b x p q d e = absurd (omega (arith, same_kind a b x d e p q))

    values_of_one : (vs ws : Values) (c : List ℕ) → AreProper vs → AreProper ws → value_count vs ≡ value_count ws → DetValues order vs c → DetValues order ws c → SameValues vs ws
    values_of_one no_values no_values c p q l d e = tt
    values_of_one (value v vs) (value w ws) c p q l d e =
        let t = reads order v d.0 d.2 w e.0 d.1 e.1 e.2 (sym d.4 ∙ e.4) in (
          same_of_one v w d.0 p.0 q.0 d.2 (subst (Det order w) (sym t.0) e.2),
          values_of_one vs ws d.1 p.1 q.1 (omega arith) d.3 (subst (DetValues order ws) (sym t.1) e.3),
        )
    values_of_one _ _ c p q l d e = absurd (omega arith)

    pairs_of_one : (ps : Couples) (rs : List (Value × Value)) (es : List Entry) → HasProperPairs ps → AllByRecursion IsProperPair rs → DetPairs order ps es → AllZip DetPair rs es → SamePairs ps rs
    pairs_of_one no_pairs [] [] p q d z = tt
    pairs_of_one (pair k v ps) (r ∷ rs) (e ∷ es) p q d z =
        (same_of_one k r.0 e.0 p.0 q.0.0 d.0 z.0.0, same_of_one v r.1 e.1 p.1 q.0.1 d.1 z.0.1, pairs_of_one ps rs es p.2 q.1 d.2 z.1)
    pairs_of_one no_pairs rs (e ∷ es) p q d z = absurd d
    pairs_of_one (pair k v ps) rs [] p q d z = absurd d
    pairs_of_one _ _ _ p q d z = absurd z

head_same : (j n k : ℕ) (h g : List ℕ) → n ≡ k → IsLeastHead j n h → IsLeastHead j k g → h ≡ g
head_same j n k h g e p q = p.1 ∙ ap (λ z. (32 * j + information (least z) z) ∷ following (least z) z) e ∙ sym q.1

integer_same : (s : Bool) (m x y : List ℕ) → IsInteger s m x → IsInteger s m y → x ≡ y
integer_same s m x y (inl a) (inl b) = head_same (major_of s) (big_endian m) (big_endian m) x y refl a.1 b.1
integer_same s m x y (inl a) (inr b) = absurd (omega arith)
integer_same s m x y (inr a) (inl b) = absurd (omega arith)
integer_same s m x y (inr a) (inr b) =
    a.5 ∙ (λ i. head_same 6 (bignum_tag s) (bignum_tag s) a.1 b.1 refl a.3 b.3 i ++ string_same 2 m m a.2 b.2 refl a.4 b.4 i) ∙ sym b.5

values_count : (vs ws : Values) → SameValues vs ws → value_count vs ≡ value_count ws
values_count no_values no_values h = refl
values_count (value v vs) (value w ws) h = ap suc (values_count vs ws h.1)
values_count _ _ h = absurd h

module _ (order : List ℕ → List ℕ → Ordering) (laws : IsKeyOrder order) where
  -- an item has one encoding
  mutual
    pub one_det : (v : Value) (x y : List ℕ) → Det order v x → Det order v y → x ≡ y
    one_det (integer s m) x y d e = integer_same s m x y d e
    one_det (bytes b) x y d e = string_same 2 b b x y refl d e
    one_det (text b) x y d e = string_same 3 b b x y refl d e
    one_det (array vs) x y d e = d.4 ∙ (λ i. head_same 4 (value_count vs) (value_count vs) d.0 e.0 refl d.2 e.2 i ++ one_values vs d.1 e.1 d.3 e.3 i) ∙ sym e.4
    one_det (dict ps) x y d e =
        let moved : IsPermutation d.1 e.2 = subst (λ l. IsPermutation l e.2) (sym (one_pairs ps d.1 e.1 d.4 e.4)) e.5 in
        let arranged_one : d.2 ≡ e.2 = one_arrangement order laws d.1 d.2 e.2 d.5 moved d.6 e.6 in
        d.7 ∙ (λ i. head_same 5 (pair_count ps) (pair_count ps) d.0 e.0 refl d.3 e.3 i ++ joined (arranged_one i)) ∙ sym e.7
    one_det (tagged t v) x y d e = d.4 ∙ (λ i. head_same 6 t t d.0 e.0 refl d.2 e.2 i ++ one_det v d.1 e.1 d.3 e.3 i) ∙ sym e.4
    one_det (simple n) x y d e = head_same 7 n n x y refl d.1 e.1

    one_values : (vs : Values) (c d : List ℕ) → DetValues order vs c → DetValues order vs d → c ≡ d
    one_values no_values c d e f = e ∙ sym f
    one_values (value v vs) c d e f = e.4 ∙ (λ i. one_det v e.0 f.0 e.2 f.2 i ++ one_values vs e.1 f.1 e.3 f.3 i) ∙ sym f.4

    one_pairs : (ps : Couples) (es fs : List Entry) → DetPairs order ps es → DetPairs order ps fs → es ≡ fs
    one_pairs no_pairs [] [] d e = refl
    one_pairs (pair k v ps) (g ∷ es) (h ∷ fs) d e = λ i. (one_det k g.0 h.0 d.0 e.0 i, one_det v g.1 h.1 d.1 e.1 i) ∷ one_pairs ps es fs d.2 e.2 i
    one_pairs _ _ _ d e = absurd (search (e, d))

  -- items that are the same have one encoding
  mutual
    pub one_of_same : (a b : Value) (x y : List ℕ) → IsProper a → IsProper b → Same a b → Det order a x → Det order b y → x ≡ y
    one_of_same (integer s m) (integer t n) x y p q h d e =
        let k = one_number s t m n h in
        integer_same s m x y d (subst (λ b. IsInteger b m y) (sym k.0) (subst (λ b. IsInteger t b y) (sym (one_magnitude m n p.0 q.0 p.1 q.1 k.1)) e))
    one_of_same (bytes b) (bytes c) x y p q h d e = string_same 2 b c x y h d e
    one_of_same (text b) (text c) x y p q h d e = string_same 3 b c x y h d e
    one_of_same (array vs) (array ws) x y p q h d e =
        d.4 ∙ (λ i. head_same 4 (value_count vs) (value_count ws) d.0 e.0 (values_count vs ws h) d.2 e.2 i ++ one_of_values vs ws d.1 e.1 p.0 q.0 h d.3 e.3 i) ∙ sym e.4
    one_of_same (dict ps) (dict qs) x y p q h d e =
        let t = carried_left (DetPair order) (listed qs) h.0 e.1 (det_zip order qs e.1 e.4) h.1 in
        let written : d.1 ≡ t.0 = one_of_pairs ps h.0 d.1 t.0 p.0 (All_moved IsProperPair (listed qs) h.0 h.1 (proper_listed qs q.0)) h.2 d.4 t.2 in
        let moved : IsPermutation d.1 e.2 = subst (λ l. IsPermutation l e.2) (sym written) (IsPermutation-trans t.0 e.1 e.2 (IsPermutation-sym e.1 t.0 t.1) e.5) in
        let arranged_one : d.2 ≡ e.2 = one_arrangement order laws d.1 d.2 e.2 d.5 moved d.6 e.6 in
        let counts : pair_count ps ≡ pair_count qs = sym (det_length order ps d.1 d.4) ∙ ap length written ∙ length_permutation e.1 t.0 t.1 ∙ det_length order qs e.1 e.4 in
        d.7 ∙ (λ i. head_same 5 (pair_count ps) (pair_count qs) d.0 e.0 counts d.3 e.3 i ++ joined (arranged_one i)) ∙ sym e.7
    one_of_same (tagged t v) (tagged u w) x y p q h d e =
        d.4 ∙ (λ i. head_same 6 t u d.0 e.0 h.0 d.2 e.2 i ++ one_of_same v w d.1 e.1 p.3 q.3 h.1 d.3 e.3 i) ∙ sym e.4
    one_of_same (simple n) (simple m) x y p q h d e = head_same 7 n m x y h d.1 e.1
    one_of_same _ _ x y p q h d e = absurd h

    one_of_values : (vs ws : Values) (c d : List ℕ) → AreProper vs → AreProper ws → SameValues vs ws → DetValues order vs c → DetValues order ws d → c ≡ d
    one_of_values no_values no_values c d p q h e f = e ∙ sym f
    one_of_values (value v vs) (value w ws) c d p q h e f =
        e.4 ∙ (λ i. one_of_same v w e.0 f.0 p.0 q.0 h.0 e.2 f.2 i ++ one_of_values vs ws e.1 f.1 p.1 q.1 h.1 e.3 f.3 i) ∙ sym f.4
    one_of_values _ _ c d p q h e f = absurd h

    one_of_pairs : (ps : Couples) (rs : List (Value × Value)) (es gs : List Entry) → HasProperPairs ps → AllByRecursion IsProperPair rs → SamePairs ps rs → DetPairs order ps es → AllZip (DetPair order) rs gs → es ≡ gs
    one_of_pairs no_pairs [] [] [] p q h d z = refl
    one_of_pairs (pair k v ps) (r ∷ rs) (e ∷ es) (g ∷ gs) p q h d z =
        λ i. (one_of_same k r.0 e.0 g.0 p.0 q.0.0 h.0 d.0 z.0.0 i, one_of_same v r.1 e.1 g.1 p.1 q.0.1 h.1 d.1 z.0.1 i) ∷ one_of_pairs ps rs es gs p.2 q.1 h.2 d.2 z.1 i
    one_of_pairs _ _ _ _ p q h d z = absurd (search (d, z, h))

-- ---- each valid item has an encoding

least_head : (j n : ℕ) → n < 2 ^ 64 → (h : List ℕ) × IsLeastHead j n h
least_head j n l = ((32 * j + information (least n) n) ∷ following (least n) n, (least_holds n l, refl))

string_exists : (j : ℕ) (b : List ℕ) → length b < 2 ^ 64 → (x : List ℕ) × IsString j b x
string_exists j b l = let t = least_head j (length b) l in (t.0 ++ b, (t.0, t.1, refl))

integer_exists : (s : Bool) (m : List ℕ) → length m < 2 ^ 64 → (x : List ℕ) × IsInteger s m x
integer_exists s m l =
    elim (cases_lt (big_endian m) (2 ^ 64)) [
      | inl k ↦ let t = least_head (major_of s) (big_endian m) k in (t.0, inl (k, t.1))
      | inr k ↦
          let t = least_head 6 (bignum_tag s) (omega (arith, tags s)) in
          let u = string_exists 2 m l in
          (t.0 ++ u.0, inr (k, t.0, u.0, t.1, u.1, refl))
    ]

module _ (order : List ℕ → List ℕ → Ordering) (laws : IsKeyOrder order) where
  -- a key that is the same as none of these has an encoding of its own
  new_apart : (k : Value) (c : List ℕ) (ps : Couples) (es : List Entry) → IsProper k → Det order k c → HasProperPairs ps → IsNew k ps → DetPairs order ps es → AllByRecursion (λ (g : Entry). c ≡ g.0 → ⊥) es
  new_apart k c no_pairs [] p d q n e = tt
  new_apart k c (pair l v ps) (g ∷ gs) p d q n e =
      (λ i. n.0 (same_of_one order k l c p q.0 d (subst (Det order l) (sym i) e.0)), new_apart k c ps gs p d q.2 n.1 e.2)
  new_apart k c _ _ p d q n e = absurd e

  pub distinct_keys : (ps : Couples) (es : List Entry) → HasProperPairs ps → HasNewKeys ps → DetPairs order ps es → HasDistinctKeys es
  distinct_keys no_pairs [] p n d = tt
  distinct_keys (pair k v ps) (g ∷ gs) p n d = (new_apart k g.0 ps gs p.0 d.0 p.2 n.0 d.2, distinct_keys ps gs p.2 n.1 d.2)
  distinct_keys _ _ p n d = absurd d

  mutual
    pub det_exists : (v : Value) → IsProper v → (x : List ℕ) × Det order v x
    det_exists (integer s m) p = integer_exists s m p.2
    det_exists (bytes b) p = string_exists 2 b p.1
    det_exists (text b) p = string_exists 3 b p.1
    det_exists (array vs) p =
        let t = least_head 4 (value_count vs) p.1 in
        let u = values_exist vs p.0 in
        (t.0 ++ u.0, (t.0, u.0, t.1, u.1, refl))
    det_exists (dict ps) p =
        let t = least_head 5 (pair_count ps) p.2 in
        let u = pairs_exist ps p.0 in
        let r = arranged order laws u.0 (distinct_keys ps u.0 p.0 p.1 u.1) in
        (t.0 ++ joined r.0, (t.0, u.0, r.0, t.1, u.1, r.1, r.2, refl))
    det_exists (tagged t v) p =
        let h = least_head 6 t p.2 in
        let u = det_exists v p.3 in
        (h.0 ++ u.0, (h.0, u.0, h.1, u.1, refl))
    det_exists (simple n) p =
        let l = simple_below n p in
        let t = least_head 7 n (omega (arith, l)) in
        (t.0, (p, t.1))

    values_exist : (vs : Values) → AreProper vs → (x : List ℕ) × DetValues order vs x
    values_exist no_values p = ([], refl)
    values_exist (value v vs) p =
        let t = det_exists v p.0 in
        let u = values_exist vs p.1 in
        (t.0 ++ u.0, (t.0, u.0, t.1, u.1, refl))

    pairs_exist : (ps : Couples) → HasProperPairs ps → (es : List Entry) × DetPairs order ps es
    pairs_exist no_pairs p = ([], tt)
    pairs_exist (pair k v ps) p =
        let t = det_exists k p.0 in
        let u = det_exists v p.1 in
        let w = pairs_exist ps p.2 in
        ((t.0, u.0) ∷ w.0, (t.1, u.1, w.1))

  -- ---- sequences

  not_empty : (v : Value) (x y : List ℕ) → Det order v x → x ++ y ≡ [] → ⊥
  not_empty v x y d e = omega (arith, some_bytes order v x d, ap length e, length-append x y)

  pub seq_of_one : (vs ws : List Value) (x : List ℕ) → AllByRecursion IsProper vs → AllByRecursion IsProper ws → DetSeq order vs x → DetSeq order ws x → AllZip Same vs ws
  seq_of_one [] [] x p q d e = tt
  seq_of_one [] (w ∷ ws) x p q d e = absurd (not_empty w e.0 e.1 e.2 (sym e.4 ∙ d))
  seq_of_one (v ∷ vs) [] x p q d e = absurd (not_empty v d.0 d.1 d.2 (sym d.4 ∙ e))
  seq_of_one (v ∷ vs) (w ∷ ws) x p q d e =
      let t = reads order v d.0 d.2 w e.0 d.1 e.1 e.2 (sym d.4 ∙ e.4) in (
        same_of_one order v w d.0 p.0 q.0 d.2 (subst (Det order w) (sym t.0) e.2),
        seq_of_one vs ws d.1 p.1 q.1 d.3 (subst (DetSeq order ws) (sym t.1) e.3),
      )

  pub one_of_seq : (vs ws : List Value) (x y : List ℕ) → AllByRecursion IsProper vs → AllByRecursion IsProper ws → AllZip Same vs ws → DetSeq order vs x → DetSeq order ws y → x ≡ y
  one_of_seq [] [] x y p q h d e = d ∙ sym e
  one_of_seq (v ∷ vs) (w ∷ ws) x y p q h d e =
      d.4 ∙ (λ i. one_of_same order laws v w d.0 e.0 p.0 q.0 h.0 d.2 e.2 i ++ one_of_seq vs ws d.1 e.1 p.1 q.1 h.1 d.3 e.3 i) ∙ sym e.4
  one_of_seq _ _ x y p q h d e = absurd h

  pub seq_exists : (vs : List Value) → AllByRecursion IsProper vs → (x : List ℕ) × DetSeq order vs x
  seq_exists vs p = let t = values_exist (values_of vs) (are_proper vs p) in (t.0, seq_of_values order vs t.0 t.1)

-- ---- the encoding of a map, by a rearrangement of its pairs

module _ (order : List ℕ → List ℕ → Ordering) where
  det_from_zip : (ps : Couples) (es : List Entry) → AllZip (DetPair order) (listed ps) es → DetPairs order ps es
  det_from_zip no_pairs [] d = tt
  det_from_zip (pair k v ps) (e ∷ es) d = (d.0.0, d.0.1, det_from_zip ps es d.1)
  det_from_zip _ _ d = absurd d

  pairs_from_zip : (qs : List (Value × Value)) (es : List Entry) → AllZip (DetPair order) qs es → DetPairs order (pairs_of qs) es
  pairs_from_zip qs es z = det_from_zip (pairs_of qs) es (subst (λ l. AllZip (DetPair order) l es) (sym (listed-pairs_of qs)) z)

  zip_from_det : (qs : List (Value × Value)) (es : List Entry) → DetPairs order (pairs_of qs) es → AllZip (DetPair order) qs es
  zip_from_det qs es d = subst (λ l. AllZip (DetPair order) l es) (listed-pairs_of qs) (det_zip order (pairs_of qs) es d)

  pub det_map : (ps : Couples) (x : List ℕ) → Det order (dict ps) x ↔ DetMap order ps x
  det_map ps x = (
    λ d. let t = carried (DetPair order) (listed ps) d.1 d.2 (det_zip order ps d.1 d.4) d.5 in (d.0, t.0, d.2, d.3, t.1, pairs_from_zip t.0 d.2 t.2, d.6, d.7),
    λ d. let t = carried_left (DetPair order) d.1 (listed ps) d.2 (zip_from_det d.1 d.2 d.5) (IsPermutation-sym (listed ps) d.1 d.4) in (d.0, t.0, d.2, d.3, det_from_zip ps t.0 t.2, IsPermutation-sym d.2 t.0 t.1, d.6, d.7),
  )
