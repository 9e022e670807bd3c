-- What begins an encoding and what follows that; and no encoding begins another: what is at the front of a list is one encoding at most.
use Rattle.std.specs.Prelude.{◌≡◌, ◌≢◌, ◌<◌, ◌≤◌, ◌^◌, ◌⊎◌, ◌∷◌, ◌++◌}
use Rattle.cborn_det.proofs.Common.{ℕ, zero, suc, inl, inr, List, [], length, refl, sym, ap, ◌∙◌, subst, arith, true, false, Bool, length-append, append_assoc, append-nil, Ordering, AllByRecursion, length_permutation, Value, Values, Couples, integer, bytes, text, array, dict, tagged, simple, no_values, value, no_pairs, pair, value_count, pair_count, big_endian, IsShortest, IsProper, AreProper, HasProperPairs, Width, IsHead, IsLeastHead, least, Rising, Det, DetValues, DetPairs, Entry, keys, joined, bignum_tag, one_head, append_same, All_moved}
use Rattle.cborn_model.specs.Heads.{code, major_at}
use Rattle.cborn_model.specs.declared.heads.Major.{Major}
use Rattle.cborn_model.specs.declared.heads.Major.TheVariants.{Unsigned, Negative, ByteString, TextString, Array, Map, Tag, Other}
use Rattle.cborn_model.proofs.Numbers.Majors.{major_at-code}

-- a number for each constructor of items
abbrev pub kind : Value → ℕ
kind (integer s m) = 0
kind (bytes b) = 2
kind (text b) = 3
kind (array vs) = 4
kind (dict ps) = 5
kind (tagged t v) = 6
kind (simple n) = 7

-- that of the items that begin with such a head
abbrev pub led : Major → ℕ → ℕ
led Negative n = 0
led Tag (suc (suc zero)) = 0
led Tag (suc (suc (suc zero))) = 0
led m n = code m

led_bignum : (s : Bool) → led Tag (bignum_tag s) ≡ 0
led_bignum true = refl
led_bignum false = refl

led_tag : (t : ℕ) → t ≢ 2 → t ≢ 3 → led Tag t ≡ 6
led_tag (suc (suc zero)) two three = absurd (two refl)
led_tag (suc (suc (suc zero))) two three = absurd (three refl)
led_tag _ two three = refl

-- the magnitude of an integer that doesn't fit 64 bits
abbrev pub IsLarge : Value → Type 0
IsLarge v = (b : List ℕ) × (v ≡ bytes b) × IsShortest b × (2 ^ 64 ≤ big_endian b)

-- Where G holds the items are valid.
module _ (G : Type 0) (order : List ℕ → List ℕ → Ordering) where
  -- the entry is what some pair encodes to
  abbrev pub IsEntry : Entry → Type 0
  IsEntry e = (k : Value) × (v : Value) × (G → IsProper k × IsProper v) × Det order k e.0 × Det order v e.1

  pub are_entries : (ps : Couples) (es : List Entry) → (G → HasProperPairs ps) → DetPairs order ps es → AllByRecursion IsEntry es × (length es ≡ pair_count ps)
  are_entries no_pairs [] p d = (tt, refl)
  are_entries (pair k v ps) (e ∷ es) p d = let t = are_entries ps es (λ g. (p g).2) d.2 in (((k, v, (λ g. ((p g).0, (p g).1)), d.0, d.1), t.0), ap suc t.1)
  are_entries _ _ p d = absurd d

  -- what may follow a head of this major type with the argument n
  abbrev pub Content : Major → ℕ → List ℕ → Type 0
  Content ByteString n c = length c ≡ n
  Content TextString n c = length c ≡ n
  Content Array n c = (vs : Values) × (value_count vs ≡ n) × (G → AreProper vs) × DetValues order vs c
  Content Map n c = (fs : List Entry) × (length fs ≡ n) × AllByRecursion IsEntry fs × Rising order (keys fs) × (c ≡ joined fs)
  Content Tag n c = (v : Value) × (G → IsProper v) × Det order v c × (G → (n ≡ 2) ⊎ (n ≡ 3) → IsLarge v)
  Content _ n c = c ≡ []

  -- an encoding as a head and what follows it
  pub record Seen (v : Value) (x : List ℕ) : Type 0 where
    pub major : Major
    pub argument : ℕ
    pub front : List ℕ
    pub content : List ℕ
    pub is_head : IsLeastHead (code major) argument front
    pub leads : IsProper v → led major argument ≡ kind v
    pub follows : Content major argument content
    pub is : x ≡ front ++ content

  pub seen : (v : Value) (x : List ℕ) → (G → IsProper v) → Det order v x → Seen v x
  seen (integer false m) x p (inl d) = record { major = Unsigned; argument = big_endian m; front = x; content = []; is_head = d.1; leads = λ q. refl; follows = refl; is = sym (append-nil x) }
  seen (integer true m) x p (inl d) = record { major = Negative; argument = big_endian m; front = x; content = []; is_head = d.1; leads = λ q. refl; follows = refl; is = sym (append-nil x) }
  seen (integer s m) x p (inr d) =
      record { major = Tag; argument = bignum_tag s; front = d.1; content = d.2; is_head = d.3; leads = λ q. led_bignum s; follows = (bytes m, (λ g. ((p g).0, (p g).2)), d.4, λ g tag. (m, refl, (p g).1, d.0)); is = d.5 }
  seen (bytes b) x p d = record { major = ByteString; argument = length b; front = d.0; content = b; is_head = d.1; leads = λ q. refl; follows = refl; is = d.2 }
  seen (text b) x p d = record { major = TextString; argument = length b; front = d.0; content = b; is_head = d.1; leads = λ q. refl; follows = refl; is = d.2 }
  seen (array vs) x p d = record { major = Array; argument = value_count vs; front = d.0; content = d.1; is_head = d.2; leads = λ q. refl; follows = (vs, refl, (λ g. (p g).0), d.3); is = d.4 }
  seen (dict ps) x p d =
      let t = are_entries ps d.1 (λ g. (p g).0) d.4 in
      record { major = Map; argument = pair_count ps; front = d.0; content = joined d.2; is_head = d.3; leads = λ q. refl; follows = (d.2, length_permutation d.1 d.2 d.5 ∙ t.1, All_moved IsEntry d.1 d.2 d.5 t.0, d.6, refl); is = d.7 }
  seen (tagged t v) x p d =
      record { major = Tag; argument = t; front = d.0; content = d.1; is_head = d.2; leads = λ q. led_tag t q.0 q.1; follows = (v, (λ g. (p g).3), d.3, λ g tag. absurd (elim tag [ inl e ↦ (p g).0 e | inr e ↦ (p g).1 e ])); is = d.4 }
  seen (simple n) x p d = record { major = Other; argument = n; front = x; content = []; is_head = d.1; leads = λ q. refl; follows = refl; is = sym (append-nil x) }

  -- a head and what follows it, where an encoding stands
  pub record Meets (m : Major) (w : Width) (n : ℕ) (h c r x s : List ℕ) : Type 0 where
    pub short : w ≡ least n
    pub content : List ℕ
    pub follows : Content m n content
    pub rest : c ++ r ≡ content ++ s
    pub is : x ≡ h ++ content

  pub meets : (m : Major) (w : Width) (n : ℕ) (h c r x s : List ℕ) (v : Value) → IsHead (code m) w n h → Seen v x → (h ++ c) ++ r ≡ x ++ s → Meets m w n h c r x s
  meets m w n h c r x s v p z e =
      let o = one_head w (least z.argument) (c ++ r) (z.content ++ s) p z.is_head (sym (append_assoc h c r) ∙ e ∙ ap (λ l. l ++ s) z.is ∙ append_assoc z.front z.content s) in
      let major : z.major ≡ m = sym (major_at-code z.major) ∙ ap major_at (sym o.major) ∙ major_at-code m in
      record {
        short = o.width ∙ ap least (sym o.argument);
        content = z.content;
        follows = subst (λ k. Content m k z.content) (sym o.argument) (subst (λ j. Content j z.argument z.content) major z.follows);
        rest = o.rest;
        is = z.is ∙ ap (λ l. l ++ z.content) (sym o.head);
      }

module _ (order : List ℕ → List ℕ → Ordering) where
  abbrev Followed : Major → ℕ → List ℕ → Type 0
  Followed = Content ⊥ order

  abbrev pub Lies : Entry → Type 0
  Lies = IsEntry ⊥ order

  pub alone : (v : Value) (x : List ℕ) → Det order v x → Seen ⊥ order v x
  alone v x d = seen ⊥ order v x (λ g. absurd g) d

  -- no encoding is empty
  pub some_bytes : (v : Value) (x : List ℕ) → Det order v x → 0 < length x
  some_bytes v x d = let z = alone v x d in omega (arith, ap length z.is, length-append z.front z.content, ap length z.is_head.1)

  -- no other encoding is where x is
  abbrev pub Reads : List ℕ → Type 0
  Reads x = (v : Value) (y r s : List ℕ) → Det order v y → x ++ r ≡ y ++ s → (x ≡ y) × (r ≡ s)

  reads_from : (m : Major) (n : ℕ) (h c x : List ℕ) → IsLeastHead (code m) n h → x ≡ h ++ c → ((d r s : List ℕ) → Followed m n d → c ++ r ≡ d ++ s → (c ≡ d) × (r ≡ s)) → Reads x
  reads_from m n h c x p is f v y r s d e =
      let t = meets ⊥ order m (least n) n h c r y s v p (alone v y d) (ap (λ l. l ++ r) (sym is) ∙ e) in
      let u = f t.content r s t.follows t.rest in
      (is ∙ ap (λ l. h ++ l) u.0 ∙ sym t.is, u.1)

  head_reads : (m : Major) (n : ℕ) (x : List ℕ) → IsLeastHead (code m) n x → ((d : List ℕ) → Followed m n d → d ≡ []) → Reads x
  head_reads m n x p none = reads_from m n x [] x p (sym (append-nil x)) (λ d r s f q. (sym (none d f), q ∙ ap (λ l. l ++ s) (none d f)))

  abbrev pub EntryReads : Entry → Type 0
  EntryReads e = Reads e.0 × Reads e.1

  -- entries in one order at the front of a list are no others
  pub joined_reads : (es fs : List Entry) (r s : List ℕ) → length es ≡ length fs → AllByRecursion EntryReads es → AllByRecursion Lies fs → joined es ++ r ≡ joined fs ++ s → (es ≡ fs) × (r ≡ s)
  joined_reads [] [] r s l g h q = (refl, q)
  joined_reads (e ∷ es) (f ∷ fs) r s l g h q =
      let whole : e.0 ++ (e.1 ++ (joined es ++ r)) ≡ f.0 ++ (f.1 ++ (joined fs ++ s)) =
      sym (append_assoc e.0 e.1 (joined es ++ r)) ∙ sym (append_assoc (e.0 ++ e.1) (joined es) r) ∙ q ∙ append_assoc (f.0 ++ f.1) (joined fs) s ∙ append_assoc f.0 f.1 (joined fs ++ s) in
      let t = g.0.0 h.0.0 f.0 (e.1 ++ (joined es ++ r)) (f.1 ++ (joined fs ++ s)) h.0.3 whole in
      let u = g.0.1 h.0.1 f.1 (joined es ++ r) (joined fs ++ s) h.0.4 t.1 in
      let w = joined_reads es fs r s (omega arith) g.1 h.1 u.1 in
      (λ i. (t.0 i, u.0 i) ∷ w.0 i, w.1)
  joined_reads _ _ r s l g h q = absurd (omega arith)

  string_reads : (m : Major) (b h x : List ℕ) → IsLeastHead (code m) (length b) h → x ≡ h ++ b → ((d : List ℕ) → Followed m (length b) d → length d ≡ length b) → Reads x
  string_reads m b h x p is long = reads_from m (length b) h b x p is (λ d r s f q. append_same b d r s (sym (long d f)) q)

  mutual
    pub reads : (v : Value) (x : List ℕ) → Det order v x → Reads x
    reads (integer false m) x (inl d) = head_reads Unsigned (big_endian m) x d.1 (λ c f. f)
    reads (integer true m) x (inl d) = head_reads Negative (big_endian m) x d.1 (λ c f. f)
    reads (integer s m) x (inr d) = reads_from Tag (bignum_tag s) d.1 d.2 x d.3 d.5 (λ c r s f q. string_reads ByteString m d.4.0 d.2 d.4.1 d.4.2 (λ e g. g) f.0 c r s f.2 q)
    reads (bytes b) x d = string_reads ByteString b d.0 x d.1 d.2 (λ c f. f)
    reads (text b) x d = string_reads TextString b d.0 x d.1 d.2 (λ c f. f)
    reads (array vs) x d = reads_from Array (value_count vs) d.0 d.1 x d.2 d.4 (λ c r s f q. values_read vs d.1 d.3 f.0 c r s (sym f.1) f.3 q)
    reads (dict ps) x d =
        reads_from Map (pair_count ps) d.0 (joined d.2) x d.3 d.7
        (λ c r s f q.
        let long = length_permutation d.1 d.2 d.5 ∙ (are_entries ⊥ order ps d.1 (λ g. absurd g) d.4).1 in
        let t = joined_reads d.2 f.0 r s (long ∙ sym f.1) (All_moved EntryReads d.1 d.2 d.5 (pairs_read ps d.1 d.4)) f.2 (q ∙ ap (λ l. l ++ s) f.4) in
        (ap joined t.0 ∙ sym f.4, t.1))
    reads (tagged t v) x d = reads_from Tag t d.0 d.1 x d.2 d.4 (λ c r s f q. reads v d.1 d.3 f.0 c r s f.2 q)
    reads (simple n) x d = head_reads Other n x d.1 (λ c f. f)

    values_read : (vs : Values) (c : List ℕ) → DetValues order vs c → (ws : Values) (d r s : List ℕ) → value_count vs ≡ value_count ws → DetValues order ws d → c ++ r ≡ d ++ s → (c ≡ d) × (r ≡ s)
    values_read no_values c e no_values d r s l g q = (e ∙ sym g, sym (ap (λ l. l ++ r) e) ∙ q ∙ ap (λ l. l ++ s) g)
    values_read (value v vs) c e (value w ws) d r s l g q =
        let front : e.0 ++ (e.1 ++ r) ≡ g.0 ++ (g.1 ++ s) = sym (append_assoc e.0 e.1 r) ∙ ap (λ l. l ++ r) (sym e.4) ∙ q ∙ ap (λ l. l ++ s) g.4 ∙ append_assoc g.0 g.1 s in
        let t = reads v e.0 e.2 w g.0 (e.1 ++ r) (g.1 ++ s) g.2 front in
        let u = values_read vs e.1 e.3 ws g.1 r s (omega arith) g.3 t.1 in
        (e.4 ∙ (λ i. t.0 i ++ u.0 i) ∙ sym g.4, u.1)
    values_read _ c e _ d r s l g q = absurd (omega arith)

    pub pairs_read : (ps : Couples) (es : List Entry) → DetPairs order ps es → AllByRecursion EntryReads es
    pairs_read no_pairs [] d = tt
    pairs_read (pair k v ps) (e ∷ es) d = ((reads k e.0 d.0, reads v e.1 d.1), pairs_read ps es d.2)
    pairs_read _ _ d = absurd d
