-- One more whole node in what an encoder holds.
use Rattle.std.specs.Prelude.{◌≡◌, ◌+◌, ◌<◌, ◌≤◌, ◌^◌, ◌∷◌, ◌++◌, ◌||◌, ◌%◌, ◌==◌}
use Rattle.cborn_judge.proofs.Common.{ℕ, inl, inr, List, [], length, append_assoc, append-nil, length-append, refl, sym, ap, ◌∙◌, subst, arith, true, false, true≢false, Bool, not, Ordering, Option, None, cases_lt, same_from_push, AllZip, AllByRecursion, Size, Width, Means, joined_chunks, Tree, place, Partial, top, inside, Opening, an_array, a_map, a_tag, in_chunks, put, string_tree, chunk_of, chunks_of, IsFree, puts, InArray, AtKey, Value, bytes, text, IsProper, DetSeq, joined, MeansNothing, Row, Mark, IsMarked, row_entries, AreMarked, IsEncodedAs, Coded, AreEncodedAs, AreRows, IsSound, is_odd, has_key, after, after_items, Opens, IsFront, Contains, Inner, Stands, IsChunk, IsChunkContent, StringKind, OfBytes, OfText, Container, Level, seq_append, some_bytes}
use Rattle.cborn_model.specs.Partial.{last_key}
use Rattle.cborn_judge.proofs.Loops.{zip_append, zip_more}

-- a count that is one higher is odd if it was even
turned : (n : ℕ) → ((n + 1) % 2 ^ 64 % 2 == 1) ≡ not (n % 2 == 1)
turned n = elim (cases_lt (n % 2) 1) [
  | inl even ↦ ap (λ k. k == 1) (let e : (n + 1) % 2 ^ 64 % 2 ≡ 1 = omega arith in e) ∙ sym (ap (λ k. not (k == 1)) (let e : n % 2 ≡ 0 = omega arith in e))
  | inr odd ↦ ap (λ k. k == 1) (let e : (n + 1) % 2 ^ 64 % 2 ≡ 0 = omega arith in e) ∙ sym (ap (λ k. not (k == 1)) (let e : n % 2 ≡ 1 = omega arith in e))
]

-- ---- whether the nodes mean something

zip_front : (ts us : List Tree) (ws : List Value) → AllZip Means (ts ++ us) ws → (vs : List Value) × AllZip Means ts vs
zip_front [] us ws h = ([], tt)
zip_front (t ∷ ts) us [] h = absurd h
zip_front (t ∷ ts) us (w ∷ ws) h = let r = zip_front ts us ws h.1 in (w ∷ r.0, (h.0, r.1))

zip_last : (ts : List Tree) (t : Tree) (ws : List Value) → AllZip Means (ts ++ t ∷ []) ws → (v : Value) × Means t v
zip_last [] t (w ∷ ws) h = (w, h.0)
zip_last (s ∷ ts) t (w ∷ ws) h = zip_last ts t ws h.1
zip_last _ t _ h = absurd h

-- one node: it means nothing exactly if it is bad
abbrev pub IsVerdict : Bool → Tree → Type 0
IsVerdict false t = (v : Value) × Means t v
IsVerdict true t = MeansNothing t

pub sound_more : (b bad : Bool) (ts : List Tree) (t : Tree) → IsSound b ts → IsVerdict bad t → IsSound (b || bad) (ts ++ t ∷ [])
sound_more false false ts t s v = (s.0 ++ v.0 ∷ [], zip_more Means ts s.0 t v.0 s.1 v.1)
sound_more false true ts t s v = λ ws h. let m = zip_last ts t ws h in v m.0 m.1
sound_more true bad ts t s v = λ ws h. let r = zip_front ts (t ∷ []) ws h in s r.0 r.1

-- nodes that mean something
sound_items : (b : Bool) (ts us : List Tree) (vs : List Value) → IsSound b ts → AllZip Means us vs → IsSound b (ts ++ us)
sound_items false ts us vs s m = (s.0 ++ vs, zip_append Means ts s.0 us vs s.1 m)
sound_items true ts us vs s m = λ ws h. let r = zip_front ts us ws h in s r.0 r.1

module _ (order : List ℕ → List ℕ → Ordering) where
  -- the node has an encoding exactly if it isn't bad
  abbrev pub Verdict : Bool → Tree → List ℕ → Type 0
  Verdict false t x = IsEncodedAs order t x
  Verdict true t x = MeansNothing t × (x ≡ [])

  -- a node whose encoding was written after n bytes: it is bad exactly if nothing was
  pub verdict : (t : Tree) (y x : List ℕ) (bad : Bool) → Coded order t x → (bad ≡ true → length (y ++ x) ≤ length y) → (bad ≡ false → length y < length (y ++ x)) → Verdict bad t x
  verdict t y x bad h1 h2 h3 = grind (arith, length-append, some_bytes)

  pub is_verdict : (t : Tree) (x : List ℕ) (bad : Bool) → Verdict bad t x → IsVerdict bad t
  is_verdict t x bad h1 = grind arith

  -- ---- encodings one after another

  proper_append : (vs ws : List Value) → AllByRecursion IsProper vs → AllByRecursion IsProper ws → AllByRecursion IsProper (vs ++ ws)
  proper_append [] ws a b = b
  proper_append (v ∷ vs) ws a b = (a.0, proper_append vs ws a.1 b)

  encoded_append : (ts us : List Tree) (y x : List ℕ) → AreEncodedAs order ts y → AreEncodedAs order us x → AreEncodedAs order (ts ++ us) (y ++ x)
  encoded_append ts us y x a b = (a.0 ++ b.0, zip_append Means ts a.0 us b.0 a.1 b.1, proper_append a.0 b.0 a.2 b.2, seq_append order a.0 b.0 y x a.3 b.3)

  pub encoded_more : (ts : List Tree) (t : Tree) (y x : List ℕ) → AreEncodedAs order ts y → IsEncodedAs order t x → AreEncodedAs order (ts ++ t ∷ []) (y ++ x)
  encoded_more ts t y x a e = encoded_append ts (t ∷ []) y x a (e.0 ∷ [], (e.1, tt), (e.2, tt), (x, [], e.3, refl, sym (append-nil x)))

  as_long : (ts : List Tree) (vs : List Value) (x : List ℕ) → AllZip Means ts vs → DetSeq order vs x → length ts ≤ length x
  as_long [] vs x h d = omega arith
  as_long (t ∷ ts) [] x h d = absurd h
  as_long (t ∷ ts) (v ∷ vs) x h d = omega (arith, some_bytes order v d.0 d.2, as_long ts vs d.1 h.1 d.3, ap length d.4, length-append d.0 d.1)

  -- one more, if none means nothing
  pub contents_more : (b bad : Bool) (ts : List Tree) (t : Tree) (y x : List ℕ) → (b ≡ false → AreEncodedAs order ts y) → Verdict bad t x → (b || bad) ≡ false → AreEncodedAs order (ts ++ t ∷ []) (y ++ x)
  contents_more b bad ts t y x h1 h2 h3 = grind (arith, encoded_more)

  counted : (n : ℕ) (ts us : List Tree) (y : List ℕ) → n ≡ length ts → AreEncodedAs order (ts ++ us) y → length y < 2 ^ 64 → (n + length us) % 2 ^ 64 ≡ length (ts ++ us)
  counted n ts us y e a l = omega (arith, e, as_long (ts ++ us) a.0 y a.1 a.3, l, length-append ts us)

  pub counted_more : (b bad : Bool) (n : ℕ) (ts : List Tree) (t : Tree) (y x : List ℕ) → (b ≡ false → AreEncodedAs order ts y × (n ≡ length ts)) → Verdict bad t x → length (y ++ x) < 2 ^ 64 → (b || bad) ≡ false → (n + 1) % 2 ^ 64 ≡ length (ts ++ t ∷ [])
  counted_more b bad n ts t y x h1 h2 h3 h4 = grind (arith, counted, encoded_more)

  -- ---- the pairs of a map

  odd_more : (ts : List Tree) (t : Tree) → is_odd (ts ++ t ∷ []) ≡ not (is_odd ts)
  odd_more [] t = refl
  odd_more (s ∷ ts) t = ap not (odd_more ts t)

  key_more : (ts : List Tree) (t : Tree) (rs : List Row) (x : List ℕ) → is_odd ts ≡ false → AreRows order ts rs → Coded order t x → AreRows order (ts ++ t ∷ []) (rs ++ (place t, x, []) ∷ [])
  key_more [] t [] x e a c = (refl, c, refl)
  key_more (k ∷ []) t rs x e a c = absurd (true≢false e)
  key_more (k ∷ v ∷ ts) t (r ∷ rs) x e a c = (a.0, a.1, a.2, key_more ts t rs x (twice (is_odd ts) e) a.3 c)
    where
      twice : (b : Bool) → not (not b) ≡ false → b ≡ false
      twice true e = e
      twice false e = refl
  key_more _ t _ x e a c = absurd a

  value_more : (ts : List Tree) (t : Tree) (rs : List Row) (x : List ℕ) → is_odd ts ≡ true → AreRows order ts rs → Coded order t x
      → (qs : List Row) × (r : Row) × (rs ≡ qs ++ r ∷ []) × (r.2 ≡ []) × AreRows order (ts ++ t ∷ []) (qs ++ (r.0, r.1, x) ∷ [])
  value_more [] t rs x e a c = absurd (true≢false (sym e))
  value_more (k ∷ []) t (r ∷ []) x e a c = ([], r, refl, a.2, (a.0, a.1, c, tt))
  value_more (k ∷ v ∷ ts) t (r ∷ rs) x e a c =
      let u = value_more ts t rs x (twice (is_odd ts) e) a.3 c in
      (r ∷ u.0, u.1, ap (λ (l : List Row). r ∷ l) u.2, u.3, (a.0, a.1, a.2, u.4))
    where
      twice : (b : Bool) → not (not b) ≡ true → b ≡ true
      twice true e = refl
      twice false e = absurd (true≢false (sym e))
  value_more _ t _ x e a c = absurd a

-- ---- where rows lie

joined_row : (rs : List Row) (r : Row) → joined (row_entries (rs ++ r ∷ [])) ≡ joined (row_entries rs) ++ (r.1 ++ r.2)
joined_row [] r = append-nil (r.1 ++ r.2)
joined_row (s ∷ rs) r = ap (λ z. (s.1 ++ s.2) ++ z) (joined_row rs r) ∙ sym (append_assoc (s.1 ++ s.2) (joined (row_entries rs)) (r.1 ++ r.2))

marked_key : (p : ℕ) (rs : List Row) (ms : List Mark) (q : ℕ) (x : List ℕ) (s m : ℕ) → AreMarked p rs ms → s ≡ p + length (joined (row_entries rs)) → m ≡ s + length x → AreMarked p (rs ++ (q, x, []) ∷ []) (ms ++ (q, s, m, m) ∷ [])
marked_key p [] [] q x s m h e f = grind arith
marked_key p (r ∷ rs) (n ∷ ms) q x s m h e f =
    let o : s ≡ p + length r.1 + length r.2 + length (joined (row_entries rs)) = omega (arith, e, length-append (r.1 ++ r.2) (joined (row_entries rs)), length-append r.1 r.2) in
    (h.0, marked_key (p + length r.1 + length r.2) rs ms q x s m h.1 o f)
marked_key p _ _ q x s m h e f = absurd h

marked_value : (p : ℕ) (qs : List Row) (r : Row) (ms : List Mark) (x : List ℕ) (e : ℕ) → AreMarked p (qs ++ r ∷ []) ms → e ≡ p + length (joined (row_entries qs)) + length r.1 + length x
    → (ns : List Mark) × (m : Mark) × (ms ≡ ns ++ m ∷ []) × AreMarked p (qs ++ (r.0, r.1, x) ∷ []) (ns ++ (m.0, m.1, m.2, e) ∷ [])
marked_value p [] r (m ∷ []) x e h f =
    let a : m.0 ≡ r.0 = ap (λ (n : Mark). n.0) h.0 in
    let b : m.1 ≡ p = ap (λ (n : Mark). n.1) h.0 in
    let c : m.2 ≡ p + length r.1 = ap (λ (n : Mark). n.2) h.0 in
    let d : e ≡ p + length r.1 + length x = omega (arith, f) in
    ([], m, refl, ((λ i. (a i, b i, c i, d i)), tt))
marked_value p [] r (m ∷ n ∷ ms) x e h f = absurd h.1
marked_value p (q ∷ qs) r (m ∷ ms) x e h f =
    let o : e ≡ p + length q.1 + length q.2 + length (joined (row_entries qs)) + length r.1 + length x = omega (arith, f, length-append (q.1 ++ q.2) (joined (row_entries qs)), length-append q.1 q.2) in
    let u = marked_value (p + length q.1 + length q.2) qs r ms x e h.1 o in
    (m ∷ u.0, u.1, ap (λ (l : List Mark). m ∷ l) u.2, (h.0, u.3))
marked_value p _ r _ x e h f = absurd h

even : (ts : List Tree) → last_key ts ≡ None → is_odd ts ≡ false
even [] e = refl
even (k ∷ []) e = cc
even (k ∷ v ∷ ts) e = ap (λ b. not (not b)) (even ts e)

puts_inside : (f : Partial) (o : Opening) (ts us : List Tree) → puts (inside f o ts) us ≡ inside f o (ts ++ us)
puts_inside f o ts [] = ap (inside f o) (sym (append-nil ts))
puts_inside f o ts (u ∷ us) = puts_inside f o (ts ++ u ∷ []) us ∙ ap (inside f o) (append_assoc ts (u ∷ []) us)

-- no more is in the innermost container than in the buffer
own_short : (y x a z : List ℕ) → length (y ++ x) < 2 ^ 64 → y ≡ a ++ z → length (z ++ x) < 2 ^ 64
own_short y x a z k e = omega (arith, k, length-append y x, ap length e, length-append a z, length-append z x)

module _ (order : List ℕ → List ℕ → Ordering) where
  -- ---- one more node in a container

  abbrev Within : Level → Opening → List Tree → List Mark → List ℕ → Type 0
  Within = Inner order

  -- what came to the contents stands after them
  inner_more : (l m : Level) (o : Opening) (ts us : List Tree) (ms ns : List Mark) (z x : List ℕ) (h : Within l o ts ms z) → Opens m o → m.content ≡ m.start + length h.front → IsSound m.flawed us → Contains order m o us ns (h.contents ++ x) → Within m o us ns (z ++ x)
  inner_more l m o ts us ms ns z x h opens content sound contains = grind (arith, append_assoc)

  contents_short : (l : Level) (o : Opening) (ts : List Tree) (ms : List Mark) (z x : List ℕ) (h : Within l o ts ms z) → length (z ++ x) < 2 ^ 64 → length (h.contents ++ x) < 2 ^ 64
  contents_short l o ts ms z x h k = omega (arith, k, ap length h.whole, length-append h.front h.contents, length-append z x, length-append h.contents x)

  inner_items : (l : Level) (p : ℕ) (s : Size) (c : Option ℕ) (ts us : List Tree) (ms : List Mark) (z x : List ℕ) → length (z ++ x) < 2 ^ 64 → AreEncodedAs order us x → Within l (an_array p s c) ts ms z → Within (after_items l (length us)) (an_array p s c) (ts ++ us) ms (z ++ x)
  inner_items l p s c ts us ms z x k e h =
      let all : l.flawed ≡ false → AreEncodedAs order (ts ++ us) (h.contents ++ x) = λ f. encoded_append order ts us h.contents x (h.contains.1 f).0 e in
      inner_more l (after_items l (length us)) (an_array p s c) ts (ts ++ us) ms ms z x h h.opens h.content (sound_items l.flawed ts us e.0 h.sound e.1)
      (h.contains.0, λ f. (all f, counted order l.count ts us (h.contents ++ x) (h.contains.1 f).1 (all f) (contents_short l (an_array p s c) ts ms z x h k)))

  inner_array : (l : Level) (p : ℕ) (s : Size) (c : Option ℕ) (ts : List Tree) (t : Tree) (ms : List Mark) (z x : List ℕ) (bad : Bool) → length (z ++ x) < 2 ^ 64 → Verdict order bad t x → Within l (an_array p s c) ts ms z → Within (after l bad) (an_array p s c) (ts ++ t ∷ []) ms (z ++ x)
  inner_array l p s c ts t ms z x bad k v h =
      inner_more l (after l bad) (an_array p s c) ts (ts ++ t ∷ []) ms ms z x h h.opens h.content (sound_more l.flawed bad ts t h.sound (is_verdict order t x bad v)) (
        h.contains.0,
        λ e. (
          contents_more order l.flawed bad ts t h.contents x (λ f. (h.contains.1 f).0) v e,
          counted_more order l.flawed bad l.count ts t h.contents x h.contains.1 v (contents_short l (an_array p s c) ts ms z x h k) e,
        ),
      )

  inner_tag : (l : Level) (p : ℕ) (w : Width) (n : ℕ) (ts : List Tree) (t : Tree) (ms : List Mark) (z x : List ℕ) (bad : Bool) → Verdict order bad t x → Within l (a_tag p w n) ts ms z → Within (after l bad) (a_tag p w n) (ts ++ t ∷ []) ms (z ++ x)
  inner_tag l p w n ts t ms z x bad v h =
      inner_more l (after l bad) (a_tag p w n) ts (ts ++ t ∷ []) ms ms z x h h.opens h.content (sound_more l.flawed bad ts t h.sound (is_verdict order t x bad v))
      (h.contains.0, λ e. contents_more order l.flawed bad ts t h.contents x h.contains.1 v e)

  inner_key : (l : Level) (p : ℕ) (s : Size) (c : Option ℕ) (ts : List Tree) (t : Tree) (ms : List Mark) (z x : List ℕ) (bad : Bool) (b e : ℕ) → Verdict order bad t x → Coded order t x → has_key l ≡ false → b ≡ l.start + length z → e ≡ b + length x
      → Within l (a_map p s c) ts ms z → Within (after l bad) (a_map p s c) (ts ++ t ∷ []) (ms ++ (place t, b, e, e) ∷ []) (z ++ x)
  inner_key l p s c ts t ms z x bad b e v d k f g h =
      let rs = h.contains.1 in
      let at : b ≡ l.content + length (joined (row_entries rs)) = omega (arith, f, h.content, ap length h.whole, length-append h.front h.contents, ap length h.contains.4) in
      inner_more l (after l bad) (a_map p s c) ts (ts ++ t ∷ []) ms (ms ++ (place t, b, e, e) ∷ []) z x h h.opens h.content (sound_more l.flawed bad ts t h.sound (is_verdict order t x bad v)) (
        turned l.count ∙ ap not h.contains.0 ∙ sym (odd_more order ts t),
        rs ++ (place t, x, []) ∷ [],
        key_more order ts t rs x (sym h.contains.0 ∙ k) h.contains.2 d,
        marked_key l.content rs ms (place t) x b e h.contains.3 at g,
        ap (λ y. y ++ x) h.contains.4 ∙ sym (joined_row rs (place t, x, []) ∙ ap (λ y. joined (row_entries rs) ++ y) (append-nil x)),
      )

  inner_value : (l : Level) (p : ℕ) (s : Size) (c : Option ℕ) (ts : List Tree) (t : Tree) (ms : List Mark) (z x : List ℕ) (bad : Bool) (e : ℕ) → Verdict order bad t x → Coded order t x → has_key l ≡ true → e ≡ l.start + length z + length x
      → Within l (a_map p s c) ts ms z → (ns : List Mark) × (m : Mark) × (ms ≡ ns ++ m ∷ []) × Within (after l bad) (a_map p s c) (ts ++ t ∷ []) (ns ++ (m.0, m.1, m.2, e) ∷ []) (z ++ x)
  inner_value l p s c ts t ms z x bad e v d k f h =
      let u = value_more order ts t h.contains.1 x (sym h.contains.0 ∙ k) h.contains.2 d in
      let r = u.1 in
      let old : h.contents ≡ joined (row_entries u.0) ++ r.1 =
      h.contains.4 ∙ ap (λ l. joined (row_entries l)) u.2 ∙ joined_row u.0 r ∙ ap (λ y. joined (row_entries u.0) ++ y) (ap (λ y. r.1 ++ y) u.3 ∙ append-nil r.1) in
      let at : e ≡ l.content + length (joined (row_entries u.0)) + length r.1 + length x =
      omega (arith, f, h.content, ap length h.whole, length-append h.front h.contents, ap length old, length-append (joined (row_entries u.0)) r.1) in
      let w = marked_value l.content u.0 r ms x e (subst (λ rs. AreMarked l.content rs ms) u.2 h.contains.3) at in (
        w.0,
        w.1,
        w.2,
        inner_more l (after l bad) (a_map p s c) ts (ts ++ t ∷ []) ms (w.0 ++ (w.1.0, w.1.1, w.1.2, e) ∷ []) z x h h.opens h.content (sound_more l.flawed bad ts t h.sound (is_verdict order t x bad v)) (
          turned l.count ∙ ap not h.contains.0 ∙ sym (odd_more order ts t),
          u.0 ++ (r.0, r.1, x) ∷ [],
          u.4,
          w.3,
          ap (λ y. y ++ x) old ∙ append_assoc (joined (row_entries u.0)) r.1 x ∙ sym (joined_row u.0 (r.0, r.1, x)),
        ),
      )

  -- ---- and in a partial sequence

  -- only what is in the innermost container differs
  stands_more : (outer : List Level) (l m : Level) (f : Partial) (o : Opening) (ts us : List Tree) (ms ns own : List Mark) (y x : List ℕ) (s : Stands order outer l (inside f o ts) ms y) → m.start ≡ l.start → m.pairs ≡ l.pairs → ns ≡ s.4 ++ own → Within m o us own (s.3 ++ x) → Stands order outer m (inside f o us) ns (y ++ x)
  stands_more outer l m f o ts us ms ns own y x s a b e h = (s.0, s.1, s.2, s.3 ++ x, s.4, own, s.6, ap (λ w. w ++ x) s.7 ∙ append_assoc s.2 s.3 x, e, a ∙ s.9, b ∙ s.10, s.11, h)

  stands_key : (outer : List Level) (l : Level) (f : Partial) (p : ℕ) (z : Size) (c : Option ℕ) (ts : List Tree) (t : Tree) (ms ms' : List Mark) (y x : List ℕ) (bad : Bool) → has_key l ≡ false → Verdict order bad t x → Coded order t x → ms' ≡ ms ++ (place t, length y, length (y ++ x), length (y ++ x)) ∷ []
      → Stands order outer l (inside f (a_map p z c) ts) ms y → Stands order outer (after l bad) (inside f (a_map p z c) (ts ++ t ∷ [])) ms' (y ++ x)
  stands_key outer l f p z c ts t ms ms' y x bad k v d new s =
      let b = length y in
      let e = length (y ++ x) in
      let m : Mark = (place t, b, e, e) in
      stands_more outer l (after l bad) f (a_map p z c) ts (ts ++ t ∷ []) ms ms' (s.5 ++ m ∷ []) y x s refl refl (new ∙ ap (λ ns. ns ++ m ∷ []) s.8 ∙ append_assoc s.4 s.5 (m ∷ []))
      (inner_key l p z c ts t s.5 s.3 x bad b e v d k (omega (arith, s.9, ap length s.7, length-append s.2 s.3)) (length-append y x) s.12)

  stands_value : (outer : List Level) (l : Level) (f : Partial) (p : ℕ) (z : Size) (c : Option ℕ) (ts : List Tree) (t : Tree) (ms ms' : List Mark) (y x : List ℕ) (bad : Bool) → has_key l ≡ true → Verdict order bad t x → Coded order t x
      → ((ns : List Mark) (p s m n : ℕ) → ms ≡ ns ++ (p, s, m, n) ∷ [] → ms' ≡ ns ++ (p, s, m, length (y ++ x)) ∷ [])
      → Stands order outer l (inside f (a_map p z c) ts) ms y → Stands order outer (after l bad) (inside f (a_map p z c) (ts ++ t ∷ [])) ms' (y ++ x)
  stands_value outer l f p z c ts t ms ms' y x bad k v d set s =
      let e = length (y ++ x) in
      let u = inner_value l p z c ts t s.5 s.3 x bad e v d k (omega (arith, s.9, ap length s.7, length-append s.2 s.3, length-append y x)) s.12 in
      let m = u.1 in
      let old : ms ≡ (s.4 ++ u.0) ++ (m.0, m.1, m.2, m.3) ∷ [] = s.8 ∙ ap (λ ns. s.4 ++ ns) u.2 ∙ sym (append_assoc s.4 u.0 (m ∷ [])) in
      let new : Mark = (m.0, m.1, m.2, e) in
      stands_more outer l (after l bad) f (a_map p z c) ts (ts ++ t ∷ []) ms ms' (u.0 ++ new ∷ []) y x s refl refl (set (s.4 ++ u.0) m.0 m.1 m.2 m.3 old ∙ append_assoc s.4 u.0 (new ∷ [])) u.3

  pub stands_put : (outer : List Level) (l : Level) (f : Partial) (t : Tree) (ms ms' : List Mark) (y x : List ℕ) (bad : Bool) → IsFree f → length (y ++ x) < 2 ^ 64 → Coded order t x
      → (bad ≡ true → length (y ++ x) ≤ length y) → (bad ≡ false → length y < length (y ++ x))
      → IsMarked l.container (has_key l) (place t, length y, length (y ++ x), length (y ++ x)) ms ms'
      → Stands order outer l f ms y → Stands order outer (after l bad) (put f t) ms' (y ++ x)
  stands_put outer l f t ms ms' y x bad free k d g h marked s = by f free s
    where
      v : Verdict order bad t x
      v = verdict order t y x bad d g h

      m : Mark
      m = (place t, length y, length (y ++ x), length (y ++ x))

      at : (a : Container) → l.container ≡ a → IsMarked a (has_key l) m ms ms'
      at a e = subst (λ b. IsMarked b (has_key l) m ms ms') e marked

      by : (f : Partial) → IsFree f → Stands order outer l f ms y → Stands order outer (after l bad) (put f t) ms' (y ++ x)
      by (top ts) free s = (s.0, at Container.Input s.2 ∙ s.1, s.2, sound_more l.flawed bad ts t s.3 (is_verdict order t x bad v), λ e. contents_more order l.flawed bad ts t y x s.4 v e)
      by (inside f (an_array p z n) ts) free s =
          stands_more outer l (after l bad) f (an_array p z n) ts (ts ++ t ∷ []) ms ms' s.5 y x s refl refl (at (Container.Array z n) s.12.opens.1 ∙ s.8) (inner_array l p z n ts t s.5 s.3 x bad (own_short y x s.2 s.3 k s.7) v s.12)
      by (inside f (a_tag p w n) ts) free s =
          stands_more outer l (after l bad) f (a_tag p w n) ts (ts ++ t ∷ []) ms ms' s.5 y x s refl refl (at (Container.Tag w n) s.12.opens.1 ∙ s.8) (inner_tag l p w n ts t s.5 s.3 x bad v s.12)
      by (inside f (in_chunks p j) ts) free s = absurd free.1
      by (inside f (a_map p z n) ts) free s = go (has_key l) refl
        where
          here : (b : Bool) → has_key l ≡ b → IsMarked (Container.Map z n) b m ms ms'
          here b e = subst (λ k. IsMarked (Container.Map z n) k m ms ms') e (at (Container.Map z n) s.12.opens.1)

          go : (b : Bool) → has_key l ≡ b → Stands order outer (after l bad) (put (inside f (a_map p z n) ts) t) ms' (y ++ x)
          go false e = stands_key outer l f p z n ts t ms ms' y x bad e v d (here false e) s
          go true e = stands_value outer l f p z n ts t ms ms' y x bad e v d (here true e) s

  -- ---- more than one at once

  pub stands_items : (outer : List Level) (l : Level) (f : Partial) (ts : List Tree) (ms : List Mark) (y x : List ℕ) → InArray f → length (y ++ x) < 2 ^ 64 → AreEncodedAs order ts x → Stands order outer l f ms y → Stands order outer (after_items l (length ts)) (puts f ts) ms (y ++ x)
  stands_items outer l (inside f (an_array p z c) us) ts ms y x at k e s =
      subst (λ g. Stands order outer (after_items l (length ts)) g ms (y ++ x)) (sym (puts_inside f (an_array p z c) us ts))
      (stands_more outer l (after_items l (length ts)) f (an_array p z c) us (us ++ ts) ms ms s.5 y x s refl refl s.8 (inner_items l p z c us ts s.5 s.3 x (own_short y x s.2 s.3 k s.7) e s.12))
  stands_items outer l f ts ms y x at k e s = absurd at

  -- a key, and then its value
  pub stands_pair : (outer : List Level) (l : Level) (f : Partial) (t u : Tree) (ms : List Mark) (y a b : List ℕ) → AtKey f → IsEncodedAs order t a → IsEncodedAs order u b
      → Stands order outer l f ms y → Stands order outer (after (after l false) false) (put (put f t) u) (ms ++ (place t, length y, length (y ++ a), length ((y ++ a) ++ b)) ∷ []) ((y ++ a) ++ b)
  stands_pair outer l (inside f (a_map p z c) ts) t u ms y a b at e g s =
      let n = length (y ++ a) in
      let m : Mark = (place t, length y, n, n) in
      let o = length ((y ++ a) ++ b) in
      let has : has_key l ≡ false = s.12.contains.0 ∙ even ts at in
      let key = stands_key outer l f p z c ts t ms (ms ++ m ∷ []) y a false has e (inl e) refl s in
      stands_value outer (after l false) f p z c (ts ++ t ∷ []) u (ms ++ m ∷ []) (ms ++ (place t, length y, n, o) ∷ []) (y ++ a) b false (turned l.count ∙ ap not has) g (inl g)
      (λ ns q i j k last. let r = same_from_push ms ns m (q, i, j, k) last in (λ w. r.0 w ++ ((r.1 w).0, (r.1 w).1, (r.1 w).2, o) ∷ [])) key
  stands_pair outer l f t u ms y a b at e g s = absurd at

  pub stands_same : (outer outer' : List Level) (l l' : Level) (f : Partial) (ms ms' : List Mark) (y y' : List ℕ) → outer' ≡ outer → l' ≡ l → ms' ≡ ms → y' ≡ y → Stands order outer l f ms y → Stands order outer' l' f ms' y'
  stands_same outer outer' l l' f ms ms' y y' a b c d s =
      subst (λ os. Stands order os l' f ms' y') (sym a) (subst (λ m. Stands order outer m f ms' y') (sym b) (subst (λ ns. Stands order outer l f ns y') (sym c) (subst (λ z. Stands order outer l f ms z) (sym d) s)))

  -- ---- what opens

  pub stands_open : (outer : List Level) (l m : Level) (f : Partial) (o : Opening) (ms : List Mark) (y h : List ℕ) → Opens m o → IsFront o h → m.start ≡ length y → m.content ≡ length (y ++ h) → m.pairs ≡ length ms → m.count ≡ 0 → m.flawed ≡ false
      → Stands order outer l f ms y → Stands order (outer ++ l ∷ []) m (inside f o []) ms (y ++ h)
  stands_open outer l m f o ms y h h1 h2 h3 h4 h5 h6 h7 h8 = grind (arith, append-nil, length-append)

  -- ---- a string in a string of indefinite length

  chunk_verdict : (k : StringKind) (t : Tree) (q : ℕ) (w : Width) (b x : List ℕ) (bad : Bool) → t ≡ string_tree q k w b → IsChunkContent bad k b x → IsVerdict bad t
  chunk_verdict OfBytes t q w b x false e c = subst (IsVerdict false) (sym e) (bytes b, refl)
  chunk_verdict OfText t q w b x false e c = subst (IsVerdict false) (sym e) (text b, (c.0, refl))
  chunk_verdict OfBytes t q w b x true e c = absurd (c.0 tt)
  chunk_verdict OfText t q w b x true e c = subst (IsVerdict true) (sym e) (λ v m. c.0 m.0)

  chunk_bytes : (k : StringKind) (q : ℕ) (w : Width) (b : List ℕ) → (chunk_of (string_tree q k w b)).bytes ≡ b
  chunk_bytes OfBytes q w b = refl
  chunk_bytes OfText q w b = refl

  chunk_joined : (ts : List Tree) (k : StringKind) (t : Tree) (q : ℕ) (w : Width) (b : List ℕ) → t ≡ string_tree q k w b → joined_chunks (chunks_of (ts ++ t ∷ [])) ≡ joined_chunks (chunks_of ts) ++ b
  chunk_joined [] k t q w b e = append-nil (chunk_of t).bytes ∙ ap (λ u. (chunk_of u).bytes) e ∙ chunk_bytes k q w b
  chunk_joined (s ∷ ts) k t q w b e = ap (λ z. (chunk_of s).bytes ++ z) (chunk_joined ts k t q w b e) ∙ sym (append_assoc (chunk_of s).bytes (joined_chunks (chunks_of ts)) b)

  chunk_contents : (c bad : Bool) (ts : List Tree) (k : StringKind) (t : Tree) (q : ℕ) (w : Width) (b z x : List ℕ) → t ≡ string_tree q k w b → IsChunkContent bad k b x → (c ≡ false → z ≡ joined_chunks (chunks_of ts)) → (c || bad) ≡ false → z ++ x ≡ joined_chunks (chunks_of (ts ++ t ∷ []))
  chunk_contents c bad ts k t q w b z x h1 h2 h3 h4 = grind (arith, chunk_joined)

  pub stands_chunk : (outer : List Level) (l : Level) (f : Partial) (t : Tree) (ms : List Mark) (y x : List ℕ) (bad : Bool) → IsChunk f t bad x → Stands order outer l f ms y → Stands order outer (after l bad) (put f t) ms (y ++ x)
  stands_chunk outer l (inside f (in_chunks p k) ts) t ms y x bad c s =
      let h = s.12 in
      stands_more outer l (after l bad) f (in_chunks p k) ts (ts ++ t ∷ []) ms ms s.5 y x s refl refl s.8
      (inner_more l (after l bad) (in_chunks p k) ts (ts ++ t ∷ []) s.5 s.5 s.3 x h h.opens h.content (sound_more l.flawed bad ts t h.sound (chunk_verdict k t c.0 c.1 c.2 x bad c.3 c.4))
      (h.contains.0, λ e. chunk_contents l.flawed bad ts k t c.0 c.1 c.2 h.contents x c.3 c.4 h.contains.1 e))
  stands_chunk outer l _ t ms y x bad c s = absurd c
