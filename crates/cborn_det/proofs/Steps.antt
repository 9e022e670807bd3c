-- The steps of the encoder, over plain values.
use Rattle.std.specs.Prelude.{◌≡◌, ◌+◌, ◌-◌, ◌<◌, ◌∷◌, ◌++◌, ◌≤◌}
use Rattle.cborn_det.proofs.Common.{ℕ, List, [], length, map, take, drop, get_or, refl, sym, ap, ◌∙◌, subst, arith, append_assoc, append-nil, length-append, drop_at, take_at, Ordering, IsPermutation, Result, Ok, Err, IsErr, MatchResult, AllByRecursion, take_more, map-append, take-append-drop, All-from_recursion, item_value, pair_value, Value, array, dict, values_of, pairs_of, IsProper, AreProper, HasProperPairs, IsLeastHead, Rising, Det, DetValues, DetPairs, DetSeq, Entry, joined, keys, Appends, AppendsPair, BeginsWith, IsWritten, lengths_of, value_count-values_of, pair_count-pairs_of}
use Rattle.cborn_model.specs.declared.items.Item.{Item}

-- ---- what is valid of all is valid of each

pub proper_item : (xs : List Item) (i : ℕ) (x : Item) → i < length xs → x ≡ get_or xs i x → AreProper (values_of (map item_value xs)) → IsProper (item_value x)
proper_item xs i x l e h =
    let P : Item → Type 0 = λ (z : Item). IsProper (item_value z) in
    subst P (sym e) (All-from_recursion P xs (along xs h) i x l)
  where
    along : (ys : List Item) → AreProper (values_of (map item_value ys)) → AllByRecursion (λ (z : Item). IsProper (item_value z)) ys
    along [] h = tt
    along (y ∷ ys) h = (h.0, along ys h.1)

abbrev ProperPair : Item × Item → Type 0
ProperPair p = IsProper (item_value p.0) × IsProper (item_value p.1)

pub proper_pair : (ps : List (Item × Item)) (i : ℕ) (p : Item × Item) → i < length ps → p ≡ get_or ps i p → HasProperPairs (pairs_of (map pair_value ps)) → IsProper (item_value p.0) × IsProper (item_value p.1)
proper_pair ps i p l e h = subst ProperPair (sym e) (All-from_recursion ProperPair ps (along ps h) i p l)
  where
    along : (qs : List (Item × Item)) → HasProperPairs (pairs_of (map pair_value qs)) → AllByRecursion ProperPair qs
    along [] h = tt
    along (q ∷ qs) h = ((h.0, h.1), along qs h.2)

written_push : (es : List Entry) (e : Entry) (cs : List (ℕ × ℕ)) (c : ℕ × ℕ) (b : List ℕ) → IsWritten es cs b → c.0 ≡ length e.0 → c.1 ≡ length e.1 → IsWritten (es ++ e ∷ []) (cs ++ c ∷ []) (b ++ (e.0 ++ e.1))
written_push es e cs c b w p q = grind (arith, joined_push, lengths_push)
  where
    lengths_push : (fs : List Entry) → map lengths_of fs ++ lengths_of e ∷ [] ≡ map lengths_of (fs ++ e ∷ [])
    lengths_push [] = refl
    lengths_push (f ∷ fs) = ap (λ z. lengths_of f ∷ z) (lengths_push fs)

    joined_push : (fs : List Entry) → joined fs ++ (e.0 ++ e.1) ≡ joined (fs ++ e ∷ [])
    joined_push [] = sym (append-nil (e.0 ++ e.1))
    joined_push (f ∷ fs) = append_assoc (f.0 ++ f.1) (joined fs) (e.0 ++ e.1) ∙ ap (λ z. (f.0 ++ f.1) ++ z) (joined_push fs)

-- one more element of a list, seen through a function
more : {X Y : Type 0} (f : X → Y) (xs : List X) (i : ℕ) (x : X) → i < length xs → x ≡ get_or xs i x → map f (take (i + 1) xs) ≡ map f (take i xs) ++ f x ∷ []
more f xs i x l e =
    ap (map f) (take_more xs i x l) ∙ map-append f (take i xs) (get_or xs i x ∷ []) ∙ ap (λ z. map f (take i xs) ++ f z ∷ []) (sym e)

-- a result that is an error
pub on_err : {A E : Type 0} (r : Result A E) (P : A → Type 0) (Q : E → Type 0) → IsErr r → ((e : E) → Q e) → MatchResult r P Q
on_err (Ok a) P Q h f = cc
on_err (Err e) P Q h f = f e

pub begins_more : (a b c : List ℕ) → BeginsWith a b → BeginsWith b c → BeginsWith a c
begins_more a b c p q = (p.0 ++ q.0, q.1 ∙ ap (λ z. z ++ q.0) p.1 ∙ append_assoc a p.0 q.0)

pub begins_take : (n : ℕ) (xs : List ℕ) → BeginsWith (take n xs) xs
begins_take n xs = (drop n xs, sym (take-append-drop n xs))

-- what was written after the front, and the front
pub record Laid (es : List Entry) (lengths : List (ℕ × ℕ)) (start : ℕ) (front out : List ℕ) : Type 0 where
  pub inside : start ≤ length out
  pub written : IsWritten es lengths (drop start out)
  pub before : take start out ≡ front

pub laid : (es : List Entry) (lengths slice : List (ℕ × ℕ)) (start : ℕ) (front out : List ℕ) → start ≡ length front → slice ≡ lengths → Appends (IsWritten es lengths) front out → Laid es slice start front out
laid es lengths slice start front out s e a =
    record {
      inside = omega (arith, ap length a.2, length-append front a.0);
      written = (e ∙ a.1.0, ap (drop start) a.2 ∙ drop_at front a.0 start (sym s) ∙ a.1.1);
      before = ap (take start) a.2 ∙ take_at front a.0 start (sym s);
    }

module _ (order : List ℕ → List ℕ → Ordering) where
  -- a sequence is written as the items of an array are
  pub values_of_seq : (vs : List Value) (x : List ℕ) → DetSeq order vs x → DetValues order (values_of vs) x
  values_of_seq [] x d = d
  values_of_seq (v ∷ vs) x d = (d.0, d.1, d.2, values_of_seq vs d.1 d.3, d.4)

  pub seq_of_values : (vs : List Value) (x : List ℕ) → DetValues order (values_of vs) x → DetSeq order vs x
  seq_of_values [] x d = d
  seq_of_values (v ∷ vs) x d = (d.0, d.1, d.2, seq_of_values vs d.1 d.3, d.4)

  pub items_done : (vs : List Value) (n : ℕ) (old mid new : List ℕ) → n ≡ length vs → Appends (IsLeastHead 4 n) old mid → Appends (DetSeq order vs) mid new → Appends (Det order (array (values_of vs))) old new
  items_done vs n old mid new l h d = grind (arith, append_assoc, value_count-values_of, values_of_seq)

  pub map_done : (ps : List (Value × Value)) (es fs : List Entry) (n : ℕ) (old mid new : List ℕ) → n ≡ length ps → DetPairs order (pairs_of ps) es → IsPermutation es fs → Rising order (keys fs) → Appends (IsLeastHead 5 n) old mid → new ≡ mid ++ joined fs → Appends (Det order (dict (pairs_of ps))) old new
  map_done ps es fs n old mid new l z p r h e =
      (h.0 ++ joined fs, (h.0, es, fs, subst (λ k. IsLeastHead 5 k h.0) (l ∙ sym (pair_count-pairs_of ps)) h.1, z, p, r, refl), e ∙ ap (λ z. z ++ joined fs) h.2 ∙ append_assoc old h.0 (joined fs))

  pub seq_append : (vs ws : List Value) (x y : List ℕ) → DetSeq order vs x → DetSeq order ws y → DetSeq order (vs ++ ws) (x ++ y)
  seq_append [] ws x y d e = subst (DetSeq order ws) (ap (λ z. z ++ y) (sym d)) e
  seq_append (v ∷ vs) ws x y d e = (d.0, d.1 ++ y, d.2, seq_append vs ws d.1 y d.3 e, ap (λ z. z ++ y) d.4 ∙ append_assoc d.0 d.1 y)

  -- one item more
  items_more : (vs : List Value) (v : Value) (start old new : List ℕ) → Appends (DetSeq order vs) start old → Appends (Det order v) old new → Appends (DetSeq order (vs ++ v ∷ [])) start new
  items_more vs v start old new s d = (s.0 ++ d.0, seq_append vs (v ∷ []) s.0 d.0 s.1 (d.0, [], d.1, refl, sym (append-nil d.0)), d.2 ∙ ap (λ z. z ++ d.0) s.2 ∙ append_assoc start s.0 d.0)

  pub seq_step : (vs : List Value) (i : ℕ) (v : Value) (start old new : List ℕ) → i < length vs → v ≡ get_or vs i v → Appends (DetSeq order (take i vs)) start old → Appends (Det order v) old new → Appends (DetSeq order (take (i + 1) vs)) start new
  seq_step vs i v start old new l e s d =
      subst (λ us. Appends (DetSeq order us) start new) (sym (take_more vs i v l ∙ ap (λ z. take i vs ++ z ∷ []) (sym e))) (items_more (take i vs) v start old new s d)

  pub items_step : (xs : List Item) (i : ℕ) (x : Item) (start old new : List ℕ) → i < length xs → x ≡ get_or xs i x → Appends (DetSeq order (map item_value (take i xs))) start old → Appends (Det order (item_value x)) old new → Appends (DetSeq order (map item_value (take (i + 1) xs))) start new
  items_step xs i x start old new l e s d =
      subst (λ vs. Appends (DetSeq order vs) start new) (sym (more item_value xs i x l e)) (items_more (map item_value (take i xs)) (item_value x) start old new s d)

  -- the entries of the pairs, and how they lie after what was there
  abbrev pub AppendsPairs : List (Value × Value) → List (ℕ × ℕ) → List ℕ → List ℕ → Type 0
  AppendsPairs ps lengths old new = (es : List Entry) × DetPairs order (pairs_of ps) es × Appends (IsWritten es lengths) old new

  pub pairs_push : (ps : List (Value × Value)) (p : Value × Value) (es : List Entry) (e : Entry) → DetPairs order (pairs_of ps) es → Det order p.0 e.0 → Det order p.1 e.1 → DetPairs order (pairs_of (ps ++ p ∷ [])) (es ++ e ∷ [])
  pairs_push [] p [] e d k v = (k, v, tt)
  pairs_push (q ∷ ps) p (f ∷ es) e d k v = (d.0, d.1, pairs_push ps p es e d.2 k v)
  pairs_push _ p _ e d k v = absurd d

  -- one pair more
  pairs_more : (ps : List (Value × Value)) (p : Value × Value) (lengths : List (ℕ × ℕ)) (two : ℕ × ℕ) (start old new : List ℕ) → AppendsPairs ps lengths start old → AppendsPair order p two old new → AppendsPairs (ps ++ p ∷ []) (lengths ++ two ∷ []) start new
  pairs_more ps p lengths two start old new s a =
      let e : Entry = a.0 in
      let w = s.2 in (
        s.0 ++ e ∷ [],
        pairs_push ps p s.0 e s.1 a.1 a.2,
        (w.0 ++ (e.0 ++ e.1), written_push s.0 e lengths two w.0 w.1 a.3 a.4, a.5 ∙ append_assoc old e.0 e.1 ∙ ap (λ z. z ++ (e.0 ++ e.1)) w.2 ∙ append_assoc start w.0 (e.0 ++ e.1)),
      )

  pub pair_done : (k v : Value) (old mid new : List ℕ) → Appends (Det order k) old mid → Appends (Det order v) mid new → AppendsPair order (k, v) (length mid - length old, length new - length mid) old new
  pair_done k v old mid new x y = (
    (x.0, y.0),
    x.1,
    y.1,
    omega (arith, ap length x.2, length-append old x.0),
    omega (arith, ap length y.2, length-append mid y.0),
    y.2 ∙ ap (λ z. z ++ y.0) x.2,
  )

  pub pairs_step : (ps : List (Item × Item)) (i : ℕ) (p : Item × Item) (lengths : List (ℕ × ℕ)) (two : ℕ × ℕ) (start old new : List ℕ) → i < length ps → p ≡ get_or ps i p → AppendsPairs (map pair_value (take i ps)) lengths start old → AppendsPair order (pair_value p) two old new → AppendsPairs (map pair_value (take (i + 1) ps)) (lengths ++ two ∷ []) start new
  pairs_step ps i p lengths two start old new l e s a =
      subst (λ vs. AppendsPairs vs (lengths ++ two ∷ []) start new) (sym (more pair_value ps i p l e)) (pairs_more (map pair_value (take i ps)) (pair_value p) lengths two start old new s a)
