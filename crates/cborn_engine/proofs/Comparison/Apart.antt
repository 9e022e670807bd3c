-- What is known of two deterministic encodings that are walked together.
use Rattle.std.specs.Prelude.{◌≡◌, ◌≤◌, ◌+◌, ◌∷◌, ◌++◌}
use Rattle.cborn_engine.proofs.Common.{ℕ, zero, suc, List, [], length, drop, take, Option, None, Some, Ordering, sym, ◌∙◌, ap, subst, arith, length-append, AllZip, AllByRecursion, append_cancel_right, take-append-drop, Means, IsKeyOrder, spelled, spelled_all, Fits, Wellformed, depth, Tree, trees, IsProper, Value, Same, Det, DetSeq, Difference, AreCompared, IsEncoded, Holds, one_front, det_tidy, some_bytes, same_chained, same_of_one, one_of_same, seq_of_one, Kind}
use Rattle.cborn_engine.proofs.Canonical.Proper.{sequence_proper}
use Rattle.cborn_engine.proofs.CountAnswers.Second.{Ends}
use Rattle.cborn_engine.proofs.Held.Meant.{all_turned}

-- ---- the first item of some bytes

its_bytes : (x : List ℕ) (end : ℕ) (at : Ends x end) → take end x ≡ spelled at.0
its_bytes x end at = append_cancel_right (take end x) (spelled at.0) (drop end x) (take-append-drop end x ∙ at.1.whole)

-- no node is at the front of both
abbrev pub NoneOfBoth : List ℕ → List ℕ → Type 0
NoneOfBoth left right = (t : Tree) (l r : List ℕ) → left ≡ spelled t ++ l → right ≡ spelled t ++ r → Fits t → depth t ≤ 1024 → ⊥

pub none_of_both : (left right : List ℕ) (end : ℕ) → Ends left end → ((r : List ℕ) → right ≡ take end left ++ r → ⊥) → NoneOfBoth left right
none_of_both left right end h1 h2 = grind (arith, drop, its_bytes, one_front)

module _ (order : List ℕ → List ℕ → Ordering) (limit : ℕ) where
  -- the bytes are the encodings of items
  abbrev Encoded : List ℕ → Type 0
  Encoded x = IsEncoded order Kind.Wire limit x x

  proper : (x : List ℕ) (h : Encoded x) → AllByRecursion IsProper h.items
  proper x h = sequence_proper order h.held.nodes h.items x h.held.spelled.fit h.held.meant h.encoded

  -- so are those after the first node, which is the encoding of the first item
  record Split (t : Tree) (x rest : List ℕ) : Type 0 where
    item : Value
    proper : IsProper item
    det : Det order item (spelled t)
    others : Encoded rest
    more : (vs : List Value) → Holds Kind.Wire limit rest vs → Holds Kind.Wire limit x (item ∷ vs)

  split : (t : Tree) (x rest : List ℕ) → Fits t → x ≡ spelled t ++ rest → Encoded x → Split t x rest
  split t x rest f e h = go h.held.nodes h.items h.held.spelled h.held.meant h.encoded (proper x h)
    where
      go : (ns : List Tree) (vs : List Value) → Wellformed limit (trees ns) x → AllZip Means ns vs → DetSeq order vs x → AllByRecursion IsProper vs → Split t x rest
      go [] vs w m d p = absurd (omega (arith, some_bytes t, ap length (w.spells ∙ e), length-append (spelled t) rest))
      go (n ∷ ns) [] w m d p = absurd m
      go (n ∷ ns) (v ∷ vs) w m d p =
          let own = one_front n t (spelled_all (trees ns)) rest w.fit.0 f (w.spells ∙ e) in
          let first = det_tidy order t v rest d.0 d.1 f p.0 d.2 (sym e ∙ d.4) in
          record {
            item = v;
            proper = p.0;
            det = subst (Det order v) (sym first.0) d.2;
            others = record { items = vs; held = record { nodes = ns; spelled = record { spells = own.1; fit = w.fit.1; shallow = omega (arith, w.shallow) }; meant = m.1 }; encoded = subst (DetSeq order vs) (sym first.1) d.3 };
            more = λ us k. record { nodes = n ∷ k.nodes; spelled = record { spells = ap (λ (z : List ℕ). spelled n ++ z) (k.spelled.spells ∙ sym own.1) ∙ w.spells; fit = (w.fit.0, k.spelled.fit); shallow = omega (arith, w.shallow, k.spelled.shallow) }; meant = (m.0, k.meant) };
          }

  abbrev Compared : List ℕ → List ℕ → Option ℕ → Type 0
  Compared = AreCompared Kind.Wire Kind.Wire limit

  compared : {x y : List ℕ} {answer : Option ℕ} (h : Encoded x) (k : Encoded y) → Difference h.items k.items answer → Compared x y answer
  compared h k d = record { ours = h.items; theirs = k.items; held = h.held; held2 = k.held; difference = d }

  -- a walk that has passed k items on both sides
  pub record SoFar (ours theirs left right : List ℕ) (k : ℕ) : Type 0 where
    left_encoded : Encoded left
    right_encoded : Encoded right
    apart : left ≡ right → ⊥
    lift : (i j : ℕ) → i ≡ j + k → Compared left right (Some j) → Compared ours theirs (Some i)

  pub at_first : {ours theirs : List ℕ} → Encoded ours → Encoded theirs → (ours ≡ theirs → ⊥) → SoFar ours theirs ours theirs 0
  at_first {ours} {theirs} h k never = record {
    left_encoded = h;
    right_encoded = k;
    apart = never;
    lift = λ i j e c. let same : j ≡ i = omega (arith, e) in subst (λ (n : ℕ). Compared ours theirs (Some n)) same c;
  }

  pub passed : {ours theirs left right : List ℕ} {k : ℕ} (r : List ℕ) (end : ℕ) → SoFar ours theirs left right k → Ends left end → right ≡ take end left ++ r → SoFar ours theirs (drop end left) r (k + 1)
  passed {left} {right} r end s (t, f) e =
      let there : right ≡ spelled t ++ r = e ∙ ap (λ (z : List ℕ). z ++ r) (its_bytes left end (t, f)) in
      let one = split t left (drop end left) f.fits f.whole s.left_encoded in
      let two = split t right r f.fits there s.right_encoded in
      record {
        left_encoded = one.others;
        right_encoded = two.others;
        apart = λ p. s.apart (f.whole ∙ ap (λ (z : List ℕ). spelled t ++ z) p ∙ sym there);
        lift = λ i j q c. s.lift i (suc j) (omega (arith, q)) (record {
          ours = one.item ∷ c.ours;
          theirs = two.item ∷ c.theirs;
          held = one.more c.ours c.held;
          held2 = two.more c.theirs c.held2;
          difference = ((same_of_one order one.item two.item (spelled t) one.proper two.proper one.det two.det, c.difference.0), λ n. c.difference.1 n.1);
        });
      }

  module _ (laws : IsKeyOrder order) where
    -- no node is at the front of what is left of both: the first items differ, or one side has ended
    pub apart_here : {ours theirs left right : List ℕ} {k : ℕ} → limit ≤ 1024 → SoFar ours theirs left right k → NoneOfBoth left right → Compared ours theirs (Some k)
    apart_here {left} {right} {k} low s none =
        let h = s.left_encoded in
        let g = s.right_encoded in
        s.lift k 0 (omega arith) (compared h g (tt, go h.held.nodes h.items g.items h.held.spelled h.held.meant h.encoded g.encoded (proper left h) (proper right g)))
      where
        go : (ns : List Tree) (vs ws : List Value) → Wellformed limit (trees ns) left → AllZip Means ns vs → DetSeq order vs left → DetSeq order ws right → AllByRecursion IsProper vs → AllByRecursion IsProper ws → AllZip Same (take 1 vs) (take 1 ws) → ⊥
        go ns [] [] w m d e p q same = s.apart (d ∙ sym e)
        go ns [] (_ ∷ _) w m d e p q same = same
        go ns (_ ∷ _) [] w m d e p q same = same
        go [] (v ∷ vs) ws w m d e p q same = m
        go (n ∷ ns) (v ∷ vs) (u ∷ us) w m d e p q same =
            let tidy = det_tidy order n v (spelled_all (trees ns)) d.0 d.1 w.fit.0 p.0 d.2 (w.spells ∙ d.4) in
            let one = one_of_same order laws v u d.0 e.0 p.0 q.0 same.0 d.2 e.2 in
            none n (spelled_all (trees ns)) e.1 (sym w.spells) (e.4 ∙ ap (λ (z : List ℕ). z ++ e.1) (sym (tidy.0 ∙ one))) w.fit.0 (omega (arith, w.shallow, low))

    pub equal : {ours theirs : List ℕ} → Encoded ours → Encoded theirs → ours ≡ theirs → Compared ours theirs None
    equal {ours} {theirs} h k e = compared h k (seq_of_one order laws h.items k.items ours (proper ours h) (proper theirs k) h.encoded (subst (DetSeq order k.items) (sym e) k.encoded))

-- ---- items that are the same as those that were compared

chained : (a b c : List Value) → AllZip Same a b → AllZip Same b c → AllZip Same a c
chained [] [] [] h k = tt
chained (v ∷ a) (w ∷ b) (x ∷ c) h k = (same_chained v w x h.0 k.0, chained a b c h.1 k.1)
chained _ _ _ h k = absurd (assumption (h, k))

front_same : (i : ℕ) (a b : List Value) → AllZip Same a b → AllZip Same (take i a) (take i b)
front_same zero a b h = tt
front_same (suc i) [] [] h = tt
front_same (suc i) (v ∷ a) (w ∷ b) h = (h.0, front_same i a b h.1)
front_same (suc i) _ _ h = absurd h

fronts_same : (i : ℕ) (a b c d : List Value) → AllZip Same a c → AllZip Same b d → AllZip Same (take i a) (take i b) → AllZip Same (take i c) (take i d)
fronts_same i a b c d p q h =
    chained (take i c) (take i a) (take i d) (front_same i c a (all_turned a c p)) (chained (take i a) (take i b) (take i d) h (front_same i b d q))

pub difference_too : (a b c d : List Value) (answer : Option ℕ) → AllZip Same a c → AllZip Same b d → Difference a b answer → Difference c d answer
difference_too a b c d None p q h = chained c a d (all_turned a c p) (chained a b d h q)
difference_too a b c d (Some i) p q h = (fronts_same i a b c d p q h.0, λ k. h.1 (fronts_same (suc i) c d a b (all_turned a c p) (all_turned b d q) k))
