-- Nodes that spell deterministic encodings have no indicator and no chunk in their fixed notation: it is their plain text.
use Rattle.std.specs.Prelude.{◌≡◌, ◌∷◌, ◌++◌}
use Rattle.cborn_engine.proofs.Common.{arith, refl, sym, ap, ◌∙◌, subst, ℕ, suc, inl, inr, Bool, true, false, eqb, List, [], length, codes, decimal, Ordering, append-nil, eq-eqb, cond-true, AllZip, flat_map, length_permutation, Array, Map, Fixed, AreBytes, big_endian, following, WidthFits, Given, head, least, head_bytes, Tree, Uint, Nint, Bytes, Text, Items, Pairs, Tagged, Simple, Trees, no_item, more, trees, Entries, no_entry, entry, count, count_entries, spelled, spelled_all, spelled_entries, Fits, FitsAll, FitsEntries, Value, Values, Couples, integer, bytes, text, array, dict, tagged, simple, no_values, value, no_pairs, pair, value_count, pair_count, listed, Entry, IsInteger, Det, DetValues, DetPairs, DetSeq, joined, escaped, mark_for, indicator, opened, joined_by, shown, item_texts, pair_texts, shown_lines, IsPlainText, IsFixedText, bytes-left, bytes-right, carried, length-listed, same_text}
use Rattle.cborn_wire.proofs.Spelled.AllBytes.{spelled_all_bytes}
use Rattle.cborn_lex.specs.declared.classes.Mark.TheVariants.{Absent, Wide}
use Rattle.cborn_edn.specs.Plain.{plain, plain_items, plain_pairs, plain_lines}
use Rattle.cborn_edn.proofs.Shown.PlainText.{same_plain}
use Rattle.cborn_engine.proofs.Held.SameNodes.{same_nodes}

-- Nodes in the shortest heads.

absent : (n : ℕ) → mark_for (least n) n ≡ Absent
absent n = let k = length (following (least n) n) in cond-true (eqb k k) Absent (Wide (least n)) (eq-eqb k k refl)

none : (n : ℕ) → indicator (mark_for (least n) n) ≡ []
none n = ap indicator (absent n)

-- a node that spells x, and whose text is plain
pub record PlainNode (x : List ℕ) : Type 0 where
  pub node : Tree
  pub spells : spelled node ≡ x
  pub fits : Fits node
  pub reported : shown node ≡ plain node

pub record PlainNodes (x : List ℕ) (n : ℕ) : Type 0 where
  pub nodes : Trees
  pub counted : count nodes ≡ n
  pub spells : spelled_all nodes ≡ x
  pub fits : FitsAll nodes
  pub reported : item_texts nodes ≡ plain_items nodes

pub record PlainEntry (e : Entry) : Type 0 where
  pub key : PlainNode e.0
  pub val : PlainNode e.1

pub record PlainEntries (es : List Entry) (n : ℕ) : Type 0 where
  pub nodes : Entries
  pub counted : count_entries nodes ≡ n
  pub spells : spelled_entries nodes ≡ joined es
  pub fits : FitsEntries nodes
  pub reported : pair_texts nodes ≡ plain_pairs nodes

reported_bytes : (b : List ℕ) → shown (Bytes 0 (least (length b)) b) ≡ plain (Bytes 0 (least (length b)) b)
reported_bytes b = rw (none (length b)) refl

bignum : (t : ℕ) (m h c x : List ℕ) → WidthFits (least t) t → h ≡ head_bytes 6 (least t) t → (k : List ℕ) → WidthFits (least (length m)) (length m) → k ≡ head_bytes 2 (least (length m)) (length m) → c ≡ k ++ m → x ≡ h ++ c → AreBytes m → PlainNode x
bignum t m h c x f e k g i j l are = record {
  node = Tagged 0 (least t) t (Bytes 0 (least (length m)) m);
  spells = (λ n. sym e n ++ (sym i n ++ m)) ∙ ap (λ y. h ++ y) (sym j) ∙ sym l;
  fits = (f, (g, are));
  reported = λ n. decimal t ++ (none t n ++ (codes "(" ++ (reported_bytes m n ++ codes ")")));
}

an_integer : (s : Bool) (m x : List ℕ) → AreBytes x → IsInteger s m x → PlainNode x
an_integer false m x are (inl d) = let n = big_endian m in record { node = Uint 0 (least n) n; spells = sym d.1.1; fits = d.1.0; reported = ap (λ l. decimal n ++ l) (none n) ∙ append-nil (decimal n) }
an_integer true m x are (inl d) =
    let n = big_endian m in
    record { node = Nint 0 (least n) n; spells = sym d.1.1; fits = d.1.0; reported = ap (λ l. codes "-" ++ (decimal (suc n) ++ l)) (none n) ∙ ap (λ l. codes "-" ++ l) (append-nil (decimal (suc n))) }
an_integer false m x are (inr d) = bignum 2 m d.1 d.2 x d.3.0 d.3.1 d.4.0 d.4.1.0 d.4.1.1 d.4.2 d.5 (bytes-right d.4.0 m (subst AreBytes d.4.2 (bytes-right d.1 d.2 (subst AreBytes d.5 are))))
an_integer true m x are (inr d) = bignum 3 m d.1 d.2 x d.3.0 d.3.1 d.4.0 d.4.1.0 d.4.1.1 d.4.2 d.5 (bytes-right d.4.0 m (subst AreBytes d.4.2 (bytes-right d.1 d.2 (subst AreBytes d.5 are))))

-- entries, each of which has nodes where it is of bytes
abbrev Backed : Value × Value → Entry → Type 0
Backed r e = AreBytes (e.0 ++ e.1) → PlainEntry e

entries_of : (rs : List (Value × Value)) (es : List Entry) → AllZip Backed rs es → AreBytes (joined es) → PlainEntries es (length rs)
entries_of [] [] h are = record { nodes = no_entry; counted = refl; spells = refl; fits = tt; reported = refl }
entries_of (r ∷ rs) (e ∷ es) h are =
    let one = h.0 (bytes-left (e.0 ++ e.1) (joined es) are) in
    let rest = entries_of rs es h.1 (bytes-right (e.0 ++ e.1) (joined es) are) in
    record {
      nodes = entry one.key.node one.val.node rest.nodes;
      counted = ap suc rest.counted;
      spells = λ i. one.key.spells i ++ one.val.spells i ++ rest.spells i;
      fits = (one.key.fits, one.val.fits, rest.fits);
      reported = λ i. (one.key.reported i ++ (codes ": " ++ one.val.reported i)) ∷ rest.reported i;
    }
entries_of _ _ h are = absurd h

module _ (order : List ℕ → List ℕ → Ordering) where
  a_map : (ps : Couples) (x : List ℕ) → AreBytes x → Det order (dict ps) x → ((es : List Entry) → DetPairs order ps es → AllZip Backed (listed ps) es) → PlainNode x
  a_map ps x are d back =
      let n : ℕ = pair_count ps in
      let moved = carried Backed (listed ps) d.1 d.2 (back d.1 d.4) d.5 in
      let all = entries_of moved.0 d.2 moved.2 (bytes-right d.0 (joined d.2) (subst AreBytes d.7 are)) in
      let counted : count_entries all.nodes ≡ n = all.counted ∙ length_permutation (listed ps) moved.0 moved.1 ∙ length-listed ps in
      let c : ℕ = count_entries all.nodes in
      record {
        node = Pairs 0 (Fixed (least c)) all.nodes;
        spells = append-nil (head Map (Given (least c) c) ++ spelled_entries all.nodes) ∙ (λ i. head Map (Given (least (counted i)) (counted i)) ++ all.spells i) ∙ ap (λ l. l ++ joined d.2) (sym d.3.1) ∙ sym d.7;
        fits = (subst (λ k. WidthFits (least k) k) (sym counted) d.3.0, all.fits);
        reported = λ i. codes "{" ++ (opened (absent c i) ++ (joined_by (codes ", ") (all.reported i) ++ codes "}"));
      }

  mutual
    a_node : (v : Value) (x : List ℕ) → AreBytes x → Det order v x → PlainNode x
    a_node (integer s m) x are d = an_integer s m x are d
    a_node (bytes b) x are d = record { node = Bytes 0 (least (length b)) b; spells = ap (λ l. l ++ b) (sym d.1.1) ∙ sym d.2; fits = (d.1.0, bytes-right d.0 b (subst AreBytes d.2 are)); reported = reported_bytes b }
    a_node (text b) x are d = record {
      node = Text 0 (least (length b)) b;
      spells = ap (λ l. l ++ b) (sym d.1.1) ∙ sym d.2;
      fits = (d.1.0, bytes-right d.0 b (subst AreBytes d.2 are));
      reported = ap (λ l. codes "\"" ++ (flat_map escaped b ++ (codes "\"" ++ l))) (none (length b));
    }
    a_node (array vs) x are d =
        let all = some_nodes vs d.1 (bytes-right d.0 d.1 (subst AreBytes d.4 are)) d.3 in
        let c : ℕ = count all.nodes in
        record {
          node = Items 0 (Fixed (least c)) all.nodes;
          spells = append-nil (head Array (Given (least c) c) ++ spelled_all all.nodes) ∙ (λ i. head Array (Given (least (all.counted i)) (all.counted i)) ++ all.spells i) ∙ ap (λ l. l ++ d.1) (sym d.2.1) ∙ sym d.4;
          fits = (subst (λ k. WidthFits (least k) k) (sym all.counted) d.2.0, all.fits);
          reported = λ i. codes "[" ++ (opened (absent c i) ++ (joined_by (codes ", ") (all.reported i) ++ codes "]"));
        }
    a_node (dict ps) x are d = a_map ps x are d (λ es e. some_entries ps es e)
    a_node (tagged t v) x are d =
        let inner = a_node v d.1 (bytes-right d.0 d.1 (subst AreBytes d.4 are)) d.3 in
        record { node = Tagged 0 (least t) t inner.node; spells = (λ i. sym d.2.1 i ++ inner.spells i) ∙ sym d.4; fits = (d.2.0, inner.fits); reported = λ i. decimal t ++ (none t i ++ (codes "(" ++ (inner.reported i ++ codes ")"))) }
    a_node (simple n) x are d = record { node = Simple 0 n; spells = sym d.1.1; fits = d.0; reported = refl }

    some_nodes : (vs : Values) (x : List ℕ) → AreBytes x → DetValues order vs x → PlainNodes x (value_count vs)
    some_nodes no_values x are d = record { nodes = no_item; counted = refl; spells = sym d; fits = tt; reported = refl }
    some_nodes (value v vs) x are d =
        let both = subst AreBytes d.4 are in
        let one = a_node v d.0 (bytes-left d.0 d.1 both) d.2 in
        let rest = some_nodes vs d.1 (bytes-right d.0 d.1 both) d.3 in
        record { nodes = more one.node rest.nodes; counted = ap suc rest.counted; spells = (λ i. one.spells i ++ rest.spells i) ∙ sym d.4; fits = (one.fits, rest.fits); reported = λ i. one.reported i ∷ rest.reported i }

    some_entries : (ps : Couples) (es : List Entry) → DetPairs order ps es → AllZip Backed (listed ps) es
    some_entries no_pairs [] d = tt
    some_entries (pair k v ps) (e ∷ es) d = ((λ are. record { key = a_node k e.0 (bytes-left e.0 e.1 are) d.0; val = a_node v e.1 (bytes-right e.0 e.1 are) d.1 }), some_entries ps es d.2)
    some_entries _ _ d = absurd d

  sequence : (vs : List Value) (x : List ℕ) → AreBytes x → DetSeq order vs x → PlainNodes x (length vs)
  sequence [] x are d = record { nodes = no_item; counted = refl; spells = sym d; fits = tt; reported = refl }
  sequence (v ∷ vs) x are d =
      let both = subst AreBytes d.4 are in
      let one = a_node v d.0 (bytes-left d.0 d.1 both) d.2 in
      let rest = sequence vs d.1 (bytes-right d.0 d.1 both) d.3 in
      record { nodes = more one.node rest.nodes; counted = ap suc rest.counted; spells = (λ i. one.spells i ++ rest.spells i) ∙ sym d.4; fits = (one.fits, rest.fits); reported = λ i. one.reported i ∷ rest.reported i }

  lines : (ts : Trees) → item_texts ts ≡ plain_items ts → shown_lines ts ≡ plain_lines ts
  lines ts h1 = grind (arith, codes, joined_by, more, no_item)

  -- LAW: nodes that spell deterministic encodings have plain text
  pub plain_is : (vs : List Value) (ts : Trees) → FitsAll ts → DetSeq order vs (spelled_all ts) → shown_lines ts ≡ plain_lines ts
  plain_is vs ts fit d =
      let s = sequence vs (spelled_all ts) (spelled_all_bytes ts fit) d in
      let same = same_nodes ts s.nodes fit s.fits (sym s.spells) in
      same_text ts s.nodes same ∙ lines s.nodes s.reported ∙ same_plain s.nodes ts (sym same)

  -- LAW: and the text of such bytes is the same in both forms
  pub as_plain : (vs : List Value) (x w : List ℕ) → DetSeq order vs x → IsFixedText x w → IsPlainText x w
  as_plain vs x w h1 h2 = grind (arith, plain, plain_is, shown, spelled, trees)

  pub as_fixed : (vs : List Value) (x w : List ℕ) → DetSeq order vs x → IsPlainText x w → IsFixedText x w
  as_fixed vs x w h1 h2 = grind (arith, plain, plain_is, shown, spelled, trees)
