-- Bytes hold one list of items, and each encoding of them holds the same items.
use Rattle.std.specs.Prelude.{◌≡◌, ◌≤◌, ◌↔◌, ◌∷◌, ◌++◌}
use Rattle.cborn_engine.proofs.Common.{ℕ, max, List, [], refl, sym, ap, ◌∙◌, subst, arith, Ordering, AllZip, IsKeyOrder, Tree, Trees, no_item, more, trees, depth_all, Wellformed, FitsAll, spelled_all, Value, Values, no_values, value, values_of, Same, SameValues, Means, AllMean, DetSeq, DetValues, Kind, IsCanonical, Holds, IsEncoded, IsWrittenAs, seq_of_one, one_of_seq, values_of_seq, seq_of_values, seq_append, tree_list, trees-tree_list, trees-append, spelled_all-append, all_mean, zip_mean, BytesHold}
use Rattle.cborn_judge.proofs.Loops.{zip_append}
use Rattle.cborn_engine.proofs.Canonical.Canonicity.{same_encoded}
use Rattle.cborn_engine.proofs.Canonical.Proper.{sequence_proper, sequence_shallow}
use Rattle.cborn_engine.proofs.Held.Meant.{AreSound, holds_once, all_turned}
use Rattle.cborn_engine.proofs.Held.ReadsBack.{sequence_back}

-- ---- nodes after others

fits_append : (ts us : List Tree) → FitsAll (trees ts) → FitsAll (trees us) → FitsAll (trees (ts ++ us))
fits_append [] us f g = g
fits_append (t ∷ ts) us f g = (f.0, fits_append ts us f.1 g)

depth_append : (ts us : List Tree) (d : ℕ) → depth_all (trees ts) ≤ d → depth_all (trees us) ≤ d → depth_all (trees (ts ++ us)) ≤ d
depth_append [] us d f g = g
depth_append (t ∷ ts) us d f g = omega (arith, depth_append ts us d (omega (arith, f)) g, f)

-- ---- lists, as the contents of an array

abbrev pub value_list : Values → List Value
value_list no_values = []
value_list (value v vs) = v ∷ value_list vs

values-listed : (vs : Values) → values_of (value_list vs) ≡ vs
values-listed no_values = refl
values-listed (value v vs) = ap (value v) (values-listed vs)

mean_listed : (ts : Trees) (vs : Values) → AllMean ts vs → AllZip Means (tree_list ts) (value_list vs)
mean_listed no_item no_values h = tt
mean_listed (more t ts) (value v vs) h = (h.0, mean_listed ts vs h.1)
mean_listed _ _ h = absurd h

same_listed : (vs ws : Values) → SameValues vs ws → AllZip Same (value_list vs) (value_list ws)
same_listed no_values no_values h = tt
same_listed (value v vs) (value w ws) h = (h.0, same_listed vs ws h.1)
same_listed _ _ h = absurd h

same_of : (vs : Values) (ws : List Value) → AllZip Same (value_list vs) ws → SameValues vs (values_of ws)
same_of no_values [] h = tt
same_of (value v vs) (w ∷ ws) h = (h.0, same_of vs ws h.1)
same_of _ _ h = absurd h

same_values : (vs ws : Values) → AllZip Same (value_list vs) (value_list ws) → SameValues vs ws
same_values vs ws h = subst (SameValues vs) (values-listed ws) (same_of vs (value_list ws) h)

-- ---- what an input of bytes holds, its bytes hold

pub bytes_hold : (limit : ℕ) (x : List ℕ) (vs : List Value) → Holds Kind.Wire limit x vs → BytesHold x (values_of vs)
bytes_hold limit x vs h = record { nodes = trees h.nodes; fit = h.spelled.fit; spelled = h.spelled.spells; meant = all_mean h.nodes vs h.meant }

nodes_read : (limit : ℕ) (x : List ℕ) (vs : Values) (b : BytesHold x vs) → depth_all (trees (tree_list b.nodes)) ≤ limit → Wellformed limit (trees (tree_list b.nodes)) x
nodes_read limit x vs b h1 = grind (arith, spelled_all, tree_list, trees, trees-tree_list)

pub as_input : (limit : ℕ) (x : List ℕ) (vs : Values) (b : BytesHold x vs) → depth_all (trees (tree_list b.nodes)) ≤ limit → Holds Kind.Wire limit x (value_list vs)
as_input limit x vs b l = record { nodes = tree_list b.nodes; spelled = nodes_read limit x vs b l; meant = mean_listed b.nodes vs b.meant }

pub held_within : (x : List ℕ) (vs : List Value) → BytesHold x (values_of vs) → (limit : ℕ) × Holds Kind.Wire limit x vs
held_within x vs b =
    let limit : ℕ = depth_all (trees (tree_list b.nodes)) in
    let same : trees (tree_list b.nodes) ≡ b.nodes = trees-tree_list b.nodes in
    (limit, record { nodes = tree_list b.nodes; spelled = nodes_read limit x (values_of vs) b (omega arith); meant = zip_mean (tree_list b.nodes) vs (subst (λ (ts : Trees). AllMean ts (values_of vs)) (sym same) b.meant) })

pub items_once : (x : List ℕ) (vs ws : Values) → BytesHold x vs → BytesHold x ws → vs ≡ ws
items_once x vs ws a b =
    let limit : ℕ = max (depth_all (trees (tree_list a.nodes))) (depth_all (trees (tree_list b.nodes))) in
    let once : value_list vs ≡ value_list ws = holds_once Kind.Wire limit x (value_list vs) (value_list ws) (as_input limit x vs a (omega arith)) (as_input limit x ws b (omega arith)) in
    sym (values-listed vs) ∙ ap values_of once ∙ values-listed ws

module _ (order : List ℕ → List ℕ → Ordering) where
  pub det_listed : (vs : Values) (x : List ℕ) → DetValues order vs x → DetSeq order (value_list vs) x
  det_listed vs x d = seq_of_values order (value_list vs) x (subst (λ (us : Values). DetValues order us x) (sym (values-listed vs)) d)

  -- what has an encoding is valid
  sound : (limit : ℕ) (x v : List ℕ) (vs : List Value) → Holds Kind.Wire limit x vs → DetSeq order vs v → AreSound limit vs
  sound limit x v vs a d = record { proper = sequence_proper order a.nodes vs v a.spelled.fit a.meant d; shallow = sequence_shallow limit a.nodes vs a.spelled.fit a.spelled.shallow a.meant }

  pub canonical_bytes : (limit : ℕ) (x v : List ℕ) → IsCanonical order Kind.Wire Kind.Wire limit x v → (vs : Values) × BytesHold x vs × DetValues order vs v
  canonical_bytes limit x v c = (values_of c.items, bytes_hold limit x c.items c.held, values_of_seq order c.items v c.written)

  pub encoded_bytes : (k out : Kind) (limit : ℕ) (x bytes output : List ℕ) → IsEncoded order k limit x bytes → IsWrittenAs out bytes output → k ≡ Kind.Wire → out ≡ Kind.Wire → (vs : Values) × BytesHold x vs × DetValues order vs output
  encoded_bytes Kind.Wire Kind.Wire limit x bytes output e w p q = canonical_bytes limit x output (record { items = e.items; held = e.held; written = subst (DetSeq order e.items) (sym w) e.encoded })
  encoded_bytes Kind.Wire _ limit x bytes output e w p q = absurd cc
  encoded_bytes _ out limit x bytes output e w p q = absurd cc

  module _ (laws : IsKeyOrder order) where
    pub bytes_alike : (x y v w : List ℕ) (vs ws : Values) → BytesHold x vs → BytesHold y ws → DetValues order vs v → DetValues order ws w → (v ≡ w) ↔ SameValues vs ws
    bytes_alike x y v w vs ws a b d e =
        let m : ℕ = depth_all (trees (tree_list a.nodes)) in
        let n : ℕ = depth_all (trees (tree_list b.nodes)) in
        let f = det_listed vs v d in
        let g = det_listed ws w e in
        let p = (sound m x v (value_list vs) (as_input m x vs a (omega arith)) f).proper in
        let q = (sound n y w (value_list ws) (as_input n y ws b (omega arith)) g).proper in (
          λ h. same_values vs ws (seq_of_one order laws (value_list vs) (value_list ws) v p q f (subst (DetSeq order (value_list ws)) (sym h) g)),
          λ s. one_of_seq order laws (value_list vs) (value_list ws) v w p q (same_listed vs ws s) f g,
        )

    pub bytes_again : (x v : List ℕ) (vs : Values) → BytesHold x vs → DetValues order vs v → (ws : Values) × BytesHold v ws × SameValues vs ws × DetValues order ws v
    bytes_again x v vs a d =
        let m : ℕ = depth_all (trees (tree_list a.nodes)) in
        let f = det_listed vs v d in
        let s = sound m x v (value_list vs) (as_input m x vs a (omega arith)) f in
        let back = sequence_back order laws m 0 (value_list vs) v s.proper s.shallow f in
        let same = all_turned back.items (value_list vs) back.same in (
          values_of back.items,
          record { nodes = trees back.nodes; fit = back.fits; spelled = back.spells; meant = all_mean back.nodes back.items back.mean },
          same_of vs back.items same,
          values_of_seq order back.items v (same_encoded order laws (value_list vs) back.items v s.proper back.proper f same),
        )

  -- ---- one input after another

  pub joined : (limit : ℕ) (x y v w : List ℕ) → IsCanonical order Kind.Wire Kind.Wire limit x v → IsCanonical order Kind.Wire Kind.Wire limit y w → IsCanonical order Kind.Wire Kind.Wire limit (x ++ y) (v ++ w)
  joined limit x y v w a b =
      let ts = a.held.nodes in
      let us = b.held.nodes in
      let first = a.held.spelled in
      let last = b.held.spelled in
      record {
        items = a.items ++ b.items;
        held = record {
          nodes = ts ++ us;
          spelled = record {
            spells = ap spelled_all (trees-append ts us) ∙ spelled_all-append (trees ts) (trees us) ∙ (λ i. first.spells i ++ last.spells i);
            fit = fits_append ts us first.fit last.fit;
            shallow = depth_append ts us limit first.shallow last.shallow;
          };
          meant = zip_append Means ts a.items us b.items a.held.meant b.held.meant;
        };
        written = seq_append order a.items b.items v w a.written b.written;
      }
