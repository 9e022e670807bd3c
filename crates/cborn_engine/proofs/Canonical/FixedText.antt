-- Bytes have one text in the fixed notation, and it reads back as what the bytes hold.
use Rattle.std.specs.Prelude.{◌≡◌, ◌≤◌}
use Rattle.cborn_engine.proofs.Common.{ℕ, List, sym, ◌∙◌, subst, arith, AllZip, Tree, Trees, trees, depth_all, spelled_all, FitsAll, Value, values_of, Means, AllMean, Profile, Notates, unplaced_all, listed_trees, trees-listed, IsNotation, IsFixedText, shown_back, shown_only, same_text, same_depth, same_meaning, all_mean, zip_mean}
use Rattle.cborn_engine.proofs.Held.SameNodes.{same_nodes}

-- bytes have one text
pub text_once : (x v w : List ℕ) → IsFixedText x v → IsFixedText x w → v ≡ w
text_once x v w h1 h2 = grind (arith, same_nodes, same_text, trees)

-- a text is that of one list of bytes
pub bytes_once : (x y w : List ℕ) → IsFixedText x w → IsFixedText y w → x ≡ y
bytes_once x y w h k =
    let deep : ℕ = depth_all (trees h.nodes) in
    let back = shown_back Profile.One deep (trees h.nodes) w h.fit h.shown (omega arith) in
    let only = shown_only Profile.One deep (trees k.nodes) w back.0 k.fit k.shown back.1 in
    sym h.spelled ∙ sym back.3 ∙ only.1 ∙ k.spelled

-- the text of bytes that spell these nodes notates nodes that mean the same items
pub record NotatesItems (p : Profile) (limit : ℕ) (text : List ℕ) (items : List Value) : Type 0 where
  pub nodes : List Tree
  pub notated : IsNotation p limit text nodes
  pub mean : AllZip Means nodes items

pub text_back : (p : Profile) (limit : ℕ) (x text : List ℕ) (ns : List Tree) (items : List Value) → FitsAll (trees ns) → depth_all (trees ns) ≤ limit → spelled_all (trees ns) ≡ x → AllZip Means ns items → IsFixedText x text → NotatesItems p limit text items
text_back p limit x text ns items fit shallow spelled mean t =
    let same : unplaced_all (trees t.nodes) ≡ unplaced_all (trees ns) = same_nodes (trees t.nodes) (trees ns) t.fit fit (t.spelled ∙ sym spelled) in
    let back = shown_back p limit (trees t.nodes) text t.fit t.shown (omega (arith, same_depth (trees t.nodes) (trees ns) same, shallow)) in
    let listed : trees (listed_trees back.0) ≡ back.0 = trees-listed back.0 in
    let means : AllMean back.0 (values_of items) = same_meaning (trees ns) back.0 (sym (back.2 ∙ same)) (values_of items) (all_mean ns items mean) in
    record {
      nodes = listed_trees back.0;
      notated = (t.shown.0, subst (Notates p limit text) (sym listed) back.1);
      mean = zip_mean (listed_trees back.0) items (subst (λ (ts : Trees). AllMean ts (values_of items)) (sym listed) means);
    }
