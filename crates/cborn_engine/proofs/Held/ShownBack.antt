-- What is shown of an input is one text, and is itself shown as the bytes that it was shown of.
use Rattle.std.specs.Prelude.{◌≡◌}
use Rattle.cborn_engine.proofs.Common.{arith, ℕ, List, sym, ap, ◌∙◌, subst, Tree, trees, spelled_all, Profile, Notates, Shown, unplaced_all, listed_trees, trees-listed, Kind, IsNotation, Spells, IsShown, IsSpelledAs, shown_back, same_bytes, same_text}
use Rattle.cborn_engine.proofs.Held.Meant.{unplaced_once}

-- a text that was shown of bytes notates nodes that spell them
record NotatesBytes (p : Profile) (limit : ℕ) (text bytes : List ℕ) : Type 0 where
  nodes : List Tree
  notated : IsNotation p limit text nodes
  spelled : bytes ≡ spelled_all (trees nodes)

text_back : (p : Profile) (limit : ℕ) (x text : List ℕ) (ns : List Tree) → Spells Kind.Wire limit x ns → Shown (trees ns) text → NotatesBytes p limit text x
text_back p limit x text ns s t =
    let back = shown_back p limit (trees ns) text s.fit t s.shallow in
    let listed : trees (listed_trees back.0) ≡ back.0 = trees-listed back.0 in
    record {
      nodes = listed_trees back.0;
      notated = (t.0, subst (Notates p limit text) (sym listed) back.1);
      spelled = sym s.spells ∙ sym back.3 ∙ ap spelled_all (sym listed);
    }

pub shown_as_bytes : (out : Kind) (limit : ℕ) (x v : List ℕ) → IsShown Kind.Wire out limit x v → IsShown out Kind.Wire limit v x
shown_as_bytes Kind.Wire limit x v s =
    let same : x ≡ v = sym s.spelled.spells ∙ sym s.shown in
    record { nodes = s.nodes; spelled = subst (λ (y : List ℕ). Spells Kind.Wire limit y s.nodes) same s.spelled; shown = sym s.spelled.spells }
shown_as_bytes Kind.Notation limit x v s = let t = text_back Profile.One limit x v s.nodes s.spelled s.shown in record { nodes = t.nodes; spelled = t.notated; shown = t.spelled }
shown_as_bytes Kind.Notation2 limit x v s = let t = text_back Profile.Two limit x v s.nodes s.spelled s.shown in record { nodes = t.nodes; spelled = t.notated; shown = t.spelled }

-- nodes that are one, but for their places, are shown as one
one_telling : (out : Kind) (ns ms : List Tree) (v w : List ℕ) → unplaced_all (trees ns) ≡ unplaced_all (trees ms) → IsSpelledAs out ns v → IsSpelledAs out ms w → v ≡ w
one_telling out ns ms v w h1 h2 h3 = grind (arith, same_bytes, same_text, trees)

pub shown_once : (k out : Kind) (limit : ℕ) (x v w : List ℕ) → IsShown k out limit x v → IsShown k out limit x w → v ≡ w
shown_once k out limit x v w s t = one_telling out s.nodes t.nodes v w (unplaced_once k limit x s.nodes t.nodes s.spelled t.spelled) s.shown t.shown
