-- An input holds one list of items, and these are valid and no deeper than the limit.
use Rattle.std.specs.Prelude.{◌≡◌, ◌≤◌, ◌<◌, ◌^◌, ◌∷◌}
use Rattle.cborn_engine.proofs.Common.{ℕ, List, [], length, sym, ap, ◌∙◌, subst, arith, AllZip, AllByRecursion, Tree, trees, depth_all, spelled_all, spelled, FitsAll, Value, values_of, Same, IsProper, Means, Profile, unplaced_all, Kind, Spells, SpellsInPlace, Holds, IsNotation, turned_zip, same_itself, same_turned, one_notation, same_meaning, all_mean, zip_mean, means_once, meaning_valid, meaning_shallow, left, right}
use Rattle.cborn_model.proofs.Listed.Trees.{trees-injective}
use Rattle.cborn_engine.proofs.Held.ReadsBack.{AreShallow}
use Rattle.cborn_engine.proofs.Held.SameNodes.{same_nodes}

-- a text notates one list of nodes
notates_once : (p : Profile) (limit : ℕ) (input : List ℕ) (ns ms : List Tree) → IsNotation p limit input ns → IsNotation p limit input ms → ns ≡ ms
notates_once p limit input ns ms h g = trees-injective ns ms (one_notation p limit limit input (trees ns) (trees ms) h.1 g.1)

all_mean_once : (ns : List Tree) (vs ws : List Value) → AllZip Means ns vs → AllZip Means ns ws → vs ≡ ws
all_mean_once [] [] [] h g = cc
all_mean_once [] [] (w ∷ ws) h g = absurd g
all_mean_once [] (v ∷ vs) ws h g = absurd h
all_mean_once (n ∷ ns) [] ws h g = absurd h
all_mean_once (n ∷ ns) (v ∷ vs) [] h g = absurd g
all_mean_once (n ∷ ns) (v ∷ vs) (w ∷ ws) h g = λ i. means_once n v w h.0 g.0 i ∷ all_mean_once ns vs ws h.1 g.1 i

-- what is spelled in place is spelled
pub in_place : (k : Kind) (limit : ℕ) (input : List ℕ) (ns : List Tree) → SpellsInPlace k limit input ns → Spells k limit input ns
in_place Kind.Wire limit input ns h = h.0
in_place _ limit input ns h = h

-- an input spells one list of nodes, but for their places
pub unplaced_once : (k : Kind) (limit : ℕ) (input : List ℕ) (ns ms : List Tree) → Spells k limit input ns → Spells k limit input ms → unplaced_all (trees ns) ≡ unplaced_all (trees ms)
unplaced_once Kind.Wire limit input ns ms h g = same_nodes (trees ns) (trees ms) h.fit g.fit (h.spells ∙ sym g.spells)
unplaced_once Kind.Notation limit input ns ms h g = ap (λ (us : List Tree). unplaced_all (trees us)) (notates_once Profile.One limit input ns ms h g)
unplaced_once Kind.Notation2 limit input ns ms h g = ap (λ (us : List Tree). unplaced_all (trees us)) (notates_once Profile.Two limit input ns ms h g)

-- nodes that an input spells mean the same items, whatever places they say
pub means_too : (k : Kind) (limit : ℕ) (input : List ℕ) (ns ms : List Tree) (vs : List Value) → Spells k limit input ns → Spells k limit input ms → AllZip Means ns vs → AllZip Means ms vs
means_too k limit input ns ms vs h g m = zip_mean ms vs (same_meaning (trees ns) (trees ms) (unplaced_once k limit input ns ms h g) (values_of vs) (all_mean ns vs m))

-- an input holds one list of items
pub holds_once : (k : Kind) (limit : ℕ) (input : List ℕ) (vs ws : List Value) → Holds k limit input vs → Holds k limit input ws → vs ≡ ws
holds_once k limit input vs ws h1 h2 = grind (arith, all_mean_once, means_too, spelled)

-- what fits, is short and shallow means valid items that are shallow
pub record AreSound (limit : ℕ) (vs : List Value) : Type 0 where
  pub proper : AllByRecursion IsProper vs
  pub shallow : AreShallow limit vs

pub nodes_sound : (limit : ℕ) (ns : List Tree) (vs : List Value) → FitsAll (trees ns) → depth_all (trees ns) ≤ limit → length (spelled_all (trees ns)) < 2 ^ 64 → AllZip Means ns vs → AreSound limit vs
nodes_sound limit [] [] f d l h = record { proper = tt; shallow = tt }
nodes_sound limit (n ∷ ns) (v ∷ vs) f d l h =
    let rest = nodes_sound limit ns vs f.1 (omega (arith, d)) (right (spelled n) (spelled_all (trees ns)) l) h.1 in
    record {
      proper = (meaning_valid n v f.0 (left (spelled n) (spelled_all (trees ns)) l) h.0, rest.proper);
      shallow = (omega (arith, meaning_shallow n v f.0 h.0, d), rest.shallow);
    }
nodes_sound limit _ _ f d l h = absurd h

pub held_is_sound : (limit : ℕ) (input : List ℕ) (vs : List Value) → length input < 2 ^ 64 → Holds Kind.Wire limit input vs → AreSound limit vs
held_is_sound limit input vs l h =
    nodes_sound limit h.nodes vs h.spelled.fit h.spelled.shallow (subst (λ (x : List ℕ). length x < 2 ^ 64) (sym h.spelled.spells) l) h.meant

-- ---- sequences that are the same

pub all_same : (vs : List Value) → AllZip Same vs vs
all_same [] = tt
all_same (v ∷ vs) = (same_itself v, all_same vs)

pub all_turned : (vs ws : List Value) → AllZip Same vs ws → AllZip Same ws vs
all_turned = turned_zip Same Same same_turned
