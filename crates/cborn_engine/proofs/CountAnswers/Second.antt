-- Where the second item of an input starts: where the first ends.
use Rattle.std.specs.Prelude.{◌≡◌, ◌≢◌, ◌+◌, ◌≤◌, ◌∷◌, ◌++◌}
use Rattle.cborn_judge.proofs.Meaning.Placing.{placed_at}
use Rattle.cborn_engine.proofs.Common.{refl, ap, ◌∙◌, subst, ℕ, List, [], length, drop, arith, length-append, map, slice_get, is_some, Tree, ByteChunks, TextChunks, Items, Pairs, Tagged, Trees, no_item, more, trees, place, depth, Placed, spelled, spelled_all, Fits, Wellformed, all_from, Profile, kind_of, IsNotation, Spells, SpellsInPlace, SpellsOne, SecondStarts, listed_reading, tree_list, some_bytes, one_front, Kind, length-drop, Some, None, true, false}
use Rattle.cborn_engine.proofs.Answers.{spells}
use Rattle.cborn_wire.specs.Reading.{IsFirstItem}

-- ---- bytes

-- the first item of x ends there
abbrev pub Ends : List ℕ → ℕ → Type 0
Ends x end = (t : Tree) × IsFirstItem 1024 0 t x (drop end x)

-- the first node, where the first item ends there
record Begins (limit : ℕ) (x : List ℕ) (ns : List Tree) (end : ℕ) : Type 0 where
  first : Tree
  others : List Tree
  are : ns ≡ first ∷ others
  long : length (spelled first) ≡ end
  rest : length (spelled_all (trees others)) + end ≡ length x

begins : (limit : ℕ) (x : List ℕ) (ns : List Tree) (end : ℕ) → Wellformed limit (trees ns) x → end ≤ length x → Ends x end → Begins limit x ns end
begins limit x [] end w l (t, f) = absurd (omega (arith, some_bytes t, ap length f.whole, length-append (spelled t) (drop end x), ap length w.spells))
begins limit x (n ∷ ns) end w l (t, f) =
    let same = one_front n t (spelled_all (trees ns)) (drop end x) w.fit.0 f.fits (w.spells ∙ f.whole) in
    let long : length (spelled n) ≡ end = omega (arith, ap length same.0, ap length f.whole, length-append (spelled t) (drop end x), length-drop end x, l) in
    record { first = n; others = ns; are = refl; long = long; rest = omega (arith, ap length w.spells, length-append (spelled n) (spelled_all (trees ns)), long) }

no_more : (ns : List Tree) → length (spelled_all (trees ns)) ≡ 0 → ns ≡ []
no_more [] e = refl
no_more (n ∷ ns) e = absurd (omega (arith, e, some_bytes n, length-append (spelled n) (spelled_all (trees ns))))

-- ..and the only one, where it ends at the end
pub alone : (limit : ℕ) (x : List ℕ) (ns : List Tree) (end : ℕ) → Wellformed limit (trees ns) x → end ≤ length x → Ends x end → end ≡ length x → (t : Tree) × (ns ≡ t ∷ [])
alone limit x ns end w l e at =
    let b = begins limit x ns end w l e in
    (b.first, b.are ∙ ap (λ (ts : List Tree). b.first ∷ ts) (no_more b.others (omega (arith, b.rest, at))))

record Follows (ns : List Tree) (end : ℕ) : Type 0 where
  first : Tree
  second : Tree
  others : List Tree
  are : ns ≡ first ∷ second ∷ others
  long : length (spelled first) ≡ end

-- else another follows
follows : (limit : ℕ) (x : List ℕ) (ns : List Tree) (end : ℕ) → Wellformed limit (trees ns) x → end ≤ length x → Ends x end → end ≢ length x → Follows ns end
follows limit x ns end w l e at = let b = begins limit x ns end w l e in go b.first b.others b.are b.long b.rest
  where
    go : (t : Tree) (ts : List Tree) → ns ≡ t ∷ ts → length (spelled t) ≡ end → length (spelled_all (trees ts)) + end ≡ length x → Follows ns end
    go t [] are long rest = absurd (at (omega (arith, rest)))
    go t (u ∷ us) are long rest = record { first = t; second = u; others = us; are = are; long = long }

-- nodes in their places
pub in_places : (limit : ℕ) (ns : List Tree) (x : List ℕ) → Wellformed limit (trees ns) x → (ms : List Tree) × SpellsInPlace Kind.Wire limit x ms
in_places limit ns x w = (tree_list (all_from 0 (trees ns)), listed_reading limit 0 (trees ns) x w)

pub second_in_bytes : (limit : ℕ) (x : List ℕ) (ns : List Tree) (end : ℕ) → Wellformed limit (trees ns) x → end ≤ length x → Ends x end → end ≢ length x → SecondStarts Kind.Wire limit x end
second_in_bytes limit x ns end w l e at =
    let m = in_places limit ns x w in
    let f = follows limit x m.0 end m.1.0 l e at in
    let spelled : SpellsInPlace Kind.Wire limit x (f.first ∷ f.second ∷ f.others) = subst (SpellsInPlace Kind.Wire limit x) f.are m.1 in
    record { first = f.first; second = f.second; rest = f.others; spelled = spelled; here = omega (arith, placed_at f.second _ spelled.1.1.0, f.long) }

-- Well-formed bytes that don't begin with an item hold none.
pub none_first : (limit : ℕ) (x : List ℕ) (ts : Trees) → limit ≤ 1024 → Wellformed limit ts x → ((t : Tree) (rest : List ℕ) → x ≡ spelled t ++ rest → Fits t → depth t ≤ 1024 → ⊥) → ts ≡ no_item
none_first limit x ts h1 h2 h3 = grind (arith, more, no_item, spelled_all, spells)

pub none_in_bytes : (limit : ℕ) (x : List ℕ) (ns : List Tree) → Wellformed limit (trees ns) x → trees ns ≡ no_item → Spells Kind.Wire limit x [] × (length x ≡ 0)
none_in_bytes limit x ns h1 h2 = grind (arith, length, no_item, spells)

pub one_in_bytes : (limit : ℕ) (x : List ℕ) (ns : List Tree) (end : ℕ) → Wellformed limit (trees ns) x → end ≤ length x → Ends x end → end ≡ length x → SpellsOne Kind.Wire limit x
one_in_bytes limit x ns end w l e at = let a = alone limit x ns end w l e at in (a.0, subst (Spells Kind.Wire limit x) a.1 w)

-- ---- a text

notated_there : (p : Profile) (limit : ℕ) (x : List ℕ) (ns : List Tree) → IsNotation p limit x ns → SpellsInPlace (kind_of p) limit x ns
notated_there Profile.One limit x ns h = h
notated_there Profile.Two limit x ns h = h

module _ (p : Profile) (limit : ℕ) (text : List ℕ) where
  pub none_in_text : (ns : List Tree) → IsNotation p limit text ns → is_some (slice_get (map place ns) 0) ≡ false → Spells (kind_of p) limit text []
  none_in_text [] h e = spells p limit text [] h
  none_in_text (n ∷ ns) h e = cc

  pub one_in_text : (ns : List Tree) → IsNotation p limit text ns → is_some (slice_get (map place ns) 0) ≡ true → slice_get (map place ns) 1 ≡ None → SpellsOne (kind_of p) limit text
  one_in_text (n ∷ []) h e f = (n, spells p limit text (n ∷ []) h)
  one_in_text _ h e f = cc

  pub second_in_text : (ns : List Tree) (q : ℕ) → IsNotation p limit text ns → slice_get (map place ns) 1 ≡ Some q → SecondStarts (kind_of p) limit text q
  second_in_text (n ∷ m ∷ ns) q h e = record { first = n; second = m; rest = ns; spelled = notated_there p limit text (n ∷ m ∷ ns) h; here = let is : Some (place m) ≡ Some q = e in cc }
  second_in_text _ q h e = cc
