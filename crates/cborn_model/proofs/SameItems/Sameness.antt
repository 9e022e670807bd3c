-- To be the same is an equivalence.
use Rattle.std.specs.Prelude.{◌∷◌}
use Rattle.cborn_model.proofs.Common.{List, [], refl, sym, ◌∙◌, AllZip, IsPermutation-refl, IsPermutation-sym, IsPermutation-trans, Value, Values, Couples, integer, bytes, text, array, dict, tagged, simple, no_values, value, no_pairs, pair, listed, Same, SameValues, SamePairs}
use Rattle.cborn_model.proofs.SameItems.Rearranging.{carried_left}

mutual
  pub same_itself : (a : Value) → Same a a
  same_itself (array vs) = values_same vs
  same_itself (dict ps) = (listed ps, IsPermutation-refl (listed ps), pairs_same ps)
  same_itself (tagged t v) = (refl, same_itself v)
  same_itself _ = refl

  pub values_same : (vs : Values) → SameValues vs vs
  values_same no_values = tt
  values_same (value v vs) = (same_itself v, values_same vs)

  pairs_same : (ps : Couples) → SamePairs ps (listed ps)
  pairs_same no_pairs = tt
  pairs_same (pair k v ps) = (same_itself k, same_itself v, pairs_same ps)

-- two pairs whose keys and values are the same
abbrev pub SamePair : Value × Value → Value × Value → Type 0
SamePair p q = Same p.0 q.0 × Same p.1 q.1

pub zip_from_pairs : (ps : Couples) (rs : List (Value × Value)) → SamePairs ps rs → AllZip SamePair (listed ps) rs
zip_from_pairs no_pairs [] h = tt
zip_from_pairs (pair k v ps) (r ∷ rs) h = ((h.0, h.1), zip_from_pairs ps rs h.2)
zip_from_pairs _ _ h = absurd h

pub pairs_from_zip : (ps : Couples) (rs : List (Value × Value)) → AllZip SamePair (listed ps) rs → SamePairs ps rs
pairs_from_zip no_pairs [] h = tt
pairs_from_zip (pair k v ps) (r ∷ rs) h = (h.0.0, h.0.1, pairs_from_zip ps rs h.1)
pairs_from_zip _ _ h = absurd h

mutual
  pub same_turned : (a b : Value) → Same a b → Same b a
  same_turned (integer s m) (integer t n) h = sym h
  same_turned (bytes b) (bytes c) h = sym h
  same_turned (text b) (text c) h = sym h
  same_turned (array vs) (array ws) h = values_turned vs ws h
  same_turned (dict ps) (dict qs) h =
      let t = carried_left SamePair h.0 (listed qs) (listed ps) (pairs_turned ps h.0 h.2) (IsPermutation-sym (listed qs) h.0 h.1) in
      (t.0, t.1, pairs_from_zip qs t.0 t.2)
  same_turned (tagged t v) (tagged u w) h = (sym h.0, same_turned v w h.1)
  same_turned (simple n) (simple m) h = sym h
  same_turned _ _ h = absurd h

  pub values_turned : (vs ws : Values) → SameValues vs ws → SameValues ws vs
  values_turned no_values no_values h = tt
  values_turned (value v vs) (value w ws) h = (same_turned v w h.0, values_turned vs ws h.1)
  values_turned _ _ h = absurd h

  pairs_turned : (ps : Couples) (rs : List (Value × Value)) → SamePairs ps rs → AllZip SamePair rs (listed ps)
  pairs_turned no_pairs [] h = tt
  pairs_turned (pair k v ps) (r ∷ rs) h = ((same_turned k r.0 h.0, same_turned v r.1 h.1), pairs_turned ps rs h.2)
  pairs_turned _ _ h = absurd h

mutual
  pub same_chained : (a b c : Value) → Same a b → Same b c → Same a c
  same_chained (integer s m) (integer t n) (integer u o) h k = h ∙ k
  same_chained (bytes b) (bytes c) (bytes d) h k = h ∙ k
  same_chained (text b) (text c) (text d) h k = h ∙ k
  same_chained (array vs) (array ws) (array us) h k = values_chained vs ws us h k
  same_chained (dict ps) (dict qs) (dict us) h k =
      let t = carried_left SamePair (listed qs) h.0 k.0 (zip_from_pairs qs k.0 k.2) h.1 in
      (t.0, IsPermutation-trans (listed us) k.0 t.0 k.1 t.1, pairs_chained ps h.0 t.0 h.2 t.2)
  same_chained (tagged t v) (tagged u w) (tagged r x) h k = (h.0 ∙ k.0, same_chained v w x h.1 k.1)
  same_chained (simple n) (simple m) (simple o) h k = h ∙ k
  same_chained _ _ _ h k = absurd (search (h, k))

  pub values_chained : (vs ws us : Values) → SameValues vs ws → SameValues ws us → SameValues vs us
  values_chained no_values no_values no_values h k = tt
  values_chained (value v vs) (value w ws) (value u us) h k = (same_chained v w u h.0 k.0, values_chained vs ws us h.1 k.1)
  values_chained _ _ _ h k = absurd (search (h, k))

  pairs_chained : (ps : Couples) (rs ts : List (Value × Value)) → SamePairs ps rs → AllZip SamePair rs ts → SamePairs ps ts
  pairs_chained no_pairs [] [] h z = tt
  pairs_chained (pair k v ps) (r ∷ rs) (t ∷ ts) h z = (same_chained k r.0 t.0 h.0 z.0.0, same_chained v r.1 t.1 h.1 z.0.1, pairs_chained ps rs ts h.2 z.1)
  pairs_chained _ _ _ h z = absurd (search (h, z))
