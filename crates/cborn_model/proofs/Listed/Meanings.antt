-- What the nodes of a sequence mean, in std's words.
use Rattle.std.specs.Prelude.{◌∷◌}
use Rattle.cborn_model.proofs.Common.{List, [], AllZip, AllByRecursion, Tree, trees, IsProper, AreProper, Value, Values, no_values, value, values_of}
use Rattle.cborn_model.specs.Meaning.{Means, AllMean}

-- what nodes mean one by one they mean in order
pub all_mean : (ts : List Tree) (vs : List Value) → AllZip Means ts vs → AllMean (trees ts) (values_of vs)
all_mean [] [] h = tt
all_mean (t ∷ ts) (v ∷ vs) h = (h.0, all_mean ts vs h.1)
all_mean _ _ h = absurd h

pub zip_mean : (ts : List Tree) (vs : List Value) → AllMean (trees ts) (values_of vs) → AllZip Means ts vs
zip_mean [] [] h = tt
zip_mean (t ∷ ts) (v ∷ vs) h = (h.0, zip_mean ts vs h.1)
zip_mean _ _ h = absurd h

pub each_means : (ts : List Tree) (vs : Values) → AllMean (trees ts) vs → (ws : List Value) × AllZip Means ts ws
each_means [] vs h = ([], tt)
each_means (t ∷ ts) no_values h = absurd h
each_means (t ∷ ts) (value v vs) h = let (ws, m) = each_means ts vs h.1 in (v ∷ ws, (h.0, m))

pub are_proper : (vs : List Value) → AllByRecursion IsProper vs → AreProper (values_of vs)
are_proper [] h = tt
are_proper (v ∷ vs) h = (h.0, are_proper vs h.1)
