use Rattle.std.specs.Prelude.{◌↔◌}
use Rattle.cborn_model.proofs.Common.{map, length, pair_value, pairs_of, HasNewKeys, HasProperPairs}
use Rattle.cborn_model.proofs.validity.has_new_keys.Given as goal

abbrev pub invariant-loop-rest : goal.invariant-loop-rest
invariant-loop-rest l = record {
  proper : HasProperPairs (pairs_of (map pair_value l.rest));
  new : HasNewKeys (pairs_of (map pair_value l.rest)) ↔ HasNewKeys (pairs_of (map pair_value l.pairs));
}

abbrev pub decreases-loop-rest : goal.decreases-loop-rest
decreases-loop-rest l = length l.rest
