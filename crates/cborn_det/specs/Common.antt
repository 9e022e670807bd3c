-- The names from other crates and from the code that definitions and contracts use, each from where it is defined.
pub use Rattle.std.proofs.Common.{Bor}
pub use Rattle.std.specs.List.{AllByRecursion, AllZip}
pub use Rattle.std.specs.Prelude.{All, Bool, IfOk, IsPermutation, IsTrue, List, MatchResult, OnErr, OnOk, Result, [], drop, false, flat_map, length, map, take, true, ℕ, ⊤}
pub use Rattle.std.specs.declared.cmp.Ordering.{Ordering}
pub use Rattle.cborn_model.specs.Bytes.{big_endian}
pub use Rattle.cborn_model.specs.Heads.{IsLeastHead, code, is_simple_value}
pub use Rattle.cborn_model.specs.Orders.{Rising}
pub use Rattle.cborn_model.specs.Valid.{AreProper, HasNewKeys, HasProperPairs, IsProper}
pub use Rattle.cborn_model.specs.Value.{Couples, Same, Value, Values, array, bytes, dict, integer, listed, no_pairs, no_values, pair, pair_count, pairs_of, simple, tagged, text, value, value_count, values_of}
