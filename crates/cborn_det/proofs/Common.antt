-- The names that the proofs of this crate use, each from where it is defined.
pub use Rattle.std.proofs.Common.{Bool, Bor, Decides, Equal, Greater, IsPermutation, IsTrue, Less, List, Ordering, [], add-one, ap, append-nil, append_assoc, arith, drop, drop_at, false, get_or, inl, inr, is_eq, is_lt, length, length-append, length-drop, lit<, ltb, ltb-false, ltb-true, map, refl, rules, subst, suc, sym, take, take_at, true, zero, true≢false, ℕ, ◌∙◌}
pub use Rattle.std.proofs.lemmas.Bool.{cases_lt, cond_both}
pub use Rattle.std.proofs.lemmas.List.{drop_more, length-map, map-append, take-append-drop, take_more}
pub use Rattle.std.proofs.lemmas.List.Elements.{All-from_recursion, recursion_from_All}
pub use Rattle.std.proofs.lemmas.List.Sorted.{IsPermutation-cons, IsPermutation-map, IsPermutation-middle, IsPermutation-refl, IsPermutation-sym, IsPermutation-trans, answers_always, length_permutation, ranks_by, sum_by-IsPermutation}
pub use Rattle.std.specs.List.{AllByRecursion, AllZip, flat_map}
pub use Rattle.std.specs.Ordering.{ordering_reverse}
pub use Rattle.std.specs.Prelude.{Err, IsErr, MatchResult, Ok, Result, ⊤}
pub use Rattle.cborn_model.proofs.Listed.Values.{height_of_item, height_of_pair, listed-pairs_of, pair_count-pairs_of, pair_height, value_count-values_of}
pub use Rattle.cborn_model.proofs.Numbers.OneHead.{append_same, least_holds, one_head}
pub use Rattle.cborn_model.proofs.Numbers.OneMagnitude.{below_power, fewer, one_magnitude, one_number}
pub use Rattle.cborn_model.proofs.SameItems.Rearranging.{All_moved, AreIn, IsIn, are_in_moved, at_member, both, carried, carried_left, weaker}
pub use Rattle.cborn_model.specs.Bytes.{AreBytes, IsShortest, big_endian}
pub use Rattle.cborn_model.specs.Heads.{EndlessArgument, Given, IsHead, IsLeastHead, WidthFits, argument, following, head, information, least}
pub use Rattle.cborn_model.specs.ItemView.{item_value, pair_value}
pub use Rattle.cborn_model.specs.Orders.{IsKeyOrder, Rising}
pub use Rattle.cborn_model.specs.Valid.{AreProper, HasNewKeys, HasProperPairs, IsNew, IsProper}
pub use Rattle.cborn_model.specs.Value.{Couples, Same, SamePairs, SameValues, Value, Values, array, bytes, dict, height, height_all, height_pairs, integer, listed, no_pairs, no_values, number, pair, pair_count, pairs_of, simple, tagged, text, value, value_count, values_of}
pub use Rattle.cborn_model.specs.declared.heads.Width.{Width}
pub use Rattle.cborn_det.specs.Appending.{Appends}
pub use Rattle.cborn_det.specs.Det.{Det, DetMap, DetPairs, DetSeq, DetValues, Entry, IsInteger, IsString, bignum_tag, joined, keys, major_of}
pub use Rattle.cborn_det.specs.devices.Writing.{AppendsPair, BeginsWith, IsWritten, entries_of, lengths_of}
pub use Rattle.cborn_det.specs.shared.Distinct.{HasDistinctKeys}
