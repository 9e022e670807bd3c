-- The names that the proofs of this crate use, each from where it is defined.
pub use Rattle.std.proofs.Common.{Bool, Err, IsPermutation, IsTrue, List, MatchOption, None, Ok, OnOk, Option, Result, Some, [], ap, append-nil, arith, cond, drop, false, get_or, inl, inr, leb, length, length-append, length-drop, lit<, ltb, map, max, min, mul-le-mul_right, pow-suc, refl, rules, set, subst, suc, sym, take, true, w16, w32, w64, w8, zero, ℕ, ◌∙◌}
pub use Rattle.std.proofs.Math.Nat.{pow-le-pow_right}
pub use Rattle.std.proofs.lemmas.Bool.{and_parts, cases_lt, le-leb, le-ltb, leb-true, lt-ltb, ltb-true, or_cases}
pub use Rattle.std.proofs.lemmas.List.{drop_more, get_or_default, length-map, length-take, map-append, take_all, take_more}
pub use Rattle.std.proofs.lemmas.List.Sorted.{All-permutation, IsPermutation-cons, IsPermutation-map, IsPermutation-middle, IsPermutation-refl, IsPermutation-sym, IsPermutation-trans, length_permutation}
pub use Rattle.std.specs.List.{AllByRecursion, AllZip, flat_map, swap}
pub use Rattle.std.specs.Option.{is_some, option_to_list}
pub use Rattle.cborn_model.specs.Bytes.{AreBytes, IsShortest, big_endian}
pub use Rattle.cborn_model.specs.First.{IsFirst, NoLater}
pub use Rattle.cborn_model.specs.Heads.{IsHead, SizeFits, WidthFits, code, following, information, is_simple_value, least, major_at}
pub use Rattle.cborn_model.specs.ItemView.{item_value, pair_value}
pub use Rattle.cborn_model.specs.Partial.{AreStrings, Ends, IsAll, IsFree, IsMore, IsString, Opening, Partial, Proper, TakesString, a_map, an_array, built, chunk_of, chunks_of, chunks_tree, in_chunks, inside, last_key, no_part, paired, put}
pub use Rattle.cborn_model.specs.Spelled.{ChunksFit, Fits, FitsAll, FitsEntries, spelled, spelled_all, spelled_entries}
pub use Rattle.cborn_model.specs.Tree.{Bytes, Items, Pairs, Text, Tree, count, count_entries, depth, depth_all, depth_entries, entries, trees}
pub use Rattle.cborn_model.specs.Valid.{AreProper, HasNewKeys, HasProperPairs, IsNew, IsProper, pairs_depth, value_depth, values_depth}
pub use Rattle.cborn_model.specs.Value.{Couples, Same, SamePairs, SameValues, Value, Values, array, bytes, dict, height, height_all, height_pairs, integer, listed, no_pairs, no_values, number, pair, pair_count, pairs_of, simple, tagged, text, value, value_count, values_of}
pub use Rattle.cborn_model.specs.declared.heads.Size.{Size}
pub use Rattle.cborn_model.specs.declared.heads.Size.TheVariants.{Endless, Fixed}
pub use Rattle.cborn_model.specs.declared.heads.Width.TheVariants.{Direct, Eight, Four, One, Two}
pub use Rattle.cborn_model.specs.declared.items.Item.{Item}
pub use Rattle.cborn_model.specs.declared.nodes.Chunk.{Chunk}
pub use Rattle.cborn_model.specs.devices.Pairs.{Gives, HasPair}
pub use Rattle.cborn_model.specs.shared.Walks.{count_of, flat, string_of}
