-- The names that the proofs of this crate use, each from where it is defined.
pub use Rattle.std.proofs.Common.{Bool, Bor, Equal, Err, Greater, IsPermutation, Less, List, None, Ok, OnOk, Option, Ordering, Result, Some, [], add-one, ap, append-nil, append_assoc, arith, cond, drop, drop_at, eqb, false, get_or, inl, inr, is_lt, leb, length, length-append, length-drop, lt-ltb, ltb, map, mul-le-mul_right, nat_lt, not, pow-suc, refl, rules, set, subst, suc, sym, take, take_at, true, true≢false, zero, ℕ, ◌∙◌}
pub use Rattle.std.proofs.Math.Seq.{get_or-append_seam, map-set_same, take-add}
pub use Rattle.std.proofs.lemmas.Bool.{cases_eq, cases_lt, eq-eqb, eqb-true, le-ltb, leb-false, leb-true, ltb-true, not-false, not-true}
pub use Rattle.std.proofs.lemmas.Fn.{always_returns_same}
pub use Rattle.std.proofs.lemmas.List.{drop-drop, drop-map, drop_all, get_or-drop, get_or-map, get_or-set_same, get_or-take, length-map, length-set, length-take, length-take-le, map-append, map-set, places, same_from_push, set_at, take-append-drop, take-map, take-set, take_all, take_more, take_more_set, take_rest, with_items_is}
pub use Rattle.std.proofs.lemmas.List.Elements.{All-append, All-drop, All-from_get_or, All-from_recursion, All-same, All-take, recursion_from_All}
pub use Rattle.std.proofs.lemmas.List.Sorted.{IsPermutation-append_left, IsPermutation-append_right, IsPermutation-map, IsPermutation-refl, IsPermutation-sym, IsPermutation-trans, length_permutation, ranks_by}
pub use Rattle.std.proofs.lemmas.Slice.Zip.{AllZip-long}
pub use Rattle.std.proofs.lemmas.Str.{IsUtf8-append, IsUtf8-from_ascii, IsUtf8-from_is_utf8, IsUtf8-nil, is_utf8-from_IsUtf8}
pub use Rattle.std.specs.Cmp.{IsStrictWeakOrder, nat_cmp_is}
pub use Rattle.std.specs.List.{AllByRecursion, AllZip, IsAllAdjacentAnswer, slice_range}
pub use Rattle.std.specs.List.Sorted.{IsSortedBy}
pub use Rattle.std.specs.Option.{MatchOption, unwrap_or}
pub use Rattle.std.specs.Ordering.{nat_cmp, ordering_reverse, ordering_then}
pub use Rattle.std.specs.Prelude.{IfErr, IfOk, IfSome, IsErr, IsTrue, IsUtf8, flat_map, is_some, ⊤}
pub use Rattle.std.specs.Str.{is_utf8}
pub use Rattle.cborn_det.proofs.Canon.{one_of_same, same_of_one, string_one, tags}
pub use Rattle.cborn_det.proofs.Room.{counted, counted_pairs, holds_below, joined_bytes, length_of_chunks, no_more}
pub use Rattle.cborn_det.proofs.Steps.{seq_append, values_of_seq}
pub use Rattle.cborn_det.proofs.Reading.{some_bytes}
pub use Rattle.cborn_det.specs.Appending.{Appends, Replaces}
pub use Rattle.cborn_det.specs.Det.{Det, DetPairs, DetSeq, DetValues, Entry, IsInteger, IsString, bignum_tag, joined, keys, major_of}
pub use Rattle.cborn_model.proofs.Bytes.{are_bytes, bytes-append, bytes-left, bytes-right}
pub use Rattle.cborn_model.proofs.Firsts.{first_once}
pub use Rattle.cborn_model.proofs.Found.{Either, found_alike, found_both, none_both}
pub use Rattle.cborn_model.proofs.HandedOver.{on_ok, strings_are}
pub use Rattle.cborn_model.proofs.Listed.Trees.{count-trees, count_entries-entries, depth_of_item, depth_of_pair}
pub use Rattle.cborn_model.proofs.Numbers.OneMagnitude.{below_power, fits_in, large, one_magnitude}
pub use Rattle.cborn_model.proofs.Numbers.Simples.{simple_fits}
pub use Rattle.cborn_model.proofs.Numbers.SomeMagnitude.{magnitude_of}
pub use Rattle.cborn_model.proofs.SameItems.Rearranging.{All_moved, IsIn, are_in_moved, at_member}
pub use Rattle.cborn_model.proofs.SameItems.Sameness.{same_itself}
pub use Rattle.cborn_model.specs.Bytes.{AreBytes, IsShortest, big_endian}
pub use Rattle.cborn_model.specs.Earliest.{IsEarliest}
pub use Rattle.cborn_model.specs.First.{IsFirst, NoLater}
pub use Rattle.cborn_model.specs.Heads.{EndlessArgument, Given, IsHead, IsLeastHead, SizeFits, WidthFits, argument, code, following, head, head_bytes, information, is_simple_value, least}
pub use Rattle.cborn_model.specs.ItemView.{item_value, pair_value}
pub use Rattle.cborn_model.specs.Meaning.{AllMean, ChunksAreText, EntriesMean, IsBignum, IsByteString, IsNumber, Means, joined_chunks}
pub use Rattle.cborn_model.specs.Orders.{IsKeyOrder, Rising, bytewise, length_first, order_of}
pub use Rattle.cborn_model.specs.Partial.{AreStrings, Ends, IsAll, IsFree, Opening, Partial, Proper, TakesItem, TakesString, a_map, a_tag, an_array, built, chunk_of, chunks_of, chunks_tree, ended_size, in_chunks, inside, integer_tree, last_of, no_part, paired, put, string_tree, top}
pub use Rattle.cborn_model.specs.Placed.{ChunksPlaced, Placed, PlacedAll, PlacedEntries}
pub use Rattle.cborn_model.specs.Spelled.{Fits, FitsAll, FitsEntries, chunk_bytes, chunks, ending, spelled, spelled_all, spelled_entries}
pub use Rattle.cborn_model.specs.Tree.{ByteChunks, Bytes, Entries, Items, Nint, Pairs, Simple, Tagged, Text, TextChunks, Tree, Trees, Uint, count, count_entries, depth, depth_all, depth_entries, entries, entry, more, no_entry, no_item, place, trees}
pub use Rattle.cborn_model.specs.Valid.{AreProper, HasNewKeys, HasProperPairs, IsNew, IsProper, pairs_depth, value_depth, values_depth}
pub use Rattle.cborn_model.specs.Value.{Couples, Same, Value, Values, array, bytes, dict, integer, no_pairs, no_values, pair, pair_count, pairs_of, simple, tagged, text, value, value_count, values_of}
pub use Rattle.cborn_model.specs.declared.heads.Major.{Major}
pub use Rattle.cborn_model.specs.declared.heads.Major.TheVariants.{Array, ByteString, Map, Negative, Other, Tag, TextString, Unsigned}
pub use Rattle.cborn_model.specs.declared.heads.Size.{Size}
pub use Rattle.cborn_model.specs.declared.heads.Size.TheVariants.{Endless, Fixed}
pub use Rattle.cborn_model.specs.declared.heads.Width.{Width}
pub use Rattle.cborn_model.specs.declared.heads.Width.TheVariants.{Direct, Eight, Four, One, Two}
pub use Rattle.cborn_model.specs.declared.nodes.Chunk.{Chunk}
pub use Rattle.cborn_model.specs.declared.visitors.StringKind.{StringKind}
pub use Rattle.cborn_model.specs.declared.visitors.StringKind.TheVariants.{OfBytes, OfText}
pub use Rattle.cborn_model.specs.shared.Runs.{AreShortIntegers, AtKey, InArray, IsShortLeaf, puts, text_in}
pub use Rattle.cborn_judge.specs.Defects.{ChunksDefect, Defect, DefectAt, Descends, HasDescent, HasLongChunk, IsCheck, IsDeterministic, IsLong, IsLoose, NotAbove, SequenceDefect, SizeDefect}
pub use Rattle.cborn_judge.specs.Departures.{FindsDefect, LongAt, LooseBytesAt}
pub use Rattle.cborn_judge.specs.Flaws.{Flaw, FlawAt, HasBadChunk, HasRepeat, IsFirstFlaw, IsRefusal, IsRefusalOfAll, IsRepeated, IsWord, Within, WithinAll, WithinEntries}
pub use Rattle.cborn_judge.specs.Reasons.{defect_rank, flaw_rank}
pub use Rattle.cborn_judge.specs.declared.defects.Defect.{Defect as SomeDefect}
pub use Rattle.cborn_judge.specs.declared.defects.DefectReason.{DefectReason}
pub use Rattle.cborn_judge.specs.declared.defects.DefectReason.TheVariants.{EndlessLength, KeyOrder, LongHead, LooseBignum}
pub use Rattle.cborn_judge.specs.declared.encoders.Encodings.{Encodings}
pub use Rattle.cborn_judge.specs.declared.encoders.OpenString.{OpenString}
pub use Rattle.cborn_judge.specs.declared.faults.InvalidReason.{InvalidReason}
pub use Rattle.cborn_judge.specs.declared.faults.InvalidReason.TheVariants.{BadBignum, DuplicateKey, NotUtf8}
pub use Rattle.cborn_judge.specs.declared.faults.Flaw.{Flaw as SomeFlaw}
pub use Rattle.cborn_judge.specs.declared.levels.Container.{Container}
pub use Rattle.cborn_judge.specs.declared.levels.Level.{Level}
pub use Rattle.cborn_judge.specs.devices.Building.{IsBignumItem, IsItemOf, IsPairOf}
pub use Rattle.cborn_judge.specs.devices.Encoders.{EndsWell, HasEnded, IsBignumFound, IsChunk, IsChunkContent, IsContent, IsHeld, IsStringFront, StandsAs, StandsIn, Written, kept}
pub use Rattle.cborn_judge.specs.devices.Encoding.{Amid, AreArranged, AreEncodedAs, AreFilled, AreMarked, AreRows, Coded, Contains, Falls, Finds, FindsDescent, HasFall, HasSameKeys, Inner, IsEncodedAs, IsFront, IsHeadFront, IsMarked, IsOpening, IsSameKey, IsSound, Mark, MeansNothing, Opens, OwnDefect, OwnFlaw, Row, RowDescent, RowRepeat, Stands, after, after_items, are_chunks, filled_keys, has_key, head_of, is_chunks, is_odd, kind_major, opened, row_entries, row_entry}
pub use Rattle.cborn_judge.specs.devices.Hints.{Tells, front_of, hint_of, length_hint}
pub use Rattle.cborn_judge.specs.devices.Marks.{AreAllHinted, AreHinted, AreHintedBy, is_above, AreSorted, FallAt, FallsIn, IsFall, IsTie, Keyed, Met, TiesIn, all_keyed, all_marks, between, key_of, keyed, last_filled, last_key, mark_of, mark_order, marks_of, narrow_of, pair_of, remembered, row_of}
pub use Rattle.cborn_judge.specs.shared.Checked.{DefectIn, DefectInAll, DescentAt, IsEarliestDefect, LooseAt, SizeAt}
pub use Rattle.cborn_judge.specs.shared.Judged.{FindsFlaw, FlawIn, IsEarliestFlaw, RepeatFlaw}
pub use Rattle.cborn_judge.specs.shared.Tidy.{AllTidy, EntriesTidy, IsTidy, SizeIsTidy, spelled_pairs}
