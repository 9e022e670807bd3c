-- The names that the proofs of this crate use, each from where it is defined.
pub use Rattle.std.proofs.Common.{Bool, Err, IfOk, IsErrAnd, List, None, Ok, OnErr, Option, Result, Some, [], add-one, add-zero, ap, append-nil, append_assoc, arith, cond, drop, drop_at, eqb, false, get_or, inl, inr, leb, length, length-append, ltb, map, max, not, refl, rules, set, subst, suc, sym, take, take_at, true, vec_len, zero, zero-add, ℕ, ◌∙◌}
pub use Rattle.std.proofs.Math.Seq.{get_or-append_seam, take-add}
pub use Rattle.std.proofs.lemmas.Bool.{agree_below_at, and_parts, cases_lt, cases_order, cond_both, eqb-true, false≢true, le-leb, le-ltb, leb-false, leb-true, lt-leb, lt-ltb, ltb-false, ltb-true, ne_eqb, not-true}
pub use Rattle.std.proofs.lemmas.List.{append_cancel_left, drop-drop, drop-take, get_or_at, length-drop, length-replicate, length-take, length-take-le, length_push, nil_from_length, set_at, take-append-drop, take-append-le, take-take, take_all, take_more, take_more_set, take_rest}
pub use Rattle.std.proofs.lemmas.Nat.{be_bytes_2, be_bytes_4, be_bytes_8, from_be_bytes-to_be_bytes_2, from_be_bytes-to_be_bytes_4, from_be_bytes-to_be_bytes_8}
pub use Rattle.std.proofs.lemmas.Result.{err_from_is_err_and, on_ok_weaker}
pub use Rattle.std.specs.List.{flat_map}
pub use Rattle.std.specs.Option.{option_to_list, unwrap_or}
pub use Rattle.std.specs.Prelude.{IsTrue, slice_set}
pub use Rattle.cborn_wire.specs.Common.{Accepts, AfterLeaves, Announces, AreBytes, AreComplete, AreFromBytes, AreOpen, AreShortIntegers, AreStrings, Argument, ArgumentFits, Array, AtKey, AtMostOneMore, BadChunk, BadSimple, BeginsHead, ByteChunks, ByteString, Bytes, Chunk, ChunksFit, ChunksPlaced, Direct, Eight, Endless, EndlessArgument, EndlessInformation, EndlessNotAllowed, Ends, EndsHeld, Entries, Failed, FailsAs, Fault, Feeding, Feeds, Fits, FitsAll, FitsEntries, Fixed, FloatLeftOut, Four, Full, Given, GivenHead, Goal, Goes, GoesOn, Ground, Head, HeadFits, HeadReader, Here, HereAt, InArray, Info, IsAll, IsEnded, IsFed, IsFree, IsFresh, IsFrontOfHead, IsGiven, IsHeadOf, IsHeld, IsInput, IsInteger, IsLeaf, IsLeafOf, IsMade, IsMore, IsMoved, IsNoChunkSlot, IsNoString, IsPlacedOpen, IsReached, IsReason, IsShortLeaf, IsShortPair, IsSpelled, IsString, IsWellformed, IsWritten, ItemReader, Items, Keeps, Level, LevelKind, Live, Major, Map, MayBegin, MayEnd, Memory, Missing, Negative, Next, Nint, Nodes, Now, OfBytes, OfText, One, Open, OpenContainer, OpenSpelling, Opening, Other, Pairs, Part, Partial, PartialHead, Placed, PlacedAll, PlacedEntries, Proper, Reads, ReadsHead, ReadsItem, Refused, Refuses, RefusesPiece, Reserved, ReservedInfo, RunsShort, Simple, Size, SizeFits, Slot, SlotRefused, Stands, State, Stops, StringKind, Tag, Tagged, Takes, TakesHead, TakesItem, TakesPiece, TakesRun, TakesString, Text, TextChunks, TextString, TooDeep, Took, Tree, Trees, Truncated, Two, Uint, UnexpectedBreak, Unfinished, Unsigned, VisitFault, Wellformed, Width, WidthFits, WireFault, WireReason, a_map, a_tag, added_depth, after_head, all_from, an_array, announced, announced_nodes, append_trees, argument, argument_of, around, at_none, at_slot, begin_head, beginning, beginnings, begins_low, built, chunk, chunk_bytes, chunks, chunks_from, chunks_of, chunks_tree, code, container, containers_of, content_at, content_len, content_of, count, count_entries, count_in, counted, depth, depth_all, depth_entries, element_or_end, ended, ended_size, ending, ending_of, entries, entries_from, entries_in, entry, finished, flat, following, fresh, front, front_reason, gather, gathered, gathering, head, head_at, head_reason, held, holding, in_chunks, info_at, info_for, information, input_level, inside, is_always_bounded, is_array, is_at_key, is_bad_chunk, is_break, is_chunks, is_container, is_endless_head, is_even, is_float, is_full, is_of_kind, is_one, is_other, is_reserved, is_simple_value, item, judged, key_or_end, kind_at_none, kind_in, last_key, leaf_tree, least, lessened, level_in, level_with, levels, major_at, major_of, may_end, more, needs_item, next_head, no_entry, no_item, no_part, nothing, number, open_depth, open_in, opened, opening, paired, part, partial_bytes, parts_of, pending, place_of, placed_from, plain, put, puts, ready, ready_in, reason_alone, reason_at, reason_of, room_in, run, seen, seen_argument, seen_head, seen_nodes, seen_string, shape, size_in, sized_ending, slot, slot_in, slot_in_map, slot_of, snoc, spelled, spelled_all, spelled_entries, start, state, step, string, string_of, string_tree, text_in, top, trees, unfinished, unless, value, whole, width_bytes, with_head, with_kind, with_part, within, written}
pub use Rattle.std.proofs.lemmas.Bool.Decides.{nat_tests}
pub use Rattle.cborn_model.proofs.Numbers.Simples.{least_direct, least_one, simple_fits, simple_value}
pub use Rattle.std.proofs.lemmas.Grind.{common_steps}
pub use Rattle.cborn_model.proofs.Listed.Trees.{count-trees, count_entries-entries, trees-injective}
pub use Rattle.cborn_model.proofs.HandedOver.{flat_push, paired_with, strings, strings_are}
pub use Rattle.cborn_model.proofs.Bytes.{are_bytes, bytes-append, bytes-left, bytes-right}
pub use Rattle.cborn_model.proofs.Numbers.OneHead.{append_same}
