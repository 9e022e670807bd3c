-- The names that the proofs of this crate use, each from where it is defined.
pub use Rattle.std.proofs.Common.{Bool, Bor, Decides, Equal, Err, Global, Less, List, None, Ok, Option, Ordering, Result, Some, Vec, [], ap, append-nil, append_assoc, arith, codes, decimal, drop, drop_at, eqb, false, inl, inr, length, length-append, length-drop, ltb, max, not, refl, rules, subst, suc, sym, take, true, zero, ℕ, ◌∙◌}
pub use Rattle.std.proofs.KnownBytes.{Appends-kept, Appends-trans, Consumes-kept, Consumes-trans}
pub use Rattle.std.proofs.Math.Seq.{drop-cons, take-add}
pub use Rattle.std.proofs.lemmas.Bool.{cases_lt, cond-true, eq-eqb, le-ltb, lt-ltb}
pub use Rattle.std.proofs.lemmas.Bool.Decides.{Decides-eqb}
pub use Rattle.std.proofs.lemmas.List.{append_cancel_right, length-take-le, nil_from_length, take-append-drop, take_rest}
pub use Rattle.std.proofs.lemmas.List.Sorted.{length_permutation}
pub use Rattle.std.proofs.lemmas.Slice.Eq.{slice_eq-Decides, strip_prefix_is}
pub use Rattle.std.proofs.lemmas.Str.{is_utf8-from_IsUtf8}
pub use Rattle.std.specs.Cow.{cow_slice_items}
pub use Rattle.std.specs.Io.KnownBytes.{Appends, Consumes, IsAtEnd}
pub use Rattle.std.specs.List.{AllByRecursion, AllZip, flat_map}
pub use Rattle.std.specs.Option.{is_some, unwrap_or}
pub use Rattle.std.specs.Prelude.{IfErr, IfOk, IsTrue, IsUtf8, MatchOption, OnOk, map, slice_get, ⊤}
pub use Rattle.std.specs.Result.{IsErrAnd, is_err}
pub use Rattle.std.specs.Str.{is_utf8}
pub use Rattle.std.specs.declared.borrow.CowSlice.{CowSlice}
pub use Rattle.cborn_det.proofs.Canon.{one_of_same, one_of_seq, same_of_one, seq_exists, seq_of_one}
pub use Rattle.cborn_det.proofs.Rising.{rises_after, rising_tail}
pub use Rattle.cborn_det.proofs.Room.{holds_below, joined_bytes, sequence_room}
pub use Rattle.cborn_det.proofs.Steps.{seq_append, seq_of_values, values_of_seq}
pub use Rattle.cborn_det.specs.Det.{Det, DetPairs, DetSeq, DetValues, Entry, IsInteger, joined, keys}
pub use Rattle.cborn_edn.proofs.RoundTrip.Unplaced.{same_bytes, same_depth, same_meaning}
pub use Rattle.cborn_edn.proofs.Short.Facts.{larger, no_error, no_stop, no_syntax_error, notated_fits, one_notation, shown_back, shown_only}
pub use Rattle.cborn_edn.proofs.Shown.SameText.{same_notation, same_showable, same_text}
pub use Rattle.cborn_edn.specs.Faults.{HasMeaningError, HasSyntaxError, IsNoNotation}
pub use Rattle.cborn_edn.specs.Grammar.{AreChunks, AreItems, ArePairs, ArePieces, IsContent, IsFields, IsItem, IsPiece, IsText, Notates, also, before, byte_piece, chunked, embedded, empty, first, items, last, last_pair, loose, loose_fields, next, no_fields, nothing, number, pair_before, piece, tag, text_piece, tight, tight_fields, word}
pub use Rattle.cborn_edn.specs.ReadingBack.{unplaced, unplaced_all, unplaced_chunks, unplaced_entries}
pub use Rattle.cborn_edn.specs.Shown.{AreShowable, IsBadAmong, IsBadChunk, IsBadInPairs, IsBadText, Shown, escaped, indicator, item_texts, joined_by, mark_for, opened, pair_texts, shown, shown_lines}
pub use Rattle.cborn_edn.specs.ShownBytes.{IsShownText, IsUnshown}
pub use Rattle.cborn_edn.specs.Spelling.{IsSpelling}
pub use Rattle.cborn_edn.specs.declared.faults.EdnFault.{EdnFault}
pub use Rattle.cborn_edn.specs.declared.faults.EdnReason.{EdnReason}
pub use Rattle.cborn_edn.specs.devices.TreesCode.{listed_trees, trees-listed}
pub use Rattle.cborn_judge.proofs.Encoded.Tidying.{det_tidy}
pub use Rattle.cborn_judge.proofs.FirstFlaw.{AreApart, first_refusal, placed_apart}
pub use Rattle.cborn_judge.proofs.Meaning.Judging.{no_flaw, sound_all}
pub use Rattle.cborn_judge.proofs.Meaning.Meanings.{joined_text, left, meaning_shallow, meaning_valid, means_once, right, shortest_below}
pub use Rattle.cborn_judge.specs.Defects.{IsFirstOfSequence, IsLoose, SequenceDefect}
pub use Rattle.cborn_judge.specs.Departures.{FindsDefect}
pub use Rattle.cborn_judge.specs.Flaws.{Flaw, FlawAt, HasBadChunk, HasRepeat, IsRefusalOfAll, IsRepeated, Within, WithinAll, WithinEntries}
pub use Rattle.cborn_judge.specs.declared.encoders.EncodedItems.{EncodedItems}
pub use Rattle.cborn_judge.specs.declared.faults.Invalid.{Invalid}
pub use Rattle.cborn_judge.specs.devices.Encoders.{IsHeld}
pub use Rattle.cborn_judge.specs.shared.Tidy.{AllTidy, EntriesTidy, spelled_pairs}
pub use Rattle.cborn_judge.specs.declared.defects.Defect.{Defect}
pub use Rattle.cborn_judge.specs.declared.faults.InvalidReason.{InvalidReason}
pub use Rattle.cborn_lex.proofs.WholeTexts.Weights.{utf8_bytes}
pub use Rattle.cborn_lex.specs.declared.classes.Profile.{Profile}
pub use Rattle.cborn_lex.specs.declared.faults.LexFault.{LexFault}
pub use Rattle.cborn_model.proofs.Bytes.{are_bytes, bytes-append, bytes-left, bytes-right}
pub use Rattle.cborn_model.proofs.HandedOver.{on_ok}
pub use Rattle.cborn_model.proofs.Lengths.{some_bytes}
pub use Rattle.cborn_model.proofs.Listed.Meanings.{all_mean, are_proper, zip_mean}
pub use Rattle.cborn_model.proofs.Listed.Values.{length-listed}
pub use Rattle.cborn_model.proofs.SameItems.Rearranging.{IsIn, at_member, carried, turned_zip}
pub use Rattle.cborn_model.proofs.SameItems.Sameness.{same_chained, same_itself, same_turned}
pub use Rattle.cborn_model.specs.Bytes.{AreBytes, IsShortest, big_endian}
pub use Rattle.cborn_model.specs.Heads.{Given, IsLeastHead, WidthFits, argument, following, head, head_bytes, is_simple_value, least}
pub use Rattle.cborn_model.specs.Meaning.{AllMean, EntriesMean, IsBignum, IsNumber, Means, joined_chunks}
pub use Rattle.cborn_model.specs.Orders.{IsKeyOrder, Rising}
pub use Rattle.cborn_model.specs.Partial.{a_map, a_tag, an_array, in_chunks, integer_tree, no_part, top}
pub use Rattle.cborn_model.specs.Placed.{Placed, PlacedAll, PlacedEntries}
pub use Rattle.cborn_model.specs.Spelled.{Fits, FitsAll, FitsEntries, Wellformed, chunk_bytes, ending, spelled, spelled_all, spelled_entries, string}
pub use Rattle.cborn_model.specs.Tree.{ByteChunks, Bytes, Entries, Items, Nint, Pairs, Simple, Tagged, Text, TextChunks, Tree, Trees, Uint, count, count_entries, depth, depth_all, depth_entries, entry, more, no_entry, no_item, place, trees}
pub use Rattle.cborn_model.specs.Valid.{AreProper, HasNewKeys, HasProperPairs, IsNew, IsProper, pairs_depth, value_depth, values_depth}
pub use Rattle.cborn_model.specs.Value.{Couples, Same, SamePairs, SameValues, Value, Values, array, bytes, dict, integer, listed, no_pairs, no_values, pair, pair_count, simple, tagged, text, value, value_count, values_of}
pub use Rattle.cborn_model.specs.declared.heads.Major.{Major}
pub use Rattle.cborn_model.specs.declared.heads.Major.TheVariants.{Array, ByteString, Map, Negative, Other, Tag, TextString, Unsigned}
pub use Rattle.cborn_model.specs.declared.heads.Size.TheVariants.{Fixed}
pub use Rattle.cborn_model.specs.declared.heads.Width.{Width}
pub use Rattle.cborn_model.specs.declared.nodes.Chunk.{Chunk}
pub use Rattle.cborn_wire.proofs.Spelled.FaultLaws.{larger_limit, not_both, one_fault, refused_stays}
pub use Rattle.cborn_wire.proofs.Spelled.OneReading.{listed_reading, one_front, one_spelling}
pub use Rattle.cborn_wire.proofs.Spelled.TreeLists.{spelled_all-append, tree_list, trees-append, trees-tree_list}
pub use Rattle.cborn_wire.proofs.Visiting.Ending.{cut, fresh_fed, refused, whole}
pub use Rattle.cborn_wire.specs.Faults.{Fault, IsWellformed, Refused}
pub use Rattle.cborn_wire.specs.HeadReading.{ArgumentFits, IsHeadOf, major_at, seen_argument}
pub use Rattle.cborn_wire.specs.Places.{all_from, chunks_from, entries_from, placed_from}
pub use Rattle.cborn_wire.specs.declared.faults.WireFault.{WireFault}
pub use Rattle.cborn_wire.specs.declared.faults.WireReason.{WireReason}
pub use Rattle.cborn_wire.specs.declared.faults.WireReason.TheVariants.{Truncated}
pub use Rattle.cborn_wire.specs.shared.Visiting.{MayEnd}
pub use Rattle.cborn_engine.specs.Bytes.{BytesHold}
pub use Rattle.cborn_engine.specs.Canonical.{FormAnswers, IsCanonical, IsNormalForm, NormaliseAnswers}
pub use Rattle.cborn_engine.specs.Checking.{CheckAnswers, Verdict}
pub use Rattle.cborn_engine.specs.Collecting.{CollectAnswers, Collects, CollectsOn, PieceAnswers}
pub use Rattle.cborn_engine.specs.Comparing.{AreCompared, Compares, Difference}
pub use Rattle.cborn_engine.specs.Counts.{AreReadForCount, AreRefusedWhole, CheckedWhole, CompareCountAnswers, ComparesCount, CountAnswer, HoldsOne, IsNotOne, IsTaken, NormalisedWhole, NormalisesCount, SecondStarts, ShownWhole, ShowsCount, SpellsCount, SpellsOne, compare_counted_of, counted_of, of_first_counted, of_second_counted, of_the_first}
pub use Rattle.cborn_engine.specs.Failures.{CountsFault, failures_after_write, one_more}
pub use Rattle.cborn_engine.specs.Faults.{of_edn, of_input, of_wire}
pub use Rattle.cborn_engine.specs.Holding.{Canon, HoldSameItems, Holds, IsNotation, IsPlainText, Spells, SpellsInPlace}
pub use Rattle.cborn_engine.specs.Loading.{IsNoFlaw, LoadAnswers, Loads}
pub use Rattle.cborn_engine.specs.Reading.{most_bytes}
pub use Rattle.cborn_engine.specs.Refusing.{IsNoRefusal, IsNotationFault, IsRefused, IsTrouble}
pub use Rattle.cborn_engine.specs.Showing.{IsShown, IsSpelledAs, ShowAnswers, SpellSameBytes}
pub use Rattle.cborn_engine.specs.Streams.{IsRead, IsSent, Reads, Writes}
pub use Rattle.cborn_engine.specs.Whole.{HasNoFault, IsRefusedWhole, IsUnshownWhole, TellsFaultAs}
pub use Rattle.cborn_engine.specs.Writing.{IsFront, Sends}
pub use Rattle.cborn_engine.specs.declared.count_faults.CompareCountFault.{CompareCountFault}
pub use Rattle.cborn_engine.specs.declared.count_faults.CountFault.{CountFault}
pub use Rattle.cborn_engine.specs.declared.counts.Count.{Count}
pub use Rattle.cborn_engine.specs.declared.faults.EngineFault.{EngineFault}
pub use Rattle.cborn_engine.specs.declared.judged_inputs.Input.{Input}
pub use Rattle.cborn_engine.specs.declared.judged_inputs.Input.TheVariants.{Judged, Whole}
pub use Rattle.cborn_engine.specs.declared.kinds.Kind.{Kind}
pub use Rattle.cborn_engine.specs.declared.stream_faults.InputFault.{InputFault}
pub use Rattle.cborn_engine.specs.devices.Counting.{read_failures, read_failures_at}
pub use Rattle.cborn_engine.specs.devices.Counts.{EncodedWhole, ReadsCount, bytes_of, own_or}
pub use Rattle.cborn_engine.specs.devices.Encoding.{AreJudged, EncodeAnswers, IsEncoded, IsFixedText, IsWrittenAs, kind_of}
pub use Rattle.cborn_engine.specs.devices.Judging.{HasJudged, InputAnswers, IsJudging, ReadsInput, ReadsWhole}
pub use Rattle.cborn_engine.specs.devices.Malformed.{IsRefusedHeld, IsUnshownHeld, IsWireFault}
