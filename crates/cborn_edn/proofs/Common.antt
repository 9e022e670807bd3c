-- The names that the proofs of this crate use, each from where it is defined.
pub use Rattle.std.proofs.Common.{Bool, Err, IfErr, IsErrAnd, List, None, Ok, OnOk, Option, Result, Some, [], ap, append-nil, append_assoc, ap₂, arith, cond, decimal, drop, eqb, false, get_or, inl, inr, is_some, leb, length, ltb, map, min, not, refl, replicate, rules, set, slice_index, subst, suc, sym, take, true, zero, ℕ, ⊎_elim, ◌∙◌}
pub use Rattle.std.proofs.Math.Seq.{drop-append_seam, take-append_seam}
pub use Rattle.std.proofs.lemmas.Bool.{and_from, and_parts, and_right, cases_Bool, cases_lt, cond-false, cond-true, cond_both, eq-eqb, eqb-false, eqb-true, false≢true, le-leb, le-ltb, leb-false, leb-true, lt-leb, lt-ltb, ltb-false, ltb-true, ne_eqb, not-true, or_cases, or_from, or_parts}
pub use Rattle.std.proofs.lemmas.Fmt.{IsAscii-decimal_wide, decimal_by_steps_wide, decimal_digit, decimal_is_IsNumeral_wide}
pub use Rattle.std.proofs.lemmas.Grind.{flat_map-append}
pub use Rattle.std.proofs.lemmas.Int.Digits.{all_below_base_digits_of, digits_of_step, length-digits_of-le}
pub use Rattle.std.proofs.lemmas.List.{drop-drop, drop_all, drop_more, get_or-drop, length-append, length-drop, length-map, length-reverse, length-take, length-take-le, map-append, reverse-append, take-append-drop, take-take, take_all, take_more, take_more_set, take_rest}
pub use Rattle.std.proofs.lemmas.Option.{same_Some}
pub use Rattle.std.proofs.lemmas.Str.{IsCharBoundary-after_ascii, IsCharBoundary-before_ascii, IsUtf8-append, IsUtf8-drop, IsUtf8-encode, IsUtf8-from_ascii, IsUtf8-from_is_utf8, IsUtf8-nil, IsUtf8-past_char, IsUtf8-take, encode_ascii, inside_one, is_utf8-from_IsUtf8, len_utf8_bounds, length-encode}
pub use Rattle.std.proofs.lemmas.Str.Ascii.{IsAscii-cons, IsAscii-nil}
pub use Rattle.std.specs.Char.{IsScalar, digit_value, is_digit}
pub use Rattle.cborn_edn.specs.Common.{AreModest, BadSimple, Builds, Chunk, Chunks, Class, EdnFault, EdnReason, Event, Has, Here, IndicatorNotAllowed, IndicatorTooNarrow, IsModest, Joint, Kind, Level, LexFault, Mark, MeaningError}
pub use Rattle.cborn_edn.specs.Common.{MixedChunks, MixedString, OfBytes, OfText, OpenBracket, Phase, Profile, Size, Speller, StringKind, TagTooLarge, TextNotUtf8, Token, TooDeep, UnexpectedEnd, UnexpectedToken, Wants, WantsChunk}
pub use Rattle.cborn_edn.specs.Common.{WantsMore, Width, Writer, digits_of}
pub use Rattle.cborn_edn.specs.devices.Common.{IsTextAt, IsTokenAt, NoPieceAt, ends_string, opening, opening_character}
pub use Rattle.std.specs.List.{AllByRecursion, flat_map, list_all, list_any, prefix_len}
pub use Rattle.std.specs.Prelude.{IfOk, IsTrue, bytes_eq, codes, encode_utf8, encode_utf8_all, max}
pub use Rattle.std.specs.Str.{IsAscii, IsUtf8, all_scalars, is_utf8}
pub use Rattle.cborn_lex.specs.Forms.{IsIndicator, IsRun, ReadsFrom, ReadsNumber, Start, digit, single, start_of}
pub use Rattle.cborn_lex.specs.Bad.{FailsAt, HasNoTokenFrom, HasNoTokens}
pub use Rattle.cborn_lex.specs.Good.{Covers, HasTokens, SpansRise, IsMark, IsNumeral, TokensBetween, is_false, is_null, is_true, is_undefined}
pub use Rattle.cborn_lex.specs.Kinds.{IsNextBareToken, class_of, content_of}
pub use Rattle.cborn_lex.specs.Numbers.{are_digits, has_prefix, number_front, signed, within}
pub use Rattle.cborn_lex.specs.Strings.{HasDigits, IsHex, are_hex, escape_code, is_content, is_escape, is_high, is_low}
pub use Rattle.cborn_lex.specs.Tokens.{Read, WhiteSpace, begins, is_not, is_numeral, is_white, is_word, mark_of, marked}
pub use Rattle.cborn_lex.specs.declared.classes.BareToken.{BareToken}
pub use Rattle.cborn_lex.specs.declared.classes.Class.TheVariants.{ArrayClose, ArrayOpen, Bytes, ChunkOpen, Colon, Comma, EmbedClose, EmbedOpen, MapClose, MapOpen, Number, ParenClose, SimpleOpen, TagOpen, Text, Word}
pub use Rattle.cborn_lex.specs.declared.classes.Mark.TheVariants.{Absent, Endless, Wide}
pub use Rattle.cborn_lex.specs.devices.Letters.{Letter, LettersSoFar, is_letter, is_plain, meant, raw, unit, written, escaped as after_slash, pair}
pub use Rattle.cborn_lex.specs.declared.classes.Profile.TheVariants.{One as ProfileOne, Two as ProfileTwo}
pub use Rattle.cborn_model.specs.Bytes.{AreBytes, big_endian}
pub use Rattle.cborn_model.specs.Heads.{Argument, EndlessArgument, Given, SizeFits, WidthFits, argument, code, following, head, holds, is_simple_value, least}
pub use Rattle.cborn_model.specs.Partial.{AreStrings, Ends, IsFree, Opening, Partial, TakesString, a_map, a_tag, an_array, built, chunks_of, chunks_tree, ended_size, in_chunks, inside, integer_tree, last_key, last_of, no_part, paired, part, put, string_tree, top}
pub use Rattle.cborn_model.specs.Spelled.{ChunksFit, Fits, FitsAll, FitsEntries, chunk_bytes, spelled, spelled_all, spelled_entries}
pub use Rattle.cborn_model.specs.Tree.{ByteChunks, Entries, Items, Nint, Pairs, Simple, Tagged, TextChunks, Tree, Trees, Uint, count, count_entries, depth_all, depth_entries, entries, entry, more, no_entry, trees, Bytes as ByteNode, Text as TextNode, no_item as no_node}
pub use Rattle.cborn_model.specs.declared.heads.Major.{Major}
pub use Rattle.cborn_model.specs.declared.heads.Major.TheVariants.{Array, ByteString, Negative, Other, TextString, Unsigned, Map as MapHead, Tag as TagHead}
pub use Rattle.cborn_model.specs.declared.heads.Size.TheVariants.{Fixed, Endless as EndlessMark}
pub use Rattle.cborn_model.specs.declared.heads.Width.TheVariants.{Direct, Eight, Four, One, Two}
pub use Rattle.cborn_wire.specs.shared.Spelling.{IsWritten}
pub use Rattle.hex.specs.Hex.{IsBytes, encode_lower, lower_digits}
pub use Rattle.cborn_edn.specs.Faults.{HasMeaningError, HasSyntaxError, IsAmong, IsNoNotation, number_of, GoesOn, HasTree, IsSyntaxError, StopsAt}
pub use Rattle.cborn_edn.specs.Grammar.{AreChunks, AreItems, ArePairs, ArePieces, IsContent, IsFields, IsItem, IsPiece, IsText, Notates, before, byte_piece, empty, first, last, last_pair, next, no_fields, nothing, pair_before, text_piece}
pub use Rattle.cborn_edn.specs.ReadingBack.{chunk_item, chunk_pieces, chunk_row, notated, notated_content, notated_fields, notated_input, notated_pairs, notated_row, nowhere, one_piece, simple_item, unplaced, unplaced_all, unplaced_chunks, unplaced_entries, unplaced_token}
pub use Rattle.cborn_edn.specs.Says.{Str, argument_of, bignum, chunk, chunk_errors, chunked_node, integer, is_absent, is_below, is_endless, is_good, is_nil, is_simple, is_small, joined, mark_errors, may_join, number_errors, number_node, piece_errors, quoted, said_string, same_kind, simple_errors, size, size_errors, string_errors, string_node, tag_errors, unless, width, width_errors}
pub use Rattle.cborn_edn.specs.Shown.{AreShowable, IsBadAmong, IsBadChunk, IsBadInPairs, IsBadText, LowestBadText, Shown, escaped, indicator, item_texts, joined_by, mark_for, mark_for_size, opened, pair_texts, shown, shown_chunk, shown_chunks, shown_lines, shown_simple, shown_string}
pub use Rattle.cborn_edn.specs.Starts.{IsRising, spots, spots_all, spots_entries, starts_of_chunks, unless_bytes}
pub use Rattle.cborn_edn.specs.declared.events.Event.TheVariants.{Bignum, Close, Integer, Map, NoChunks, String, Tag, Simple as SimpleValue, FirstChunk}
pub use Rattle.cborn_edn.specs.declared.faults.EdnFault.TheVariants.{Refused}
pub use Rattle.cborn_edn.specs.declared.notators.Notator.{Notator}
pub use Rattle.cborn_edn.specs.declared.states.Around.{Around}
pub use Rattle.cborn_edn.specs.devices.Commas.{AllowsCount, Parse, commas, commas_of_content, commas_of_fields, commas_of_input, commas_of_pairs, commas_of_pairs_before, commas_of_piece, commas_of_pieces, commas_of_row, commas_of_row_before, commas_of_strings, commas_of_strings_before}
pub use Rattle.cborn_edn.specs.devices.Events.{AreFew, Comes, FitsSoFar, Follows, Holds, OpeningFits, bignum_of, Fits as EventFits}
pub use Rattle.cborn_edn.specs.devices.Handed.{AllHanded, Handed, Hands, InnermostFollows, IsSpelled, Reads, chunk_event, front, front_of, listed_entries, row_front, size_asked, states_around, states_around_home, states_around_nest, string_event}
pub use Rattle.cborn_edn.specs.devices.Kept.{around, arounds_home, arounds_nest, arounds_of, bracket, brackets_home, brackets_nest, brackets_of, bytes_around, bytes_around_home, bytes_around_nest, bytes_before, bytes_open, chunks_in, count_of, joint, kind_before, kind_or, level_of, phase_of, piece_bytes, pieces_bytes, stack_in, stack_of, string_at, string_in, wanting}
pub use Rattle.cborn_edn.specs.devices.Machine.{Answer, Home, Nest, Stack, State, after_number, after_string, as_chunk, as_item, at_end, at_home, at_top, begin, begin_chunk, begin_number, builds, checked, comma_at, comma_in, ends, ends_loose, finish, forbids, has, has_number, held, held_home, held_nest, held_stack, in_array, in_embed, in_key, in_row, in_tag, in_value, levels, levels_home, levels_nest, more_string, open_levels, parse, run, start, step, step_by, wants, wants_chunk, wants_number, with_piece, reach}
pub use Rattle.cborn_edn.specs.devices.MeaningErrors.{Notes, earlier, first_error, is_none, lexical}
pub use Rattle.cborn_edn.specs.devices.Notating.{IsBadIn, IsCounted, IsEnded, IsHeld, IsLowest, after, beginning, content, count_one, ending, is_counted, late_in, late_size, lates, lowest_with, next_after, next_around, next_in, one_more, quote, separator, string_end, tally, least as lower}
pub use Rattle.cborn_edn.specs.devices.Noted.{noted, noted_home, noted_nest, noted_stack, pieces_noted, strings_noted}
pub use Rattle.cborn_edn.specs.devices.Reading.{AtEnd, IsReadTo, IsReading, Judged, Last, Reached, is_trailing_comma, item, may_end, pieces}
pub use Rattle.cborn_edn.specs.devices.Said.{Parsed, chunks, entries_before, entries_in, faults, faults_before, faults_before_pairs, faults_in, faults_of_fields, faults_of_input, faults_of_pairs, faults_of_piece, faults_of_pieces, faults_of_row, faults_of_strings, kind_in, node, nodes, nodes_before, nodes_in, nodes_of_input, snoc, snoc_entry, str, str_of}
pub use Rattle.cborn_edn.specs.devices.Shows.{IsOpenAt, Shows, Sized, of_array, of_map, content_state, entries_at, fields_state, piece_of, after_opening}
pub use Rattle.cborn_edn.specs.devices.Steps.{EndsPieces, IsReady, MayEnd, Ready, Taken, Takes, Turned, Turns, ends_map, ends_sized, sized_end, separator_of, is_in, is_piece, is_row, takes_no_piece}
pub use Rattle.cborn_edn.specs.devices.Syntax.{Content, Fields, Input, Item, PairsBefore, Piece, Pieces, Row, RowBefore, Span, Strings, StringsBefore, after_pairs, after_row, after_strings, also, array, bytes, chunked, depth, depth_of_content, depth_of_fields, depth_of_input, depth_of_number, depth_of_pairs, depth_of_pairs_before, depth_of_piece, depth_of_pieces, depth_of_row, depth_of_row_before, depth_of_strings, depth_of_strings_before, embedded, items, loose, loose_fields, no_item, no_pair, no_string, number, pairs, piece, row, simple, span, string, strings, tag, text, tight, tight_fields, token, tokens_of, tokens_of_content, tokens_of_fields, tokens_of_input, tokens_of_pairs, tokens_of_pairs_before, tokens_of_piece, tokens_of_pieces, tokens_of_row, tokens_of_row_before, tokens_of_strings, tokens_of_strings_before, word, map as map_item}
pub use Rattle.cborn_edn.specs.devices.TreesCode.{listed_trees, trees-listed}
pub use Rattle.cborn_edn.specs.shared.Between.{others}
pub use Rattle.cborn_edn.specs.shared.Texts.{ArePairsShowable, AreTexts, EachShowable, IsShowable}
pub use Rattle.cborn_model.proofs.Listed.Trees.{count-trees, count_entries-entries}
pub use Rattle.cborn_model.proofs.Bytes.{are_bytes, bytes-append}
pub use Rattle.cborn_lex.proofs.WholeTexts.Chains.{both_profiles, not_both, one_list, some_answer, spans_rise}
pub use Rattle.cborn_lex.proofs.WholeTexts.Weights.{as_test, between_modest, text_light, utf8_bytes, weigh}
pub use Rattle.cborn_lex.proofs.TwoParts.{digit_starts, passes, passes_at}
pub use Rattle.cborn_lex.proofs.GoodBack.{and_false, never, within_back}
pub use Rattle.hex.proofs.HexLemmas.{IsAscii-encode_with, decode_of-encode_lower}
pub use Rattle.cborn_model.proofs.Numbers.Simples.{simple_below, simple_value}
pub use Rattle.cborn_model.proofs.Numbers.OneHead.{least_holds}
pub use Rattle.cborn_wire.proofs.Spelled.AllBytes.{head_bytes}
pub use Rattle.cborn_model.proofs.HandedOver.{on_ok, strings as strings_held}
pub use Rattle.cborn_edn.specs.declared.states.Level.TheVariants.{Embedded, Key}
pub use Rattle.cborn_lex.proofs.WholeTexts.Progress.{few, joins, passed_on, stops, whole_stop, whole_text}
pub use Rattle.cborn_lex.proofs.Runs.{letters_end, none_yet, run_more}
pub use mathlib.Core.List.{reverse}
pub use Rattle.cborn_lex.proofs.OneFront.Alone.{one_front, same_head}
