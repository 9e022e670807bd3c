-- The lemmas that answers use, each from its file.
pub use Rattle.cborn_edn.proofs.Grammar.Takes.{ended_same}
pub use Rattle.cborn_edn.proofs.HandedOver.Closings.{hands_array_end, hands_map_end, hands_tag_end, hands_bignum, hands_integer, hands_tag}
pub use Rattle.cborn_edn.proofs.HandedOver.Fitting.{none_shown, number_fits, simple_fits, tag_fits}
pub use Rattle.cborn_edn.proofs.HandedOver.Handing.{free, inside, outside, silenced, stays, taken}
pub use Rattle.cborn_edn.proofs.HandedOver.Silent.{embed_closed, handed_close_simple, handed_open_chunks, handed_open_simple, piece_handed}
pub use Rattle.cborn_edn.proofs.HandedOver.Strings.{chunk_fits, hands_chunk, hands_chunks_end, hands_string, hands_text, string_fits}
pub use Rattle.cborn_edn.proofs.Meaning.NoError.{no_left}
pub use Rattle.cborn_edn.proofs.Reader.Results.{error_is, all_ok, both_ok, if_ok, on_ok}
pub use Rattle.cborn_edn.proofs.Reader.Built.{chunk_noted, chunk_read, chunks_open, chunks_shown, content_shown, item_noted, item_read, joint_shown, kind_shown}
pub use Rattle.cborn_edn.proofs.Reader.Closed.{closed, closed_sized, content_states, embed_kept, fields_states}
pub use Rattle.cborn_edn.proofs.Reader.CommonTokens.{separator_here, single_here, sized_end_here, white_here}
pub use Rattle.cborn_edn.proofs.Reader.Ending.{bare_end, first_reads, item_end, string_end}
pub use Rattle.cborn_edn.proofs.Reader.Going.{begins, free_none, stopped}
pub use Rattle.cborn_edn.proofs.Reader.Inverted.{embed_at, embed_step, ending, no_embed}
pub use Rattle.cborn_edn.proofs.Reader.Opened.{reverse-at, reverse-set}
pub use Rattle.cborn_edn.proofs.Reader.Put.{leaf_shown, opened_read, simple_noted}
pub use Rattle.cborn_edn.proofs.Reader.Rows.{AtEnd, entries_few, in_content, in_fields}
pub use Rattle.cborn_edn.proofs.Reader.Settling.{text_item, text_noted}
pub use Rattle.cborn_edn.proofs.Reader.Showing.{known_bytes, same_around, same_errors}
pub use Rattle.cborn_edn.proofs.Reader.Stepping.{further, last_read, ready, refusal, same_read, stop_inside, token_read, went_on}
pub use Rattle.cborn_edn.proofs.Reader.Taking.{after_taken, chunked, end_taken, few_here, item_taken, may_end, separator_low, shown_as, simple_number, sized_kind, sized_low, skipped, skipped_to, taken_from, text_taken, went}
pub use Rattle.cborn_edn.proofs.Reader.Turning.{adding, appends_nothing, arm, bare_taken, chunk_home, embed_taken, is_builds, is_has, is_has_number, is_wants, is_wants_number, item_home, no_chunk, no_piece, no_piece_taken, not_text, paren_handed, same_handed, separator_handed, shown_kind, start_inside, still_taken, taken_as, taken_same, turn}
pub use Rattle.cborn_edn.proofs.Short.Facts.{shown_back, shown_only}
pub use Rattle.cborn_edn.proofs.Shown.Characters.{fits_more, fits_whole, is_text}
