-- The devices of this crate that its contracts cite, each from its file. No definition cites it.
pub use Rattle.cborn_edn.specs.devices.Ahead.{IsTextAt, IsTokenAt, NoPieceAt, ends_string, opening, opening_character}
pub use Rattle.cborn_edn.specs.devices.Events.{Fits, Follows, bignum_of}
pub use Rattle.cborn_edn.specs.devices.Handed.{AllHanded, Hands, InnermostFollows, IsSpelled, Reads, chunk_event, string_event}
pub use Rattle.cborn_edn.specs.devices.Kept.{joint, kind_or}
pub use Rattle.cborn_edn.specs.devices.Machine.{Home, Nest, Stack, State, as_chunk, as_item, at_home, builds, has, has_number, in_array, in_embed, in_key, in_row, in_tag, in_value, lexical, reach, start, wants, wants_chunk, wants_number, with_piece}
pub use Rattle.cborn_edn.specs.devices.MeaningErrors.{Notes, first_error, is_none}
pub use Rattle.cborn_edn.specs.devices.Noted.{noted}
pub use Rattle.cborn_edn.specs.devices.Reading.{AtEnd, Goes, IsInside, IsReading, IsWanting, Judged, Last, of_text}
pub use Rattle.cborn_edn.specs.devices.Said.{Parsed}
pub use Rattle.cborn_edn.specs.devices.Shows.{Shows, Sized, content_state, entries_at, after_opening, piece_of}
pub use Rattle.cborn_edn.specs.devices.Steps.{EndsAt, IsReady, MayEnd, Taken, Takes, Turned, Turns, is_piece, takes_no_piece}
pub use Rattle.cborn_edn.specs.devices.Syntax.{Content, Fields, Input, Item, PairsBefore, Pieces, RowBefore, Span, Strings, StringsBefore, after_pairs, after_row, after_strings, array, chunked, embedded, map, no_item, no_pair, no_string, number, pairs, piece, row, simple, string, strings, tag, text, tokens_of_input, word}
