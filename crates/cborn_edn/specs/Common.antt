-- The names from other crates and from the code that definitions and contracts use, each from where it is defined.
pub use Rattle.cborn_edn.specs.declared.events.Event.{Event}
pub use Rattle.cborn_edn.specs.declared.events.Event.TheVariants.{Bignum, Close, FirstChunk, Integer, Map, NoChunks, String}
pub use Rattle.cborn_edn.specs.declared.faults.EdnFault.{EdnFault}
pub use Rattle.cborn_edn.specs.declared.faults.EdnFault.TheVariants.{Lex}
pub use Rattle.cborn_edn.specs.declared.faults.EdnReason.{EdnReason}
pub use Rattle.cborn_edn.specs.declared.faults.EdnReason.TheVariants.{BadSimple, IndicatorNotAllowed, IndicatorTooNarrow, MixedChunks, MixedString, TagTooLarge, TextNotUtf8, TooDeep, UnexpectedEnd, UnexpectedToken}
pub use Rattle.cborn_edn.specs.declared.meaning_errors.MeaningError.{MeaningError}
pub use Rattle.cborn_edn.specs.declared.states.Chunks.{Chunks}
pub use Rattle.cborn_edn.specs.declared.states.Here.{Here}
pub use Rattle.cborn_edn.specs.declared.states.Joint.{Joint}
pub use Rattle.cborn_edn.specs.declared.states.Level.{Level}
pub use Rattle.cborn_edn.specs.declared.states.OpenBracket.{OpenBracket}
pub use Rattle.cborn_edn.specs.declared.states.Phase.{Phase}
pub use Rattle.cborn_edn.specs.declared.states.Phase.TheVariants.{Builds, Has, HasNumber, Wants, WantsChunk, WantsMore, WantsNumber}
pub use Rattle.cborn_edn.specs.declared.states.Writer.{Writer}
pub use Rattle.cborn_lex.specs.Bad.{FailsAt, HasNoTokenFrom}
pub use Rattle.cborn_lex.specs.Good.{HasTokens, IsName, TokensBetween}
pub use Rattle.cborn_lex.specs.Kinds.{StandsFor, class_of}
pub use Rattle.cborn_lex.specs.Tokens.{begins, is_not, is_white, is_word}
pub use Rattle.cborn_lex.specs.declared.classes.Class.{Class}
pub use Rattle.cborn_lex.specs.declared.classes.Class.TheVariants.{ArrayClose, ArrayOpen, ChunkOpen, Colon, Comma, EmbedClose, EmbedOpen, MapClose, MapOpen, Number, ParenClose, SimpleOpen, TagOpen, Word}
pub use Rattle.cborn_lex.specs.declared.classes.Kind.{Kind}
pub use Rattle.cborn_lex.specs.declared.classes.Mark.{Mark}
pub use Rattle.cborn_lex.specs.declared.classes.Mark.TheVariants.{Absent, Wide}
pub use Rattle.cborn_lex.specs.declared.classes.Profile.{Profile}
pub use Rattle.cborn_lex.specs.declared.classes.Profile.TheVariants.{One, Two}
pub use Rattle.cborn_lex.specs.declared.classes.Token.{Token}
pub use Rattle.cborn_lex.specs.declared.faults.LexFault.{LexFault}
pub use Rattle.cborn_lex.specs.declared.faults.LexFault.TheVariants.{OutOfMemory, Refused}
pub use Rattle.cborn_lex.specs.shared.Modest.{AreModest, IsModest}
pub use Rattle.cborn_model.specs.Heads.{WidthFits, following, holds, is_simple_value, least}
pub use Rattle.cborn_model.specs.Partial.{Ends, IsFree, Opening, Part, Partial, Proper, TakesString, a_map, a_tag, an_array, built, chunks_tree, ended_size, in_chunks, inside, integer_tree, no_part, paired, part, put, string_tree, top}
pub use Rattle.cborn_model.specs.Spelled.{FitsAll, Wellformed, spelled_all}
pub use Rattle.cborn_model.specs.Tree.{ByteChunks, Bytes, Entries, Items, Nint, Pairs, Simple, Tagged, Text, TextChunks, Tree, Trees, Uint, count, count_entries, depth_all, entry, more, no_entry, no_item, trees}
pub use Rattle.cborn_model.specs.declared.heads.Size.{Size}
pub use Rattle.cborn_model.specs.declared.heads.Size.TheVariants.{Endless, Fixed}
pub use Rattle.cborn_model.specs.declared.heads.Width.{Width}
pub use Rattle.cborn_model.specs.declared.heads.Width.TheVariants.{Direct, Eight, Four}
pub use Rattle.cborn_model.specs.declared.nodes.Chunk.{Chunk}
pub use Rattle.cborn_model.specs.declared.visitors.StringKind.{StringKind}
pub use Rattle.cborn_model.specs.declared.visitors.StringKind.TheVariants.{OfBytes, OfText}
pub use Rattle.cborn_wire.specs.declared.spellers.Speller.{Speller}
pub use Rattle.hex.specs.Hex.{encode_lower}
pub use Rattle.std.proofs.Common.{Bor, ap}
pub use Rattle.std.specs.Int.Digits.{digits_of}
pub use Rattle.std.specs.List.{AllByRecursion, flat_map, join_by, list_all, list_any}
pub use Rattle.std.specs.Str.{IsUtf8, is_utf8}
