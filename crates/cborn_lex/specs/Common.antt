-- The names from other crates and from the code that definitions and contracts use, each from where it is defined.
pub use Rattle.cborn_lex.specs.declared.classes.Class.{Class}
pub use Rattle.cborn_lex.specs.declared.classes.Class.TheVariants.{ArrayClose, ArrayOpen, Bytes, ChunkOpen, Colon, Comma, EmbedClose, EmbedOpen, MapClose, MapOpen, Number, ParenClose, SimpleOpen, TagOpen, Text, Word}
pub use Rattle.cborn_lex.specs.declared.classes.Mark.{Mark}
pub use Rattle.cborn_lex.specs.declared.classes.Profile.{Profile}
pub use Rattle.cborn_lex.specs.declared.classes.Profile.TheVariants.{One, Two}
pub use Rattle.cborn_lex.specs.declared.classes.Token.{Token}
pub use Rattle.cborn_lex.specs.declared.faults.LexFault.{LexFault}
pub use Rattle.cborn_lex.specs.declared.faults.LexFault.TheVariants.{OutOfMemory, Refused}
pub use Rattle.cborn_lex.specs.declared.faults.LexReason.{LexReason}
pub use Rattle.cborn_lex.specs.declared.faults.LexReason.TheVariants.{BadBase64, BadEscape, BadHex, BadIndicator, BadNumber, FloatLeftOut, NumberTooLarge, UnclosedComment, UnclosedString, UnexpectedCharacter, UnknownPrefix}
pub use Rattle.hex.specs.Hex.{IsBytes, decode_of}
pub use Rattle.std.specs.Char.{digit_value, is_ascii_alphabetic, is_ascii_alphanumeric, is_ascii_digit, is_digit}
pub use Rattle.std.specs.List.{list_all, list_any}
pub use Rattle.std.specs.Str.{byte}
