-- The definitions of this crate that its contracts cite, each from its file.
pub use Rattle.cborn_lex.specs.Bad.{BeginsNothing, Fails, FailsAt, HasNoTokenFrom, HasNoTokens}
pub use Rattle.cborn_lex.specs.Forms.{IsAfterWord, IsIndicator, IsPrefixed, IsQuoted, IsRun, IsUnquoted, Lacks, Reads, ReadsFrom, ReadsNumber, ReadsWord, Through, greater, hash, less, paren_front, prefix_of, start_of}
pub use Rattle.cborn_lex.specs.Good.{HasTokens, SpansRise, IsTokenFrom, Takes, TokensBetween}
pub use Rattle.cborn_lex.specs.Kinds.{IsNextBareToken, class_of}
pub use Rattle.cborn_lex.specs.Numbers.{BeginsDecimal, are_digits, has_prefix, integer, number, number_front, within, word_front}
pub use Rattle.cborn_lex.specs.Strings.{IsBase64, IsHex, are_hex, base64_text, code, escape_code, is_content, is_escape, is_high, is_low, is_unclosed, to_standard}
pub use Rattle.cborn_lex.specs.Tokens.{Bad, Front, Read, WhiteSpace, begins, is_not, is_numeral, is_white, is_word, mark_of, marked}
