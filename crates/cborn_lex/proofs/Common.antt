-- The names that the proofs of this crate use, each from where it is defined.
pub use Rattle.std.proofs.Common.{Bool, Err, IfErr, IfOk, List, None, Ok, Option, Result, Some, [], add-one, ap, append-nil, append_assoc, ap₂, arith, cond, drop, eqb, false, get_or, inl, inr, leb, length, lit<, ltb, map, nat_lt, not, refl, replicate, rules, subst, suc, sym, take, true, zero, ℕ, ⊎_elim, ◌∙◌}
pub use Rattle.std.proofs.Math.Nat.{mul-le-mul_left, pow-suc, zero-div}
pub use Rattle.std.proofs.Math.Seq.{drop-append_seam, take-add, take-append-add, take-append_seam, take-length, take-nil}
pub use Rattle.std.proofs.lemmas.Bool.{and_from, and_left, and_parts, and_right, both_ways, cases_Bool, cases_lt, cond-false, cond-true, cond_both, eq-eqb, eqb-true, false_from_ne_true, false≢true, le-leb, le-ltb, leb-true, lt-ltb, ltb-false, ltb-true, ne_eqb, not-false, not-true, or_cases, or_from, or_parts, true≢false}
pub use Rattle.std.proofs.lemmas.List.{append_cancel_left, append_cancel_right, drop-drop, drop-map, drop_all, drop_more, get_or-drop, length-append, length-drop, length-map, length-replicate, length-take, length-take-le, take-append-drop, take-take, take_all, take_more, take_rest}
pub use Rattle.std.proofs.lemmas.List.Folds.{list_all-append}
pub use Rattle.std.proofs.lemmas.Str.{digit_value_digit, encode_ascii}
pub use Rattle.cborn_lex.specs.Cited.{Bad, Front, Read, WhiteSpace, begins, is_not, is_numeral, is_white, is_word, mark_of, marked}
pub use Rattle.cborn_lex.specs.Common.{ArrayClose, ArrayOpen, BadBase64, BadEscape, BadHex, BadIndicator, BadNumber, Bytes, ChunkOpen, Class, Colon, Comma, EmbedClose, EmbedOpen, FloatLeftOut, LexFault, LexReason, MapClose, MapOpen, Mark}
pub use Rattle.cborn_lex.specs.Common.{NumberTooLarge, One, OutOfMemory, ParenClose, Profile, Refused, SimpleOpen, TagOpen, Text, Token, Two, UnclosedComment, UnclosedString, UnexpectedCharacter, UnknownPrefix, Word, digit_value}
pub use Rattle.cborn_lex.specs.Common.{is_ascii_alphabetic, is_ascii_alphanumeric, is_ascii_digit, is_digit}
pub use Rattle.cborn_lex.specs.devices.Common.{FrontStandsFor, front_view, of_quoted}
pub use Rattle.std.specs.Int.{is_in_range}
pub use Rattle.std.specs.List.{filter, flat_map, list_all, list_any, prefix_len}
pub use Rattle.std.specs.Prelude.{bytes_eq, codes, encode_utf8, encode_utf8_all, nat_le, slice_index}
pub use Rattle.std.specs.Simd.Lanes.{mask_l, top, zip2}
pub use Rattle.base64.specs.Engines.{standard}
pub use Rattle.base64.specs.GeneralPurpose.{IsBytes, IsStrict, decode_of}
pub use Rattle.base64.specs.declared.decode.DecodeError.{DecodeError}
pub use Rattle.cborn_model.specs.declared.heads.Width.TheVariants.{Direct, Eight}
pub use Rattle.cborn_lex.specs.Bad.{BeginsNothing, Fails, FailsAt, HasNoTokenFrom, HasNoTokens, IsFloat, IsNoInteger, IsPrefix, IsWord, is_float_word, is_quote, is_start}
pub use Rattle.cborn_lex.specs.Forms.{Closed, ContentGives, IsAfterWord, IsIndicator, IsNumber, IsPrefixed, IsRun, IsString, IsTag, Lacks, Prefix, Reads, ReadsFrom, ReadsNumber, ReadsWord, Start, base64, digit, double, greater, hash, hexadecimal, less, letter, minus, opening, other, paren, paren_front, prefix_of, simple, single, slash, start_of, unknown, white}
pub use Rattle.cborn_lex.specs.Good.{Covers, HasTokens, SpansRise, IsCoded, IsLiteral, IsMark, IsName, IsNumeral, IsTokenFrom, Takes, TokensBetween}
pub use Rattle.cborn_lex.specs.Kinds.{StandsFor, class_of, content_of}
pub use Rattle.cborn_lex.specs.Numbers.{BeginsDecimal, are_digits, has_any, has_prefix, integer, number, number_front, signed, within, word_front}
pub use Rattle.cborn_lex.specs.Strings.{HasDigits, IsBase64, IsHex, IsText, are_hex, base64_text, code, comment, escape_code, filled, four, is_content, is_escape, is_high, is_low, is_unclosed, nothing, space, to_standard}
pub use Rattle.cborn_lex.specs.declared.classes.Mark.TheVariants.{Absent, Endless, Wide}
pub use Rattle.cborn_lex.specs.devices.Letters.{HasLetters, Letter, LettersSoFar, LettersTaken, NoText, escaped, is_letter, is_plain, is_special, meant, pair, raw, unit, written}
pub use Rattle.cborn_lex.specs.devices.Pieces.{AreRead, BeginsNoPiece, LexParted, Lexeme, Parted, StopParted, front_of, slice, spelled, token, tokens, white_space}
pub use Rattle.cborn_lex.specs.devices.Scan.{IsEncoded, after, code_at, escape_of, is_raw, low_code, onto, paired, refusal, strip, unit_from}
pub use Rattle.cborn_lex.specs.shared.Modest.{AreModest, IsModest}
