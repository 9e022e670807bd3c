-- The devices of this crate that its contracts cite, each from its file. No definition cites it.
pub use Rattle.cborn_lex.specs.devices.Letters.{LettersSoFar, LettersTaken, NoText, is_plain, is_special}
pub use Rattle.cborn_lex.specs.devices.Scan.{IsEncoded, code_at, escape_of, low_code, refusal, strip, unit_from}
pub use Rattle.cborn_lex.specs.devices.View.{FrontStandsFor, front_view, of_quoted}
