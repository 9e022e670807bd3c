-- The text of the fixed notation has the tokens of its tree.
-- A part of a text, before what follows it, is read as pieces one after another (`Chained`): marks, numbers, strings, words, and then nodes.
pub mod Chained
pub mod MarkTexts
pub mod DecimalTexts
pub mod HexTexts
pub mod QuotedTexts
pub mod WordTexts
pub mod NodeTexts
