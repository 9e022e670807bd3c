-- Numbers, words and strings, as slices that the code cuts out of a text.
pub mod Pieces
pub mod Words
