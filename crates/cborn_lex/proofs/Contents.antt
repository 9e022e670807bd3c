-- What the contents of strings stand for: at most one list of bytes, and how the code finds it.
pub mod Texts
pub mod Letters
pub mod Ends
pub mod Hexes
pub mod Decoded
pub mod Base64s
