-- The fixed notation of nodes is UTF-8 exactly if their texts are, and doesn't depend on their places.
pub mod Escapes
pub mod Lowests
pub mod Characters
pub mod Readable
pub mod SameText
pub mod PlainText
