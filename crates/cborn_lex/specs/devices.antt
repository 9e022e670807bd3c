pub mod Pieces
pub mod View
pub mod Scan
pub mod Letters
pub mod Common
