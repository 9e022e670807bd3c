pub mod Between
pub mod Texts
