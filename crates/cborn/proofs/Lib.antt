pub mod Words
pub mod Refusals
