-- A walk over the first bytes of an input.
pub mod Places
pub mod Levels
pub mod Whole
pub mod Differences
