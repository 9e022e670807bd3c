pub mod Machine
pub mod InitialBytes
pub mod Ground
pub mod Visiting
pub mod Spelling
