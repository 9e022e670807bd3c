-- A node means one item, or has one first flaw, and never both.
pub mod Meanings
pub mod Judging
pub mod Placing
