-- The definitions over nodes and items, in std's words, as loops over slices meet them.
pub mod Trees
pub mod Fitting
pub mod Values
pub mod Validating
pub mod Deciding
pub mod Meanings
