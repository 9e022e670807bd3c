-- When items are the same, and how a comparison of slices and of maps decides it.
-- That it is an equivalence comes first, then maps by a search among their pairs, and then what the loops of `same` meet.
pub mod Rearranging
pub mod Sameness
pub mod Matching
pub mod Comparing
