-- What loops know that read an input by pieces, or write an answer.
pub mod Counted
pub mod Coming
pub mod Feeding
pub mod Judging
pub mod Collecting
pub mod Written
