-- What is answered for an input that has to hold exactly one item.
pub mod Second
pub mod Answered
pub mod Compared
pub mod Refused
pub mod Any
pub mod Streamed
pub mod Judged
