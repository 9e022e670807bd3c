pub mod Common
pub mod Held
pub mod Canonical
pub mod Streams
pub mod Answers
pub mod Comparison
pub mod CountAnswers
