pub mod Building
pub mod Encoding
pub mod Hints
pub mod Marks
pub mod Encoders
pub mod Rising
pub mod Following
