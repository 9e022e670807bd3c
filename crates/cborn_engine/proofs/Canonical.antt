-- What is encoded of what an input holds is its canonical form, one for all inputs that hold the same items.
pub mod Proper
pub mod FixedText
pub mod PlainText
pub mod Canonicity
pub mod Headline
pub mod OfBytes
pub mod NormalForm
