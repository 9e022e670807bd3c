pub mod OpenNodes
pub mod ItemReading
pub mod FeederView
pub mod FeedingCode
pub mod Leaves
pub mod ShortIntegers
