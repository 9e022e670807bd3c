pub mod Common
pub mod Det
pub mod Appending
pub mod shared
pub mod devices
