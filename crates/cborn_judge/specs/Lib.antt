pub mod Common
pub mod Reasons
pub mod Flaws
pub mod Defects
pub mod Departures
pub mod shared
pub mod devices
