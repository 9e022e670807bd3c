pub mod Faults
pub mod Hints
pub mod Paths
pub mod devices
