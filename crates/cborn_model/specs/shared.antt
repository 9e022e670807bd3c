pub mod TreeCode
pub mod OrderLaws
pub mod Walks
pub mod Runs
