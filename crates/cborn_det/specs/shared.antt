pub mod Distinct
