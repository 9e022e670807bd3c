pub mod TreeFalls
pub mod ValueCode
pub mod ItemFalls
pub mod Pairs
