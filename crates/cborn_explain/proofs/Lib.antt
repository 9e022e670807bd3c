pub mod Common
pub mod Walking
