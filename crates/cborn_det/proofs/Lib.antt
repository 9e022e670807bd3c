pub mod Common
pub mod Rising
pub mod Reading
pub mod Canon
pub mod Arranging
pub mod Cutting
pub mod Steps
pub mod Room
