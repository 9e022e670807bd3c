pub mod Counting
pub mod Encoding
pub mod Malformed
pub mod Counts
pub mod Tops
pub mod CuttingCode
pub mod Judging
