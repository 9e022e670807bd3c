-- The nodes of a text fit their widths where there is no meaning error, and there is a first meaning error where there is any.
pub mod Earliest
pub mod NoError
pub mod Fit
pub mod Sound
