-- What was handed over, as one token after another is taken.
pub mod Handing
pub mod Silent
pub mod Closings
pub mod Strings
pub mod Fitting
