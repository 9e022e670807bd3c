-- What is answered where two inputs are compared by their encodings.
pub mod Apart
pub mod Compared
