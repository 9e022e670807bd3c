-- What is at the front of bytes as a head: what `read_head` answers, and what the machine makes of that.
pub mod InitialBytes
pub mod HeadFronts
pub mod HeadSteps
