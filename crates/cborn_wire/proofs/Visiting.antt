-- What a reader of heads makes of the levels, and of what its visitor holds, step by step, is what the machine makes of the bytes.
pub mod Counting
pub mod Taking
pub mod Pieces
pub mod Heads
pub mod Ending
pub mod Leaves
pub mod Runs
