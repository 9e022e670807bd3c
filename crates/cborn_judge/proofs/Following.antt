-- Bytes that are their own deterministic encodings, seen as their heads are read.
pub mod Levels
pub mod Nodes
pub mod Holding
