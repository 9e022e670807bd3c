-- A text has one list of tokens, or one lexical fault; and what crates above need of its tokens.
-- They need how a scan goes on from token to token (`Progress`), and how long the contents of tokens are together (`Weights`).
pub mod Parts
pub mod Chains
pub mod Progress
pub mod Weights
