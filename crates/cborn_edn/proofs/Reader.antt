-- The reader hands over what a text notates, or answers why it notates nothing.
-- What it keeps shows a state of the machine of tokens (`Showing`): an entry for each open bracket (`Opened`, `Counts`), and the pieces of strings (`Modest`).
-- A token changes both alike: it opens a bracket or is a separator (`Turning`, `Inverted`), is a leaf (`Put`), is a piece of a string (`Built`, `Joints`, `Utf8`), ends a string or a bracket (`Closed`, `Rows`, `Settling`), or is refused (`Stepping`, `Going`). The end of the text is in `Ending`.
-- Tokens that are found without the lexer are in `CommonTokens`, `Items`, `Blocks`, `NextPieces` and `Taking`, and answers in `Results`.
pub mod Opened
pub mod Results
pub mod Joints
pub mod Showing
pub mod Rows
pub mod Closed
pub mod Built
pub mod Put
pub mod Modest
pub mod Inverted
pub mod Turning
pub mod CommonTokens
pub mod Items
pub mod Utf8
pub mod NextPieces
pub mod Blocks
pub mod Going
pub mod Counts
pub mod Stepping
pub mod Ending
pub mod Settling
pub mod Taking
