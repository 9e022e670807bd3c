-- Tokens have one tree of the grammar within a limit, or one syntax error.
-- A machine takes one token after another and builds a tree (`Held`). It takes the tokens of each tree (`Takes`) and holds the tokens that it took (`Grows`), and all that it has open can be closed (`Closes`).
-- So no two trees have the same tokens (`OneTree`), and the machine with its tests of the profile and the limit is a parser (`Parser`).
pub mod Held
pub mod Takes
pub mod Grows
pub mod Closes
pub mod OneTree
pub mod Parser
