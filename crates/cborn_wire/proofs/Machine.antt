-- The machine that takes one byte after another takes what nodes spell, and what it has is what was read.
-- `Containers` says when a container is whole, and what it is then. The machine takes heads, items, and what is open (`Takes`); each state that bytes make is sound, and so is a whole run (`Sound`).
-- So what some bytes make is known, and each state that lives can come to an end of complete items (`SomeEnd`).
pub mod Running
pub mod Containers
pub mod TakesHeads
pub mod TakesItems
pub mod TakesOpen
pub mod SoundItems
pub mod SoundSteps
pub mod SoundRuns
pub mod WholeFront
pub mod SomeEnd
pub mod Pieces
