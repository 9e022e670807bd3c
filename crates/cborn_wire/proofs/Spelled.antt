-- What nodes spell is bytes, and bytes have one reading, or one fault.
-- The laws (`OneReading`, `FaultLaws`) follow from the machine: it takes each reading, and has one state for some bytes. `SlotLaws` has what it fails for, `Reasons` and `GoingOn` say the same without slots.
pub mod AllBytes
pub mod TreeLists
pub mod OneReading
pub mod SlotLaws
pub mod Reasons
pub mod GoingOn
pub mod FaultLaws
