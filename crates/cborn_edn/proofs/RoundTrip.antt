-- The fixed notation of nodes reads back as these nodes, but for their places: whatever tokens differ from its own only in their places say them (`Retelling`).
pub mod Unplaced
pub mod Back
pub mod Retelling
