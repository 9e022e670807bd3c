-- A node that means an item has no defect exactly if it spells the deterministic encoding of the item.
pub mod Tidying
pub mod Checking
