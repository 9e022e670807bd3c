-- What a reader gives for the bytes that it was fed: by pieces, as a whole, or up to the first item.
pub mod FeederLaws
pub mod Outcomes
pub mod ItemSteps
