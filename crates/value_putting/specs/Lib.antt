pub mod Parts
pub mod CodeOpening
