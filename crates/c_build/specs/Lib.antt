pub mod CodeValues
pub mod Parts
pub mod Void
