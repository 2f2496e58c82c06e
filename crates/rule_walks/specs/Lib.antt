pub mod Balanced
pub mod Walk
pub mod CodeWalks
