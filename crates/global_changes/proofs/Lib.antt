pub mod Changed
pub mod Indexed
