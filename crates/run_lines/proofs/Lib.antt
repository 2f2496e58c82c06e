pub mod Rows
pub mod Structs
pub mod Texts
pub mod Ranges
pub mod Globals
pub mod Examples
