pub mod Cells
pub mod Typed
pub mod Steps
pub mod Found
pub mod Kept
pub mod Heaps
pub mod Turned
