pub mod Shown
pub mod RunLines
pub mod CodeRow
pub mod CodeEnds
pub mod Examples
