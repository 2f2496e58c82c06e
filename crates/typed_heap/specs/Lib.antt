pub mod CodeCells
pub mod CodeWays
pub mod CodeTurned
