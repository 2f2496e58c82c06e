pub mod Ways
pub mod About
pub mod Lefts
pub mod Parts
pub mod CodeWays
pub mod CodeInside
pub mod CodeWalks
pub mod CodeParts
