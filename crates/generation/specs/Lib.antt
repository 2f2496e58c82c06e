pub mod Guards
pub mod Generate
pub mod Refused
pub mod SameEnds
pub mod WellFormed
