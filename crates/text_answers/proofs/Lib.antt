pub mod Told
pub mod OneAnswer
pub mod WellTyped
